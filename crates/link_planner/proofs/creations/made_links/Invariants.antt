use Rattle.std.proofs.Common.{◌≡◌, ◌++◌}
use Rattle.link_planner.specs.Creations.{made_links}
use Rattle.link_planner.proofs.creations.made_links.Given as goal

-- the links so far and those that are left are all
abbrev pub invariant-loop-pair : goal.invariant-loop-pair
invariant-loop-pair l = l.list.items ++ made_links l.pair-iterator ≡ made_links l.links.entries

use Rattle.std.proofs.Common.{◌≡◌, map, take}
use Rattle.net_model.specs.Lists.{NetData}
use Rattle.link_step.proofs.Writing.{written_on, down_link}
use Rattle.link_step.proofs.lower.lower_each.Given as goal

-- the links of the names before the index are down
abbrev pub invariant-loop-name : goal.invariant-loop-name
invariant-loop-name l = let start : NetData = l.initial.parts in l.parts ≡ record start { links = map (written_on down_link (take l.name-index l.falls)) start.links }

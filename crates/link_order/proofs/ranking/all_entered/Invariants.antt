use Rattle.std.proofs.Common.{◌≡◌, take}
use Rattle.std.specs.List.{filter_map}
use Rattle.merge_model.specs.Members.{entered_over}
use Rattle.link_order.proofs.ranking.all_entered.Given as goal

-- those of the entries so far
abbrev pub invariant-loop-entry : goal.invariant-loop-entry
invariant-loop-entry l = l.members.items ≡ filter_map (entered_over l.net.links) (take l.entry-index l.entries)

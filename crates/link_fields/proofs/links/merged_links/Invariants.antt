use Rattle.std.proofs.Common.{◌≡◌, map, take}
use Rattle.merge_model.specs.Merged.{merged_link}
use Rattle.link_fields.proofs.links.merged_links.Given as goal

-- those so far
abbrev pub invariant-loop-at : goal.invariant-loop-at
invariant-loop-at l = l.links.items ≡ map (merged_link l.members) (take l.at l.members)

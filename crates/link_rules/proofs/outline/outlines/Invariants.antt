use Rattle.std.proofs.Common.{◌≡◌, map, take}
use Rattle.merge_model.specs.Merged.{merged_link}
use Rattle.link_rules.specs.Outline.{outline}
use Rattle.link_rules.proofs.outline.outlines.Given as goal

-- those of the links so far
abbrev pub invariant-loop-at : goal.invariant-loop-at
invariant-loop-at l = l.links.items ≡ map (λ m. outline (merged_link l.members m)) (take l.at l.members)

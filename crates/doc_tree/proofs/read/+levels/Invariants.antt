use Rattle.std.proofs.Common.{◌≡◌, drop}
use Rattle.serde_json.specs.View.{items_view, members_view}
use Rattle.doc_tree.specs.Reading.{items_within, members_within}
use Rattle.doc_tree.proofs.read.+levels.Given as goal

abbrev pub invariant-items_fit-loop-item : goal.invariant-items_fit-loop-item
invariant-items_fit-loop-item l = items_within l.room (items_view (drop l.item-index l.item-items)) ≡ items_within l.room (items_view l.item-items)

abbrev pub invariant-members_fit-loop-member : goal.invariant-members_fit-loop-member
invariant-members_fit-loop-member l = members_within l.room (members_view l.member-iterator) ≡ members_within l.room (members_view l.members.entries)

use Rattle.doc_tree.proofs.TreeLemmas.{ItemsMade, MembersMade}
use Rattle.doc_tree.proofs.read.+trees.Given as goal

abbrev pub invariant-map_of-loop-key : goal.invariant-map_of-loop-key
invariant-map_of-loop-key l = MembersMade l.room l.fn.members.entries l.key-iterator l.pairs.items

abbrev pub invariant-list_of-loop-item : goal.invariant-list_of-loop-item
invariant-list_of-loop-item l = ItemsMade l.room l.fn.items.items l.item-iterator.rest.items l.trees.items

use Rattle.std.proofs.Common.{◌≡◌, ◌≤◌, ◌+◌, ◌*◌, ◌++◌, drop, string_bytes}
use Rattle.doc_tree.specs.Shape.{shape, levels, pairs_levels, shapes_levels}
use Rattle.yaml_text.specs.Layout.{joined, pairs_lines, items_lines}
use Rattle.yaml_text.specs.Pieces.{pairs_text, lead_of}
use Rattle.yaml_text.proofs.Walk.{pairs_seen, items_seen}
use Rattle.yaml_text.proofs.layout.+layout.Given as goal

abbrev pub invariant-append_pairs-loop-key : goal.invariant-append_pairs-loop-key
invariant-append_pairs-loop-key l = record {
  shown : string_bytes l.out ++ joined (pairs_lines (lead_of l.first l.column) l.column (pairs_seen (drop l.key-index l.key-items))) ≡ string_bytes l.fn.out ++ pairs_text l.column (pairs_seen l.key-items);
  deep : pairs_levels (pairs_seen (drop l.key-index l.key-items)) ≤ pairs_levels (pairs_seen l.key-items);
}

abbrev pub invariant-append_items-loop-tree : goal.invariant-append_items-loop-tree
invariant-append_items-loop-tree l = record {
  shown : string_bytes l.out ++ joined (items_lines l.column (items_seen (drop l.tree-index l.tree-items))) ≡ string_bytes l.fn.out ++ joined (items_lines l.column (items_seen l.tree-items));
  deep : shapes_levels (items_seen (drop l.tree-index l.tree-items)) ≤ shapes_levels (items_seen l.tree-items);
}

abbrev pub decreases-push_pair : goal.decreases-push_pair
decreases-push_pair l = 4 * levels (shape l.tree.now) + 1

abbrev pub decreases-append_below_key : goal.decreases-append_below_key
decreases-append_below_key l = 4 * levels (shape l.tree.now)

abbrev pub decreases-append_pairs : goal.decreases-append_pairs
decreases-append_pairs l = 4 * pairs_levels (pairs_seen l.pairs.now.items) + 2

abbrev pub decreases-append_items : goal.decreases-append_items
decreases-append_items l = 4 * shapes_levels (items_seen l.trees.now.items) + 2

abbrev pub decreases-push_item : goal.decreases-push_item
decreases-push_item l = 4 * levels (shape l.tree.now) + 1

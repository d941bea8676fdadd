-- The text of a tree reads as the tree with its pairs in order.
use Rattle.std.proofs.Common.{◌≡◌, ◌∙◌, ◌≤◌, ℕ, List, length, true, Some, None, ap, arith}
use Rattle.std.specs.Prelude.{nat_le, Ok}
use Rattle.std.specs.Str.{IsUtf8}
use Rattle.std.proofs.lemmas.Str.{is_utf8-from_IsUtf8}
use Rattle.std.proofs.lemmas.Bool.{le-ltb, le-leb}
use Rattle.serde_json.specs.Data.{Data, depth}
use Rattle.serde_json.specs.Read.{read, max_depth}
use Rattle.doc_tree.specs.Shape.{Shape, levels}
use Rattle.doc_tree.specs.Order.{in_order}
use Rattle.doc_tree.specs.JsonTree.{shape_of, not_whole, tree_of_value, json_of, json_tree}
use Rattle.doc_tree.specs.JsonText.{fits, data_of}
use Rattle.doc_tree.proofs.JsonLemmas.{shape_of-data_of, not_whole-data_of, fits-in_order, levels-in_order, depth-data_of}
use Rattle.doc_tree.specs.declared.limits.TheConstants.{MAX_BYTES, MAX_LEVELS}

of_value : (d : Data) (s : Shape) → shape_of d ≡ s → not_whole d ≡ None → levels s ≤ MAX_LEVELS → tree_of_value (Some d) ≡ Ok s
of_value d s is whole low =
    let fine : nat_le (levels (shape_of d)) MAX_LEVELS ≡ true = le-leb (levels (shape_of d)) MAX_LEVELS (omega (arith, ap levels is, low)) in
    rw (fine, whole) (ap Ok is)

json_of-text : (bytes : List ℕ) (d : Data) → IsUtf8 bytes → read bytes ≡ Some d → json_of bytes ≡ Some d
unfolding json_of
json_of-text bytes d utf8 e = rw (is_utf8-from_IsUtf8 bytes utf8) e

of_text : (bytes : List ℕ) (d : Data) (s : Shape) → length bytes ≤ MAX_BYTES → json_of bytes ≡ Some d → tree_of_value (Some d) ≡ Ok s → json_tree bytes ≡ Ok s
unfolding json_tree
of_text bytes d s small is e = rw (le-ltb MAX_BYTES (length bytes) small, is) e

-- d is the value that was written, whose text is read by `serde_json` as d again where it nests no deeper than that reads
pub reads_back : (bytes : List ℕ) (d : Data) (s : Shape) → IsUtf8 bytes → (depth d ≤ max_depth → read bytes ≡ Some d) → fits s ≡ true → d ≡ data_of (in_order s) → levels s ≤ MAX_LEVELS
    → length bytes ≤ MAX_BYTES → json_tree bytes ≡ Ok (in_order s)
reads_back bytes d s utf8 back fit is low small =
    let t : Shape = in_order s in
    let deep : levels t ≤ MAX_LEVELS = omega (arith, levels-in_order s, low) in
    let nests : depth d ≤ max_depth = omega (arith, ap depth is, depth-data_of t, deep) in
    of_text bytes d t small (json_of-text bytes d utf8 (back nests))
    (of_value d t (ap shape_of is ∙ shape_of-data_of t (fits-in_order s fit)) (ap not_whole is ∙ not_whole-data_of t) deep)

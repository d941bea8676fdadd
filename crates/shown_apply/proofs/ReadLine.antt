-- The line of JSON of a network is read as the document that it shows, too.
use Rattle.std.proofs.Common.{◌≡◌, ◌∙◌, ◌≤◌, List, [], ◌∷◌, true, length, Ok, Err, refl, sym, ap, ap₂, subst, arith}
use Rattle.std.specs.List.Sorted.{IsPermutation}
use Rattle.std.proofs.lemmas.List.Sorted.{length_permutation}
use Rattle.doc_tree.specs.Shape.{Shape, is_distinct}
use Rattle.doc_tree.specs.Order.{in_order}
use Rattle.doc_tree.specs.JsonTree.{json_tree}
use Rattle.doc_tree.specs.declared.limits.TheConstants.{MAX_BYTES}
use Rattle.doc_tree.proofs.lemmas.Lines.{json_line}
use Rattle.net_model.specs.NetData.{NetData, IsNet}
use Rattle.net_model.proofs.lemmas.FactsHold.{facts}
use Rattle.net_search.specs.Ranges.{Ranges}
use Rattle.tree_schema.specs.Reading.{Steps, Reading, given}
use Rattle.tree_schema.specs.Faults.{told}
use Rattle.document_schema.specs.Document.{document as read_document, doc}
use Rattle.order_laws.specs.Alike.{AreAlike}
use Rattle.order_laws.specs.Reordered.{IsReordered}
use Rattle.show_core.specs.Network.{whole_tree}
use Rattle.show_core.proofs.lemmas.NetTrees.{all_writable}
use Rattle.top_model.specs.Orders.{tree_of}
use Rattle.shown_model.specs.Shown.{shown_doc}
use Rattle.shown_model.specs.Printable.{IsPrintable}
use Rattle.shown_reading.specs.Laws.{ReadsAllAsShown, AnswersAsShown}
use Rattle.shown_apply.specs.Laws.{state_line, ReadsAsShown}
use Rattle.shown_apply.proofs.Low.{simple_numbers, simple_utf8}
use Rattle.shown_apply.proofs.NetTrees.{whole_simple}
use Rattle.shown_apply.proofs.ReadAgain.{known_tree}

-- the line begins as JSON does
json_tree_of : (net : NetData) (s : Shape) → json_tree (state_line net) ≡ Ok s → tree_of (state_line net) ≡ Ok s
unfolding tree_of
json_tree_of net s read = rw read refl

-- notes in another order than none are none
no_notes : (notes : List Steps) → IsPermutation [] notes → notes ≡ []
no_notes [] is = refl
no_notes (n ∷ notes) is = let e = length_permutation [] (n ∷ notes) is in absurd (omega (arith, e))

-- what is alike to a value without notes is the same
alike_given : {X : Type 0} (x : X) (r : Reading X) → AreAlike (given x) r → r ≡ given x
alike_given x (Ok (y, notes)) alike = ap₂ (λ (z : _) (ns : List Steps). Ok (z, ns)) (sym alike.0) (no_notes notes alike.1)
alike_given x (Err refusal) alike = absurd alike

same_reading : {X : Type 0} (x : X) (r s : Reading X) → r ≡ given x → AreAlike r s → s ≡ r
same_reading x r s there alike = alike_given x s (subst (λ q. AreAlike q s) there alike) ∙ sym there

-- the line of the whole tree is read as that tree in order
line_reads : (net : NetData) → IsNet net → Ranges net → length (state_line net) ≤ MAX_BYTES → json_tree (state_line net) ≡ Ok (in_order (whole_tree net))
line_reads net is ranges within =
    let tree = whole_tree net in
    let writable = all_writable net (facts net is) in
    let simple = whole_simple net ranges in
    json_line tree writable.distinct (simple_numbers tree simple) (simple_utf8 tree simple) (omega (arith, writable.depth)) within

module _
    (sorted : (s : Shape) → is_distinct s ≡ true → IsReordered s (in_order s))
    (alike : (s t : Shape) → IsReordered s t → AreAlike (read_document s) (read_document t))
    (whole : ReadsAllAsShown)
    (answers : AnswersAsShown) where
  -- that tree is the same document
  same_document : (net : NetData) → IsNet net → Ranges net → IsPrintable net → read_document (in_order (whole_tree net)) ≡ read_document (whole_tree net)
  same_document net is ranges printable =
      let tree = whole_tree net in
      same_reading _ (read_document tree) (read_document (in_order tree)) (whole net is ranges printable) (alike tree (in_order tree) (sorted tree (all_writable net (facts net is)).distinct))

  pub line_shown : ReadsAsShown state_line
  line_shown net is ranges printable within =
      known_tree (state_line net) (in_order (whole_tree net)) (shown_doc net) (json_tree_of net (in_order (whole_tree net)) (line_reads net is ranges within))
      (ap (told doc) (same_document net is ranges printable) ∙ answers net is ranges printable)

-- The YAML text of a network is read as the document that it shows, which changes nothing.
use Rattle.std.proofs.Common.{◌≡◌, ◌∙◌, ◌≤◌, ℕ, cond, List, ◌++◌, Bool, true, false, Result, length, codes, Ok, refl, ap, ap₂, subst, arith}
use Rattle.std.specs.List.{list_any}
use Rattle.std.specs.Str.{IsUtf8}
use Rattle.std.proofs.lemmas.Str.{IsUtf8-from_ascii}
use Rattle.document_model.specs.declared.Doc.{Doc}
use Rattle.doc_tree.specs.Shape.{Shape, is_distinct, levels}
use Rattle.doc_tree.specs.Integers.{integers_fit}
use Rattle.doc_tree.specs.declared.limits.TheConstants.{MAX_BYTES, MAX_LEVELS}
use Rattle.net_model.specs.NetData.{NetData, IsNet}
use Rattle.net_model.proofs.lemmas.FactsHold.{facts}
use Rattle.net_search.specs.Ranges.{Ranges}
use Rattle.yaml_read.specs.Reading.{reading}
use Rattle.yaml_read.specs.Standing.{StandsFor}
use Rattle.yaml_text.specs.Layout.{is_filled_map, yaml_text_of}
use Rattle.yaml_text.specs.Scalars.{is_plain, is_control, in_double_quotes, in_single_quotes, printed}
use Rattle.show_core.specs.Network.{whole_tree}
use Rattle.show_core.proofs.lemmas.NetTrees.{all_writable}
use Rattle.merge_model.specs.MergedNet.{unless_refused, merge}
use Rattle.top_model.specs.Orders.{begins_json, tree_of, document, document_of_tree, and_then, with_fault}
use Rattle.top_model.specs.declared.report.Cause.{Cause}
use Rattle.top_model.specs.declared.report.DocFault.TheVariants.{Schema}
use Rattle.shown_model.specs.Shown.{shown_doc}
use Rattle.shown_reading.specs.Laws.{AnswersAsShown}
use Rattle.shown_merge.specs.Laws.{MergesToItself}
use Rattle.shown_apply.specs.Laws.{state_text, ReadsAsShown, ShownIsSame, ChangesNothing}
use Rattle.shown_apply.proofs.Low.{low_ascii, simple_fits}
use Rattle.shown_apply.proofs.YamlLow.{map_text_low}
use Rattle.shown_apply.proofs.NetTrees.{whole_simple}

-- however the first key is quoted, the text begins with no bracket
first_by : (t u : Bool) (behind line rest : List ℕ)
    → begins_json (((cond t (codes "dns-resolver") (cond u (in_double_quotes (codes "dns-resolver")) (in_single_quotes (codes "dns-resolver"))) ++ behind) ++ line) ++ rest) ≡ false
first_by true u behind line rest = refl
first_by false true behind line rest = refl
first_by false false behind line rest = refl

yaml_first : (net : NetData) → begins_json (yaml_text_of (whole_tree net)) ≡ false
unfolding yaml_text_of printed
yaml_first net = first_by (is_plain (codes "dns-resolver")) (list_any is_control (codes "dns-resolver")) _ _ _

-- a text that doesn't begin as JSON does is read as YAML
yaml_tree : (bytes : List ℕ) (s : Shape) → begins_json bytes ≡ false → reading bytes ≡ Ok s → tree_of bytes ≡ Ok s
unfolding tree_of
yaml_tree bytes s first read = rw (first, read) refl

-- what is read of a text whose tree is known
pub known_tree : (bytes : List ℕ) (s : Shape) (doc : Doc) → tree_of bytes ≡ Ok s → document_of_tree s ≡ Ok doc → document bytes ≡ Ok doc
unfolding document
known_tree bytes s doc is read = ap (λ (r : Result Shape Cause). and_then r (λ tree. with_fault Schema (document_of_tree tree))) is ∙ ap (with_fault Schema) read

-- merging what is shown changes nothing
pub shown_same : ((net : NetData) → IsNet net → MergesToItself net) → ShownIsSame
unfolding merge
shown_same laws net is = ap₂ unless_refused (laws net is).same (laws net is).rules

same_doc : (doc other : Doc) (r : Result Doc Cause) → r ≡ Ok doc → r ≡ Ok other → doc ≡ other
same_doc doc other r a b = cc

-- so whatever is read of the text changes nothing
pub changes_nothing : (text : NetData → List ℕ) → ReadsAsShown text → ShownIsSame → ChangesNothing text
changes_nothing text reads same net doc is ranges printable within read =
    let e = same_doc (shown_doc net) doc (document (text net)) (reads net is ranges printable within) read in
    subst (λ (d : Doc). merge net d ≡ Ok net) e (same net is)

module _
    (stands : (t : Shape) → is_filled_map t ≡ true → is_distinct t ≡ true → integers_fit t ≡ true → levels t ≤ MAX_LEVELS → StandsFor (yaml_text_of t) t)
    (read : (bytes : List ℕ) (t : Shape) → length bytes ≤ MAX_BYTES → IsUtf8 bytes → StandsFor bytes t → reading bytes ≡ Ok t)
    (answers : AnswersAsShown) where
  -- the text of the whole tree is read as that tree
  yaml_reads : (net : NetData) → IsNet net → Ranges net → length (yaml_text_of (whole_tree net)) ≤ MAX_BYTES → reading (yaml_text_of (whole_tree net)) ≡ Ok (whole_tree net)
  yaml_reads net is ranges within =
      let tree = whole_tree net in
      let writable = all_writable net (facts net is) in
      let simple = whole_simple net ranges in
      let ascii = low_ascii (yaml_text_of tree) (map_text_low _ simple) in
      read (yaml_text_of tree) tree within (IsUtf8-from_ascii (yaml_text_of tree) ascii) (stands tree refl writable.distinct (simple_fits tree simple) (omega (arith, writable.depth)))

  -- and so as the document that it shows
  pub yaml_shown : ReadsAsShown state_text
  yaml_shown net is ranges printable within =
      let bytes = yaml_text_of (whole_tree net) in
      known_tree bytes (whole_tree net) (shown_doc net) (yaml_tree bytes (whole_tree net) (yaml_first net) (yaml_reads net is ranges within)) (answers net is ranges printable)

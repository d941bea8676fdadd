use Rattle.std.proofs.Common.{◌≡◌, ◌∙◌, ℕ, Vec, Global, length, ap, false, arith, string_bytes}
use Rattle.std.proofs.lemmas.Str.{IsUtf8-string_bytes}
use Rattle.serde_json.specs.Written.{compact_text, has_float}
use Rattle.serde_json.specs.View.{view}
use Rattle.doc_tree.specs.Shape.{shape}
use Rattle.doc_tree.specs.Order.{in_order}
use Rattle.doc_tree.proofs.JsonLemmas.{value_of-in_order, has_float-data_of}
use Rattle.doc_tree.proofs.ReadsBack.{reads_back}
use Rattle.doc_tree.proofs.write.json_of_tree.Goals as goal

pub returns-clause-text : goal.returns-clause-text
returns-clause-text c =
    let made = c.in_ok-value.ensures in
    let is = made.1 ∙ value_of-in_order (shape c.args.tree.now) c.requires in
    let plain : has_float (view c.in_ok-value.value) ≡ false = ap has_float is ∙ has_float-data_of (in_order (shape c.args.tree.now)) in
    (made.0, ap (λ (v : Vec ℕ Global). v.items) c.into_bytes.ensures.value ∙ (c.in_ok-to_string.ensures.text plain ∙ ap compact_text is))

pub returns-clause-reads_back : goal.returns-clause-reads_back
returns-clause-reads_back c low small =
    let made = c.in_ok-value.ensures in
    let tree = shape c.args.tree.now in
    let string = c.in_ok-to_string.field-0 in
    let is : c.into_bytes.result.items ≡ string_bytes string = ap (λ (v : Vec ℕ Global). v.items) c.into_bytes.ensures.value in
    rw is
    (reads_back (string_bytes string) (view c.in_ok-value.value) tree (IsUtf8-string_bytes string) c.in_ok-to_string.ensures.reads_back made.0 (made.1 ∙ value_of-in_order tree c.requires) low
    (omega (arith, ap length is, small)))

use Rattle.std.proofs.Common.{◌≡◌, ◌∙◌, ℕ, List, ap, sym, subst, rules}
use Rattle.std.specs.Prelude.{Err}
use Rattle.std.proofs.lemmas.Result.{err_from_is_err_and}
use Rattle.serde_json.specs.View.{view}
use Rattle.doc_tree.specs.Shape.{shape}
use Rattle.doc_tree.specs.JsonTree.{Gives, json_of, json_tree, tree_of_value}
use Rattle.doc_tree.specs.Reading.{ReadsValue}
use Rattle.doc_tree.specs.declared.read.JsonFault.{JsonFault}
use Rattle.doc_tree.specs.declared.read.JsonFault.TheVariants.{NotJson, OutOfMemory}
use Rattle.doc_tree.proofs.Answered.{too_large, in_limit, too_deep, whole}
use Rattle.doc_tree.proofs.read.read_tree.Goals as goal

fault : (bytes : List ℕ) (f : JsonFault) → json_tree bytes ≡ tree_of_value (json_of bytes) → ReadsValue bytes (Err f) → Gives (json_tree bytes) (Err f)
fault bytes NotJson e h = e ∙ ap tree_of_value h
fault bytes OutOfMemory e h = tt
fault bytes _ e h = absurd h

pub returns-then-bytes-gt-MAX_BYTES : goal.returns-then-bytes-gt-MAX_BYTES
returns-then-bytes-gt-MAX_BYTES c = too_large _ (search rules)

pub returns-in_err-value : goal.returns-in_err-value
returns-in_err-value c =
    let p = err_from_is_err_and c.from_residual.result c.from_residual.ensures.1 in
    rw (p.1, p.2) (fault c.args.bytes.now _ (in_limit _ (search rules)) c.in_err-value.ensures)

pub returns-in-Ok : goal.returns-in-Ok
returns-in-Ok c =
    let made = c.in-Ok.ensures in
    in_limit c.args.bytes.now (search rules) ∙ (ap tree_of_value c.in_ok-value.ensures ∙ whole (view c.in_ok-value.value) (shape c.in-Ok.tree) made.0 made.1 made.2)

pub returns-in-Err-NotWhole : goal.returns-in-Err-NotWhole
returns-in-Err-NotWhole c =
    let found = rw c.in-Err-NotWhole.field-0-is at c.in-Err-NotWhole.ensures in
    let is = in_limit c.args.bytes.now (search rules) ∙ ap tree_of_value c.in_ok-value.ensures in
    subst (λ answer. Gives answer (Err c.fault_at.result)) (sym is) (c.fault_at.ensures (view c.in_ok-value.value) c.in_ok-value.ensures found)

pub returns-in-Err-TooDeep : goal.returns-in-Err-TooDeep
returns-in-Err-TooDeep c =
    let deep = rw c.in-Err-TooDeep.field-0-is at c.in-Err-TooDeep.ensures in
    in_limit c.args.bytes.now (search rules) ∙ (ap tree_of_value c.in_ok-value.ensures ∙ too_deep (view c.in_ok-value.value) deep)

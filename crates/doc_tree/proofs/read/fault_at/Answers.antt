use Rattle.std.proofs.Common.{◌≡◌, ◌∙◌, Option, Some, ap, sym, rules}
use Rattle.serde_json.specs.Data.{Data}
use Rattle.serde_json.specs.View.{view}
use Rattle.doc_tree.specs.Reading.{within}
use Rattle.doc_tree.specs.JsonTree.{json_of}
use Rattle.doc_tree.proofs.Answered.{too_deep, first_found}
use Rattle.doc_tree.proofs.read.fault_at.Goals as goal
use Rattle.doc_tree.specs.declared.limits.TheConstants.{MAX_LEVELS}

same : (o : Option Data) (d e : Data) → o ≡ Some d → o ≡ Some e → d ≡ e
same o d e p q = cc

pub returns-then-not-fits : goal.returns-then-not-fits
returns-then-not-fits c d is found =
    let this = same (json_of c.args.bytes.now) (view c.in-Ok.value) d c.in-Ok.ensures is in
    too_deep d (ap (within MAX_LEVELS) (sym this) ∙ (search rules))

pub returns-else-not-fits : goal.returns-else-not-fits
returns-else-not-fits c d is found =
    let this = same (json_of c.args.bytes.now) (view c.in-Ok.value) d c.in-Ok.ensures is in
    first_found d c.of.result (ap (within MAX_LEVELS) (sym this) ∙ (search rules)) (found ∙ ap Some (sym c.reverse.ensures.items ∙ sym c.of.ensures))

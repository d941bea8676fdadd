use Rattle.std.proofs.Common.{◌∙◌, not, ap, sym}
use Rattle.doc_tree.specs.Shape.{shape}
use Rattle.policy_model.specs.Places.{filled}
use Rattle.policy_values.specs.Tables.{found_in, filler, seen}
use Rattle.policy_values.proofs.Given.{within_given}
use Rattle.policy_values.proofs.value.within_limits.Goals as goal

pub returns : goal.returns
returns c =
    within_given (filled (filler (found_in c.args.captures.now (seen c.args.table.now))) (shape c.args.tree.now)) (shape c.in_ok-filled.field-0) c.in_ok-filled_count.field-0
    c.in_ok-filled_count.ensures (c.is_none.ensures ∙ ap not c.if-is_none.false) (sym c.in_ok-filled_fits-2.ensures ∙ c.if-not-branch.false) c.in_ok-filled.ensures

use Rattle.std.proofs.Common.{ap}
use Rattle.std.proofs.lemmas.Result.{err_from_is_err_and}
use Rattle.doc_tree.specs.Shape.{shape}
use Rattle.policy_lang.specs.Held.{data_of}
use Rattle.top_model.specs.Machine.{say_value}
use Rattle.top_model.specs.Said.{evaluated}
use Rattle.command_laws.proofs.lemmas.Evaluates.{value_text}
use Rattle.plain_commands.proofs.policy.value_text.Goals as goal

pub returns-in_err-tree : goal.returns-in_err-tree
returns-in_err-tree c =
    let p = err_from_is_err_and c.from_residual.result c.from_residual.ensures.1 in
    rw (p.1, p.2) (value_text (data_of c.args.policy.now) c.args.net.now c.in_err-tree.field-0.0 c.in_err-tree.ensures.value)

pub returns-in-Ok : goal.returns-in-Ok
returns-in-Ok c = (evaluated (shape c.in_ok-tree.tree), ap say_value c.in_ok-tree.ensures.value, c.in-Ok.ensures.text)

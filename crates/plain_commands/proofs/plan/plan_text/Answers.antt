use Rattle.std.proofs.Common.{sym, subst}
use Rattle.std.specs.Prelude.{IsTrue, List}
use Rattle.std.specs.List.{list_all}
use Rattle.net_model.specs.declared.Call.{Call}
use Rattle.net_text.specs.Line.{has_line}
use Rattle.answer_text.proofs.lemmas.Plans.{runs_have_lines}
use Rattle.plain_commands.proofs.plan.plan_text.Goals as goal

pub call_text-requires : goal.call_text-requires
call_text-requires c =
    subst (λ (calls : List Call). IsTrue (list_all has_line calls)) (sym c.as_slice.ensures.value) (runs_have_lines c.in_ok-calls.calls.items c.args.from.now c.args.to.now c.in_ok-calls.ensures.run)

use Rattle.std.proofs.Common.{◌∙◌, ap, refl, subst, sym, ℕ, List, [], ◌++◌}
use Rattle.std.specs.Prelude.{Ok, Err}
use Rattle.merge_model.specs.MergedNet.{merge}
use Rattle.top_model.specs.Machine.{plan_to}
use Rattle.top_model.specs.Said.{Says}
use Rattle.top_model.specs.Texts.{error_line}
use Rattle.top_model.specs.declared.report.Cause.TheVariants.{Done}
use Rattle.command_laws.proofs.lemmas.Evaluates.{answers_text, read_line}
use Rattle.plain_commands.proofs.policy.tell_plan.Goals as goal

pub returns-in-Ok-clause-told : goal.returns-in-Ok-clause-told
returns-in-Ok-clause-told g c =
    let t = c.in-Ok.ensures in
    record {
      answer = Ok t.0;
      answers = t.1;
      out_text = c.as_slice.result.now;
      err_text = c.args.notes.now ++ error_line Done;
      is_out = subst (λ (text : List ℕ). Says t.0 text) (sym c.as_slice.ensures.value) t.2;
      is_err = read_line c.args.doc.now Done c.args.notes.now c.requires.notes;
      spoken = c.tell_done.ensures.told;
    }

pub returns-in-Err-clause-told : goal.returns-in-Err-clause-told
returns-in-Err-clause-told g c =
    record {
      answer = Err c.in-Err.cause;
      answers = answers_text (λ net. plan_to c.args.batch net (merge net c.args.doc.now)) c.args.from.now c.in-Err.cause c.in-Err.ensures;
      out_text = [];
      err_text = c.args.notes.now ++ error_line c.in-Err.cause;
      is_out = refl;
      is_err = read_line c.args.doc.now c.in-Err.cause c.args.notes.now c.requires.notes;
      spoken = c.tell_refused.ensures.told;
    }

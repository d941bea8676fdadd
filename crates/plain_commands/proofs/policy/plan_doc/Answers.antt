use Rattle.std.proofs.Common.{◌∙◌, ap, inl, refl, []}
use Rattle.std.specs.Prelude.{Err}
use Rattle.top_model.specs.Texts.{error_line, note_lines}
use Rattle.top_model.specs.declared.report.Cause.TheVariants.{OutOfMemory}
use Rattle.plain_commands.proofs.policy.plan_doc.Goals as goal

pub tell_plan-requires-clause-notes : goal.tell_plan-requires-clause-notes
tell_plan-requires-clause-notes g c = c.as_slice.ensures.value ∙ c.in-Ok.ensures ∙ ap note_lines (c.deref.ensures.value ∙ c.items.ensures)

pub returns-in-Err-clause-told : goal.returns-in-Err-clause-told
returns-in-Err-clause-told g c =
    record {
      answer = Err OutOfMemory;
      answers = tt;
      out_text = [];
      err_text = error_line OutOfMemory;
      is_out = refl;
      is_err = inl refl;
      spoken = c.tell_refused.ensures.told;
    }

use Rattle.std.proofs.Common.{◌≡◌, ◌∙◌, ap, subst}
use Rattle.std.specs.Prelude.{is_some}
use Rattle.rollout_run.specs.Printing.{Prints}
use Rattle.rollout_run.specs.Whole.{text_of}
use Rattle.rollout_run.specs.declared.printing.Printed.TheVariants.{Whole}
use Rattle.top_model.specs.Orders.{Text}
use Rattle.top_model.specs.Texts.{error_line, note_lines}
use Rattle.top_model.specs.Told.{report_of}
use Rattle.top_model.specs.declared.report.Report.{Report}
use Rattle.top_model.specs.declared.report.Cause.{Cause}
use Rattle.rollout_top.specs.Rollouts.{halted_cause, cause_printed}
use Rattle.rollout_top.proofs.Tells.{all_printed, done_by, none_told}
use Rattle.rollout_top.proofs.run.carry_out.Goals as goal

pub returns : goal.returns
returns g c =
    let tells = g.W.Sink.tells in
    let doc = c.args.doc.now in
    let ended = c.roll_out-ended.result in
    let rolled = c.roll_out-ended.ensures in
    let between = c.print_notes-noted.new.err in
    let noted = c.print_notes-noted.result in
    let printed = c.print_error-printed.result in
    let notes : Prints g.W.Sink.tells Whole (note_lines c.args.doc.now.notes) (g.W.Sink.told c.args.err.now) (g.W.Sink.told c.print_notes-noted.new.err) c.print_notes-noted.result =
    subst (λ (text : Text). Prints g.W.Sink.tells Whole text (g.W.Sink.told c.args.err.now) (g.W.Sink.told c.print_notes-noted.new.err) c.print_notes-noted.result) c.requires.notes c.print_notes-noted.ensures in
    let line : Prints g.W.Sink.tells c.roll_out-ended.result.printed (error_line (halted_cause c.roll_out-ended.result.halted_by)) (g.W.Sink.told c.print_notes-noted.new.err) (g.W.Sink.told c.print_error-printed.new.err) c.print_error-printed.result =
    subst (λ (cause : Cause). Prints g.W.Sink.tells c.roll_out-ended.result.printed (error_line cause) (g.W.Sink.told c.print_notes-noted.new.err) (g.W.Sink.told c.print_error-printed.new.err) c.print_error-printed.result)
    c.halted_cause-cause.ensures c.print_error-printed.ensures in
    let reported : c.report.result ≡ report_of (cause_printed c.print_error-printed.result (halted_cause c.roll_out-ended.result.halted_by)) =
    c.report.ensures ∙ ap (λ (cause : Cause). report_of (cause_printed c.print_error-printed.result cause)) c.halted_cause-cause.ensures in
    record {
      err_between = between;
      noted = noted;
      notes = notes;
      last = c.roll_out-ended.new.core;
      ended = ended;
      rolled = rolled;
      printed = printed;
      line = line;
      reported = reported;
      acknowledged = λ told.
          (rolled.is_end c.requires.held).all (rolled.halted ∙ ap is_some (none_told ended.halted_by printed c.report.result.cause (ap (λ (r : Report). r.cause) reported) told));
      done = λ trust clean calm quiet_out quiet_err.
          done_by rolled.steps c.roll_out-ended.new.core ended.halted_by printed c.report.result rolled.halted_by reported
          (all_printed tells noted ended.printed printed (note_lines doc.notes) (text_of rolled.steps c.roll_out-ended.new.core) (error_line (halted_cause ended.halted_by))
          (g.W.Sink.told c.args.out.now) (g.W.Sink.told c.roll_out-ended.new.out) (g.W.Sink.told c.args.err.now) (g.W.Sink.told between) (g.W.Sink.told c.print_error-printed.new.err)
          notes rolled.prints line quiet_out quiet_err)
          (rolled.completes trust clean c.requires.held calm);
    }

-- How a service tells of its documents: to the errors the notes of each and why it stops, to the output a line for each that was
-- applied and marked. After a write that fails nothing more is written.
use Rattle.std.specs.Prelude.{◌≡◌, ◌⊎◌, ◌≤◌, ⊤, [], Bool, true, false, Result, Ok, Err}
use Rattle.host_core.specs.Faults.{Rose}
use Rattle.host_core.specs.Streams.{SinkView, Appends, AppendsSome}
use Rattle.host_core.specs.declared.Failed.{Failed}
use Rattle.top_model.specs.Orders.{Text}
use Rattle.top_model.specs.Texts.{status_of}
use Rattle.top_model.specs.Told.{report_of}
use Rattle.top_model.specs.declared.report.Report.{Report}
use Rattle.top_model.specs.declared.report.Cause.{Cause}
use Rattle.top_model.specs.declared.report.Cause.TheVariants.{WriteFault}

-- the output and the errors
pub record Sinks : Type 0 where
  pub out : SinkView
  pub err : SinkView

abbrev pub sinks : SinkView → SinkView → Sinks
sinks out err = record { out = out; err = err }

-- each sink got its text, and no count rose
pub record SpokeAll (tells : Type 0) (out_text err_text : Text) (old new : Sinks) : Type 0 where
  pub to_out : tells → Appends out_text old.out new.out
  pub to_err : tells → Appends err_text old.err new.err
  pub out_steady : new.out.faults ≡ old.out.faults
  pub err_steady : new.err.faults ≡ old.err.faults

-- one failed, and each got the beginning of its text: the output nothing, unless the errors got all of theirs
pub record SpokeSome (tells : Type 0) (out_text err_text : Text) (old new : Sinks) : Type 0 where
  pub rose : Rose old.out.faults new.out.faults ⊎ Rose old.err.faults new.err.faults
  pub to_out : tells → AppendsSome out_text old.out new.out
  pub to_err : tells → AppendsSome err_text old.err new.err
  pub stops : (tells → Appends [] old.out new.out) ⊎ (tells → Appends err_text old.err new.err)
  pub out_later : old.out.faults ≤ new.out.faults
  pub err_later : old.err.faults ≤ new.err.faults

abbrev pub WritesBoth : Type 0 → Text → Text → Sinks → Sinks → Result ⊤ Failed → Type 0
WritesBoth tells out_text err_text old new (Ok done) = SpokeAll tells out_text err_text old new
WritesBoth tells out_text err_text old new (Err failed) = SpokeSome tells out_text err_text old new

-- whether all was written so far, before and after
abbrev pub Speaks : Type 0 → Text → Text → Sinks → Sinks → Bool → Bool → Type 0
Speaks tells out_text err_text old new true true = SpokeAll tells out_text err_text old new
Speaks tells out_text err_text old new true false = SpokeSome tells out_text err_text old new
Speaks tells out_text err_text old new false true = ⊥
Speaks tells out_text err_text old new false false = SpokeAll tells [] [] old new

-- the report of a service that ends with this cause, where all was written or wasn't
abbrev pub told_as : Cause → Bool → Report
told_as cause true = report_of cause
told_as cause false = report_of (WriteFault (status_of cause))

-- it ends with this cause, behind these last words to the errors
pub record Tells (tells : Type 0) (text : Text) (cause : Cause) (old new : Sinks) (was_open : Bool) (told : Report) : Type 0 where
  pub is_open : Bool
  pub said : Speaks tells [] text old new was_open is_open
  pub report : told ≡ told_as cause is_open

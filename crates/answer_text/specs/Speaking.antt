-- How an answer is told to two sinks: the notes and the line of its cause to the errors, then its text to the output.
use Rattle.std.specs.Prelude.{◌≡◌, ◌⊎◌, ⊤, [], Result, Ok, Err}
use Rattle.host_core.specs.Faults.{Rose}
use Rattle.host_core.specs.Streams.{SinkView, Appends, AppendsSome}
use Rattle.host_core.specs.declared.Failed.{Failed}
use Rattle.top_model.specs.Orders.{Text}
use Rattle.top_model.specs.Texts.{status_of}
use Rattle.top_model.specs.Told.{report_of}
use Rattle.top_model.specs.declared.report.Report.{Report}
use Rattle.top_model.specs.declared.report.Cause.{Cause}
use Rattle.top_model.specs.declared.report.Cause.TheVariants.{WriteFault}

-- each sink got its text, and no count rose
pub record SpokeAll (tells : Type 0) (out_text err_text : Text) (out out_after err err_after : SinkView) : Type 0 where
  pub to_out : tells → Appends out_text out out_after
  pub to_err : tells → Appends err_text err err_after
  pub out_steady : out_after.faults ≡ out.faults
  pub err_steady : err_after.faults ≡ err.faults

-- one failed, and each got the beginning of its text: the output nothing, unless the errors got all of theirs
pub record SpokeSome (tells : Type 0) (out_text err_text : Text) (out out_after err err_after : SinkView) : Type 0 where
  pub rose : Rose out.faults out_after.faults ⊎ Rose err.faults err_after.faults
  pub to_out : tells → AppendsSome out_text out out_after
  pub to_err : tells → AppendsSome err_text err err_after
  pub stops : (tells → Appends [] out out_after) ⊎ (tells → Appends err_text err err_after)

-- both texts were written, or at a fault some of them
abbrev pub WritesBoth : Type 0 → Text → Text → SinkView → SinkView → SinkView → SinkView → Result ⊤ Failed → Type 0
WritesBoth tells out_text err_text out out_after err err_after (Ok done) = SpokeAll tells out_text err_text out out_after err err_after
WritesBoth tells out_text err_text out out_after err err_after (Err failed) = SpokeSome tells out_text err_text out out_after err err_after

-- All was written, and the report is of this cause; or some, and it is of a sink's fault with the status of this cause.
abbrev pub Spoken : Type 0 → Cause → Text → Text → SinkView → SinkView → SinkView → SinkView → Report → Type 0
Spoken tells cause out_text err_text out out_after err err_after report =
    (SpokeAll tells out_text err_text out out_after err err_after × (report ≡ report_of cause))
    ⊎ (SpokeSome tells out_text err_text out out_after err err_after × (report ≡ report_of (WriteFault (status_of cause))))

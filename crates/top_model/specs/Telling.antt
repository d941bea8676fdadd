-- How one text is told to one sink.
use Rattle.std.specs.Prelude.{◌≡◌, ◌≤◌, ◌⊎◌}
use Rattle.host_core.specs.Faults.{Rose}
use Rattle.host_core.specs.Streams.{SinkView, Appends, AppendsSome}
use Rattle.top_model.specs.Orders.{Text}
use Rattle.top_model.specs.Texts.{status_of}
use Rattle.top_model.specs.Told.{report_of}
use Rattle.top_model.specs.declared.report.Report.{Report}
use Rattle.top_model.specs.declared.report.Cause.{Cause}
use Rattle.top_model.specs.declared.report.Cause.TheVariants.{WriteFault}

pub record TellsAll (tells : Type 0) (text : Text) (cause : Cause) (old new : SinkView) (report : Report) : Type 0 where
  pub all : tells → Appends text old new
  pub steady : new.faults ≡ old.faults
  pub is : report ≡ report_of cause

pub record TellsSome (tells : Type 0) (text : Text) (cause : Cause) (old new : SinkView) (report : Report) : Type 0 where
  pub rose : Rose old.faults new.faults
  pub later : old.faults ≤ new.faults
  pub some : tells → AppendsSome text old new
  pub is : report ≡ report_of (WriteFault (status_of cause))

-- all of it with this cause, or at a fault the beginning of it with the fault that stands for this cause
abbrev pub Tells : Type 0 → Text → Cause → SinkView → SinkView → Report → Type 0
Tells tells text cause old new report = TellsAll tells text cause old new report ⊎ TellsSome tells text cause old new report

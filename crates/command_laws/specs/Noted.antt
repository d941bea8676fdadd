-- What is told of a network that was found, after the notes of a document that was read there.
use Rattle.std.specs.Prelude.{◌≡◌, ◌⊎◌, ◌++◌, Result, Ok, Err}
use Rattle.net_model.specs.NetData.{NetData}
use Rattle.document_model.specs.declared.Doc.{Doc}
use Rattle.host_core.specs.Streams.{SinkView}
use Rattle.top_model.specs.Orders.{Text}
use Rattle.top_model.specs.Said.{Said}
use Rattle.top_model.specs.Texts.{error_line, note_lines}
use Rattle.top_model.specs.Told.{Answer, OutText, cause_of}
use Rattle.top_model.specs.declared.report.Report.{Report}
use Rattle.top_model.specs.declared.report.Cause.{Cause}
use Rattle.top_model.specs.declared.report.Cause.TheVariants.{DocRefused, MergeRefused, CallRefused, OutOfMemory}
use Rattle.answer_text.specs.Speaking.{Spoken}

-- this is answered of the network, or memory ran out
abbrev pub AnswersOf : (NetData → Answer) → NetData → Answer → Type 0
AnswersOf say net (Ok said) = say net ≡ Ok said
AnswersOf say net (Err (DocRefused fault)) = say net ≡ Err (DocRefused fault)
AnswersOf say net (Err (MergeRefused refused)) = say net ≡ Err (MergeRefused refused)
AnswersOf say net (Err (CallRefused n k)) = say net ≡ Err (CallRefused n k)
AnswersOf say net (Err OutOfMemory) = Unit {0}
AnswersOf say net (Err _) = ⊥

-- it is told, and so is what stands among the errors for its cause
pub record TellsOf (tells : Type 0) (say : NetData → Answer) (errors : Cause → Text → Type 0) (net : NetData) (out out_after err err_after : SinkView) (report : Report) : Type 0 where
  pub answer : Answer
  pub answers : AnswersOf say net answer
  pub out_text : Text
  pub err_text : Text
  pub is_out : OutText answer out_text
  pub is_err : errors (cause_of answer) err_text
  pub spoken : Spoken tells (cause_of answer) out_text err_text out out_after err err_after report

-- the notes of the document before the line of the cause; memory may run out before them
abbrev pub ReadErr : Doc → Cause → Text → Type 0
ReadErr doc OutOfMemory text = (text ≡ error_line OutOfMemory) ⊎ (text ≡ note_lines doc.notes ++ error_line OutOfMemory)
ReadErr doc cause text = text ≡ note_lines doc.notes ++ error_line cause

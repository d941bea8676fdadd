-- How the answer of an order is told, from the calls that tell it.
use Rattle.std.proofs.Common.{◌≡◌, sym, subst}
use Rattle.std.specs.Prelude.{◌≢◌, [], ◌++◌, Result, Err}
use Rattle.engine_model.specs.declared.ApplyFault.{ApplyFault}
use Rattle.engine_model.specs.declared.ApplyFault.TheVariants as ap
use Rattle.engine_model.specs.declared.CommitFault.{CommitFault}
use Rattle.engine_model.specs.declared.CommitFault.TheVariants as co
use Rattle.engine_model.specs.declared.BackFault.{BackFault}
use Rattle.engine_model.specs.declared.BackFault.TheVariants as ba
use Rattle.top_model.specs.Said.{Said, Says}
use Rattle.top_model.specs.Orders.{Text, Order, notes_of}
use Rattle.top_model.specs.Machine.{apply_cause, commit_cause, back_cause}
use Rattle.top_model.specs.Texts.{error_line, note_lines}
use Rattle.top_model.specs.Runs.{Run}
use Rattle.top_model.specs.Told.{Told}
use Rattle.top_model.specs.declared.report.Cause.{Cause}
use Rattle.top_model.specs.declared.report.Cause.TheVariants.{ReadFault}
use Rattle.answer_text.specs.Speaking.{Spoken}
use Rattle.answer_text.proofs.lemmas.Told.{Plain, told_noted}

-- the text that is told is what is said
pub says_as : (said : Said) (text line : Text) → text ≡ line → Says said line → Says said text
says_as said text line same says = subst (Says said) (sym same) says

-- a refusal is told with the cause that was made of a fault, after the notes of the order
pub refusal_told : (r : Run) (order : Result Order Cause) → Plain r order → (cause named : Cause) (notes : Text) → cause ≡ named → notes ≡ note_lines (notes_of order) → named ≢ ReadFault
    → Spoken r.sinks_tell cause [] (notes ++ error_line cause) r.out r.out_after r.err r.err_after r.report → Told r order (Err named)
refusal_told r order plain cause named notes same noted other spoken = told_noted r order plain named notes noted other
    (subst (λ (c : Cause). Spoken r.sinks_tell c [] (notes ++ error_line c) r.out r.out_after r.err r.err_after r.report) same spoken)

-- no fault of the engine is one of the source

pub commit_reads : (fault : CommitFault) → commit_cause fault ≢ ReadFault
commit_reads co.NoCheckpoint e = cc
commit_reads (co.Unfinished since deadline) e = cc
commit_reads (co.Expired since deadline) e = cc
commit_reads co.HostFault e = cc
commit_reads co.InDoubt e = cc

pub back_reads : (fault : BackFault) → back_cause fault ≢ ReadFault
back_reads ba.NoCheckpoint e = cc
back_reads (ba.HostFault left) e = cc
back_reads (ba.KernelRefused k n left) e = cc
back_reads (ba.Damaged area) e = cc
back_reads (ba.HardwareDiffers names) e = cc
back_reads ba.OutOfMemory e = cc

pub apply_reads : (fault : ApplyFault) → apply_cause fault ≢ ReadFault
apply_reads (ap.Pending deadline) e = cc
apply_reads (ap.MergeRefused refused) e = cc
apply_reads (ap.HostFault left) e = cc
apply_reads (ap.KernelRefused k n left) e = cc
apply_reads (ap.NotVerified found left) e = cc
apply_reads ap.InDoubt e = cc
apply_reads (ap.Damaged area) e = cc
apply_reads (ap.HardwareDiffers names) e = cc
apply_reads ap.OutOfMemory e = cc

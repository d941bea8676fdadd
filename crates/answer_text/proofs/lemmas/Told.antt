-- What was told of an answer, as the top call's relation says it of a run.
use Rattle.std.proofs.Common.{◌≡◌, ◌⊎◌, inl, inr, refl, sym, ap, subst}
use Rattle.std.specs.Prelude.{◌≢◌, [], ◌++◌, Result, Ok, Err}
use Rattle.top_model.specs.Said.{Said, Says}
use Rattle.net_model.specs.NetData.{NetData}
use Rattle.top_model.specs.Orders.{Text, Order, planning_policy, applying_policy, notes_of}
use Rattle.top_model.specs.Texts.{error_line, note_lines}
use Rattle.top_model.specs.Runs.{Run}
use Rattle.top_model.specs.Grounds.{Grounds, TakesFirst}
use Rattle.top_model.specs.Told.{Answer, cause_of, noted, ErrText, ErrTextOn, IsWhole, IsCut, Told}
use Rattle.top_model.specs.declared.report.Cause.{Cause}
use Rattle.top_model.specs.declared.report.Cause.TheVariants.{Done, DocRefused, MergeRefused, Usage, BadLine, BatchLine, BatchLarge, CallRefused, FolderFault, Halted, Pending, NoCheckpoint, Unfinished, Expired, Exists, NoSuchName, ReadFault, WriteFault, HostFault, InDoubt, KernelRefused, NotVerified, Damaged, HardwareDiffers, OutOfMemory}
use Rattle.answer_text.specs.Speaking.{Spoken}

-- what was spoken in a run is whole or cut
pub written : (r : Run) (answer : Answer) (out err : Text) → Spoken r.sinks_tell (cause_of answer) out err r.out r.out_after r.err r.err_after r.report
    → IsWhole r answer out err ⊎ IsCut r answer out err
written r answer out err (inl s) = inl (record { to_out = s.0.to_out; to_err = s.0.to_err; out_steady = s.0.out_steady; err_steady = s.0.err_steady; report = s.1 })
written r answer out err (inr s) = inr (record { rose = s.0.rose; to_out = s.0.to_out; to_err = s.0.to_err; stops = s.0.stops; report = s.1 })

-- every cause but an input that isn't read may have its notes before its line
pub err_noted : (order : Result Order Cause) (cause : Cause) → cause ≢ ReadFault → ErrText order cause (noted order cause)
err_noted order Done other = refl
err_noted order (DocRefused fault) other = refl
err_noted order (MergeRefused refused) other = refl
err_noted order Usage other = refl
err_noted order (BadLine n) other = refl
err_noted order (BatchLine n) other = refl
err_noted order BatchLarge other = refl
err_noted order (CallRefused n k) other = refl
err_noted order FolderFault other = refl
err_noted order (Halted event) other = refl
err_noted order (Pending deadline) other = refl
err_noted order NoCheckpoint other = refl
err_noted order (Unfinished since deadline) other = refl
err_noted order (Expired since deadline) other = refl
err_noted order Exists other = refl
err_noted order NoSuchName other = refl
err_noted order ReadFault other = absurd (other refl)
err_noted order (WriteFault status) other = refl
err_noted order (HostFault left) other = refl
err_noted order InDoubt other = refl
err_noted order (KernelRefused k n left) other = refl
err_noted order (NotVerified net left) other = refl
err_noted order (Damaged area) other = refl
err_noted order (HardwareDiffers names) other = refl
err_noted order OutOfMemory other = inr refl

-- the errors of an order that evaluates no policy, or whose policy has no notes
abbrev pub Plain : Run → Result Order Cause → Type 0
Plain r order = (cause : Cause) (text : Text) → ErrText order cause text → ErrTextOn (TakesFirst r) (Grounds r order) order cause text

-- an input that isn't read has no notes
pub unread_line : (early : Type 0) (on : NetData → Type 0) (order : Result Order Cause) → ErrTextOn early on order ReadFault (error_line ReadFault)
unread_line early on (Ok (planning_policy p in_batch)) = refl
unread_line early on (Ok (applying_policy p opts)) = refl
unread_line early on order = refl

-- memory may run out before the notes
pub starved_line : (early : Type 0) (on : NetData → Type 0) (order : Result Order Cause) → ErrTextOn early on order OutOfMemory (error_line OutOfMemory)
starved_line early on (Ok (planning_policy p in_batch)) = inl refl
starved_line early on (Ok (applying_policy p opts)) = inl refl
starved_line early on order = inl refl

-- a command that is done was told
pub told_done : (r : Run) (order : Result Order Cause) → Plain r order → (said : Said) (text notes : Text) → Says said text → notes ≡ note_lines (notes_of order)
    → Spoken r.sinks_tell Done text (notes ++ error_line Done) r.out r.out_after r.err r.err_after r.report → Told r order (Ok said)
told_done r order plain said text notes says same spoken = record {
  out = text;
  err = notes ++ error_line Done;
  is_out = says;
  is_err = plain Done (notes ++ error_line Done) (ap (λ (bytes : Text). bytes ++ error_line Done) same);
  written = written r (Ok said) text (notes ++ error_line Done) spoken;
}

-- a refusal was told: its text is the line with the notes, or the line alone where that may come
pub told_refused : (r : Run) (order : Result Order Cause) (cause : Cause) (notes : Text) → ErrTextOn (TakesFirst r) (Grounds r order) order cause (notes ++ error_line cause)
    → Spoken r.sinks_tell cause [] (notes ++ error_line cause) r.out r.out_after r.err r.err_after r.report → Told r order (Err cause)
told_refused r order cause notes is_err spoken = record {
  out = [];
  err = notes ++ error_line cause;
  is_out = refl;
  is_err = is_err;
  written = written r (Err cause) [] (notes ++ error_line cause) spoken;
}

-- a refusal was told after the notes of its document
pub told_noted : (r : Run) (order : Result Order Cause) → Plain r order → (cause : Cause) (notes : Text) → notes ≡ note_lines (notes_of order) → cause ≢ ReadFault
    → Spoken r.sinks_tell cause [] (notes ++ error_line cause) r.out r.out_after r.err r.err_after r.report → Told r order (Err cause)
told_noted r order plain cause notes same other spoken =
    told_refused r order cause notes (plain cause (notes ++ error_line cause) (subst (λ (n : Text). ErrText order cause (n ++ error_line cause)) (sym same) (err_noted order cause other))) spoken

-- How an answer is told: the notes of its document and its error line to one sink, what is done to the other.
use Rattle.std.specs.Prelude.{◌≡◌, ◌⊎◌, [], ◌++◌, Result, Ok, Err}
use Rattle.net_model.specs.NetData.{NetData}
use Rattle.document_model.specs.declared.Doc.{Doc}
use Rattle.policy_model.specs.Values.{PolicyData}
use Rattle.host_core.specs.Streams.{Appends, AppendsSome}
use Rattle.top_model.specs.Said.{Said, Says}
use Rattle.top_model.specs.Orders.{Text, Order, document_on, planning_policy, applying_policy, notes_of}
use Rattle.top_model.specs.Texts.{status_of, error_line, note_lines}
use Rattle.top_model.specs.Runs.{Run, SinkRose}
use Rattle.top_model.specs.Grounds.{Grounds, TakesFirst}
use Rattle.engine_model.specs.declared.Left.TheVariants as side
use Rattle.top_model.specs.declared.report.Report.{Report}
use Rattle.top_model.specs.declared.report.Cause.{Cause}
use Rattle.top_model.specs.declared.report.Cause.TheVariants.{Done, DocRefused, MergeRefused, Pending, ReadFault, WriteFault, HostFault, InDoubt, KernelRefused, NotVerified, OutOfMemory}

-- what is said, or why it is refused
abbrev pub Answer : Type 0
Answer = Result Said Cause

abbrev pub cause_of : Answer → Cause
cause_of (Ok said) = Done
cause_of (Err cause) = cause

abbrev pub OutText : Answer → Text → Type 0
OutText (Ok said) text = Says said text
OutText (Err cause) text = text ≡ []

-- ---- the errors

-- the notes of a document that was read before any call on the host, and the line
abbrev pub noted : Result Order Cause → Cause → Text
noted order cause = note_lines (notes_of order) ++ error_line cause

-- an input that isn't read has no notes, and out of memory may come before them or after
abbrev pub ErrText : Result Order Cause → Cause → Text → Type 0
ErrText order ReadFault text = text ≡ error_line ReadFault
ErrText order OutOfMemory text = (text ≡ error_line OutOfMemory) ⊎ (text ≡ noted order OutOfMemory)
ErrText order cause text = text ≡ noted order cause

-- ---- the notes of a policy: those of the document that it is on such a network

pub record NotedOn (on : NetData → Type 0) (p : PolicyData) (cause : Cause) (text : Text) : Type 0 where
  pub net : NetData
  pub doc : Doc
  pub is_on : on net
  pub reads : document_on p net ≡ Ok doc
  pub is : text ≡ note_lines doc.notes ++ error_line cause

-- A plan is read as a document behind its look at the host: what comes before that has no notes. Memory runs out before it or behind it.
abbrev pub PlanErr : (NetData → Type 0) → PolicyData → Cause → Text → Type 0
PlanErr on p Done text = NotedOn on p Done text
PlanErr on p (MergeRefused refused) text = NotedOn on p (MergeRefused refused) text
PlanErr on p OutOfMemory text = (text ≡ error_line OutOfMemory) ⊎ NotedOn on p OutOfMemory text
PlanErr on p cause text = text ≡ error_line cause

-- So is an apply, before it makes its change: an input that isn't read, a change that waits and a policy that is refused have no notes. Done,
-- and what only the change of a document can bring, comes after that. A host fault that isn't told as not begun, and a refused call, come
-- before it only where a change was to be taken back first (early); every other cause before it or after it.
abbrev pub ApplyErr : Type 0 → (NetData → Type 0) → PolicyData → Cause → Text → Type 0
ApplyErr early on p ReadFault text = text ≡ error_line ReadFault
ApplyErr early on p (Pending deadline) text = text ≡ error_line (Pending deadline)
ApplyErr early on p (DocRefused fault) text = text ≡ error_line (DocRefused fault)
ApplyErr early on p Done text = NotedOn on p Done text
ApplyErr early on p (MergeRefused refused) text = NotedOn on p (MergeRefused refused) text
ApplyErr early on p (HostFault side.RolledBack) text = (early × (text ≡ error_line (HostFault side.RolledBack))) ⊎ NotedOn on p (HostFault side.RolledBack) text
ApplyErr early on p (HostFault side.Pending) text = (early × (text ≡ error_line (HostFault side.Pending))) ⊎ NotedOn on p (HostFault side.Pending) text
ApplyErr early on p (KernelRefused k n side.RolledBack) text = NotedOn on p (KernelRefused k n side.RolledBack) text
ApplyErr early on p (KernelRefused k n side.Pending) text = (early × (text ≡ error_line (KernelRefused k n side.Pending))) ⊎ NotedOn on p (KernelRefused k n side.Pending) text
ApplyErr early on p (NotVerified found left) text = NotedOn on p (NotVerified found left) text
ApplyErr early on p InDoubt text = NotedOn on p InDoubt text
ApplyErr early on p cause text = (text ≡ error_line cause) ⊎ NotedOn on p cause text

-- what is written to the errors, where a policy is evaluated on such a network
abbrev pub ErrTextOn : Type 0 → (NetData → Type 0) → Result Order Cause → Cause → Text → Type 0
ErrTextOn early on (Ok (planning_policy p in_batch)) cause text = PlanErr on p cause text
ErrTextOn early on (Ok (applying_policy p opts)) cause text = ApplyErr early on p cause text
ErrTextOn early on order cause text = ErrText order cause text

abbrev pub report_of : Cause → Report
report_of cause = record { status = status_of cause; cause = cause }

-- all was written
pub record IsWhole (r : Run) (answer : Answer) (out err : Text) : Type 0 where
  pub to_out : r.sinks_tell → Appends out r.out r.out_after
  pub to_err : r.sinks_tell → Appends err r.err r.err_after
  pub out_steady : r.out_after.faults ≡ r.out.faults
  pub err_steady : r.err_after.faults ≡ r.err.faults
  pub report : r.report ≡ report_of (cause_of answer)

-- A sink failed, and no more than the beginning of each text was written. What is noted and refused comes first, and after
-- a write that fails nothing more is written.
pub record IsCut (r : Run) (answer : Answer) (out err : Text) : Type 0 where
  pub rose : SinkRose r
  pub to_out : r.sinks_tell → AppendsSome out r.out r.out_after
  pub to_err : r.sinks_tell → AppendsSome err r.err r.err_after
  pub stops : (r.sinks_tell → Appends [] r.out r.out_after) ⊎ (r.sinks_tell → Appends err r.err r.err_after)
  pub report : r.report ≡ report_of (WriteFault (status_of (cause_of answer)))

pub record Told (r : Run) (order : Result Order Cause) (answer : Answer) : Type 0 where
  pub out : Text
  pub err : Text
  pub is_out : OutText answer out
  pub is_err : ErrTextOn (TakesFirst r) (Grounds r order) order (cause_of answer) err
  pub written : IsWhole r answer out err ⊎ IsCut r answer out err

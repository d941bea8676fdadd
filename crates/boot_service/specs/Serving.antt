-- The serving of one document: an apply, and then the marking of its file.
use Rattle.std.specs.Prelude.{◌≡◌, ◌≢◌, ◌≤◌, ⊤, ℕ, List, false, Some, None, Result, Ok, Err}
use Rattle.net_model.specs.NetData.{NetData}
use Rattle.document_model.specs.declared.Doc.{Doc}
use Rattle.host_core.specs.Faults.{Rose, RoseTwice}
use Rattle.host_core.specs.Folders.{File, FolderView, HasFiles, MaybeMarked, without}
use Rattle.host_core.specs.HostView.{State, HostView}
use Rattle.host_core.specs.Stops.{Steps}
use Rattle.checkpoint_cell.specs.Settled.{standing, restored_to}
use Rattle.plan_model.specs.Undisturbed.{IsUndisturbed}
use Rattle.merge_model.specs.MergedNet.{merge}
use Rattle.engine_model.specs.Machine.{Asked, asked, apply, recover}
use Rattle.engine_model.specs.Sound.{Sound, WhereSound}
use Rattle.engine_model.specs.Stations.{Only, Settled, Either, Kept, at, entry_of, left_by}
use Rattle.engine_model.specs.Compared.{Compared}
use Rattle.engine_model.specs.Exit.{ApplyExit}
use Rattle.engine_model.specs.Refusals.{ApplyCounts}
use Rattle.engine_model.specs.Failing.{ApplyIdle, ApplyIntact, ApplyWaits}
use Rattle.engine_model.specs.Faults.{ApplySays, ApplyAnswers, ApplyExact, MayStandHalf, Tries, FailsTwice, Dumps, Backs, HasTaken}
use Rattle.engine_model.specs.declared.answers.ApplyOpts.{ApplyOpts}
use Rattle.engine_model.specs.declared.answers.Applied.{Applied}
use Rattle.engine_model.specs.declared.answers.ApplyFault.{ApplyFault}
use Rattle.engine_model.specs.declared.answers.ApplyFault.TheVariants as ap
use Rattle.boot_service.specs.Fold.{Taking}
use Rattle.boot_service.specs.Stops.{IsNext, Advances}
use Rattle.boot_service.specs.declared.fault.ServeFault.{ServeFault}
use Rattle.boot_service.specs.declared.fault.ServeFault.TheVariants.{Apply, NotMarked}

-- verified, and committed at once
abbrev pub defaults : ApplyOpts
defaults = record { no_commit = false; no_verify = false; timeout = 60 }

abbrev pub asked_of : Doc → ℕ → Asked
asked_of doc now = asked doc defaults now

-- what the serving answers, as the answer of its apply: a document whose file wasn't marked was committed
abbrev pub done : Applied
done = record { deadline = None }

abbrev pub as_applied : Result ⊤ ServeFault → Result Applied ApplyFault
as_applied (Ok x) = Ok done
as_applied (Err NotMarked) = Ok done
as_applied (Err (Apply fault)) = Err fault

-- ---- the folder

-- the file was marked, and stays so
pub record IsMarked (tells : Type 0) (name : List ℕ) (old new : FolderView) : Type 0 where
  pub files : tells → new.files ≡ without name old.files
  pub stays : tells → HasFiles new.files new
  pub stops : Steps (MaybeMarked name) old.stops new.stops
  pub later : old.faults ≤ new.faults

-- it was marked or it wasn't; the folder failed
pub record MayBeMarked (tells : Type 0) (name : List ℕ) (old new : FolderView) : Type 0 where
  pub files : tells → MaybeMarked name old.files new.files
  pub stops : Steps (MaybeMarked name) old.stops new.stops
  pub rose : Rose old.faults new.faults
  pub later : old.faults ≤ new.faults

-- the folder that is named untouched is the very same
abbrev pub Marks : Type 0 → Type 0 → List ℕ → FolderView → FolderView → Result ⊤ ServeFault → Type 0
Marks untouched tells name old new (Ok x) = IsMarked tells name old new
Marks untouched tells name old new (Err NotMarked) = MayBeMarked tells name old new
Marks untouched tells name old new (Err (Apply fault)) = untouched

-- ---- the host

-- of the host it is as after an apply with this answer, but for what is said of moments before its begin
pub record Applies (honest tells : Type 0) (a : Asked) (old new : HostView) (result : Result Applied ApplyFault) : Type 0 where
  -- what is answered: on every host, with the calls that every host counts, on an honest host that is sound, and on an honest host
  -- that needn't be
  pub says : ApplySays tells a old new result
  pub counts : ApplyCounts old.kernel new.kernel result
  pub answer : WhereSound honest old (ApplyAnswers a old new result)
  pub exact : honest → ApplyExact (Rose old.faults new.faults) (apply a (standing old.state)) new result
  -- where the answer comes before anything was begun, and on an honest host whose count didn't rise also where it tells damage or other
  -- devices, the host is as it was
  pub unbegun : ApplyIdle tells a.now old new result
  pub intact : honest → (Rose old.faults new.faults → ⊥) → ApplyIntact tells old new result
  -- so it is where a change waits that isn't due, whatever is answered
  pub waits : ApplyWaits tells a.now old new
  -- what stops leave at the exit, what the host reads as then, and what stops leave at each moment
  pub exit : WhereSound honest old (ApplyExit a (entry_of old) (left_by new) (Rose old.faults new.faults) (RoseTwice old.faults new.faults) result)
  pub reads : WhereSound honest old (ApplyExit a (at (standing old.state)) (Only (standing new.state)) (Rose old.faults new.faults) (RoseTwice old.faults new.faults) result)
  pub kept : WhereSound honest old (Kept (Either (Settled a.now (entry_of old)) (Only (apply a (standing old.state)).after)) old new)
  -- what is left to wait was compared
  pub seen : WhereSound honest old (Compared a old new)
  -- where no checkpoint stood and nothing failed, each link that the change needn't touch is left alone on the way
  pub undisturbed : honest → Sound old → (from to : NetData) → standing old.state ≡ restored_to from → merge from a.doc ≡ Ok to
      → (Rose old.faults new.faults → ⊥) → result ≢ Err ap.OutOfMemory
      → (s : State) → new.stops.left_since old.stops.moment s → (net : NetData) × (s.net ≡ Some net) × IsUndisturbed from to net
  -- that a change may stand half way is told only where a restoring was tried
  pub tries : Tries (MayStandHalf tells a old) old.faults old.kernel.refusals new result
  -- and of a host fault only where the host failed twice, unless a change was to be taken back first
  pub twice : honest → FailsTwice (HasTaken a.now (standing old.state).cell) old.faults new result
  -- a change was dumped after its last call
  pub dumps : Dumps tells a.opts.no_verify new result
  -- where it says that all is taken back, the network is the one from before
  pub backs : honest → Backs (recover a.now (standing old.state)).after.net new result
  pub moment : old.stops.moment ≤ new.stops.moment
  pub later : old.faults ≤ new.faults

-- ---- both

-- how far a service comes by it, from wherever it came to this document
abbrev pub Comes : Type 0 → Type 0 → Doc → List ℕ → HostView → HostView → FolderView → FolderView → Result ⊤ ServeFault → Type 0
Comes honest tells doc name host host_after folder folder_after result =
    honest → tells → (take : Taking File) (first : NetData) (all : List File) (net : NetData) (file : File) (rest : List File) → file.name ≡ name
    → IsNext take first all net file rest doc host folder → Advances take first all net file rest host host_after folder folder_after result

-- All that is said of the serving of a document. The folder that is named untouched is the very same.
pub record Serves (honest tells folder_tells : Type 0) (doc : Doc) (name : List ℕ) (now : ℕ) (host host_after : HostView) (folder folder_after : FolderView) (untouched : Type 0) (result : Result ⊤ ServeFault)
    : Type 0 where
  -- of the host what an apply with the defaults says
  pub applies : Applies honest tells (asked_of doc now) host host_after (as_applied result)
  -- the folder is asked once the change is committed, and for nothing but the mark
  pub marks : Marks untouched folder_tells name folder folder_after result
  -- how far a service comes by it
  pub comes : Comes honest folder_tells doc name host host_after folder folder_after result

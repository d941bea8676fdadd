-- What is said of a service: how it went, and what follows for all of its documents.
use Rattle.std.specs.Prelude.{◌≡◌, ◌≢◌, ◌⊎◌, ◌≤◌, ◌++◌, ◌∷◌, [], ℕ, ⊤, List, map, Some, None, Result, Ok, Err}
use Rattle.std.proofs.Common.{inl, inr}
use Rattle.net_model.specs.NetData.{NetData}
use Rattle.host_core.specs.Faults.{Rose}
use Rattle.host_core.specs.Folders.{File, Files, FolderView, HasFiles}
use Rattle.host_core.specs.HostView.{State, HostView}
use Rattle.host_core.specs.Streams.{SinkView, Appends}
use Rattle.host_core.specs.declared.Host.{Ghosts as HostGhosts}
use Rattle.host_core.specs.declared.Folder.{Ghosts as FolderGhosts}
use Rattle.host_core.specs.declared.Sink.{Ghosts as SinkGhosts}
use Rattle.host_core.specs.declared.Clock.{Ghosts as ClockGhosts}
use Rattle.engine_model.specs.Sound.{Sound}
use Rattle.boot_service.specs.Fold.{folded, IsStage}
use Rattle.boot_service.specs.Stops.{pending, IsAt, SettlesAt, LeavesInside}
use Rattle.boot_service.specs.declared.fault.ServeFault.{ServeFault}
use Rattle.top_model.specs.Orders.{Text}
use Rattle.top_model.specs.Texts.{status_of}
use Rattle.top_model.specs.declared.report.Report.{Report}
use Rattle.top_model.specs.declared.report.Cause.{Cause}
use Rattle.top_model.specs.declared.report.Cause.TheVariants.{Done, NoSuchName, FolderFault, WriteFault, OutOfMemory}
use Rattle.service_run.specs.Documents.{applied_lines, taking, why}
use Rattle.service_run.specs.Course.{World, Went, Served, StopsFor, unread, unnoted, unserved, EndsWith, Unlisted, Listed}

pub record Service : Type 1 where
  -- the host is honest, and the folder and the sinks tell their content
  pub honest : Type 0
  pub folder_tells : Type 0
  pub sinks_tell : Type 0
  pub host : HostView
  pub host_after : HostView
  pub folder : FolderView
  pub folder_after : FolderView
  pub out : SinkView
  pub out_after : SinkView
  pub err : SinkView
  pub err_after : SinkView
  -- a stop inside the serving of some document leaves this pair with these files that aren't marked
  pub leaves_inside : State → Files → Type 0
  pub report : Report

-- what is left to be served, before and after
abbrev pub left : Service → List File
left r = pending r.folder.files

abbrev pub left_after : Service → List File
left_after r = pending r.folder_after.files

-- the files that the service marked
abbrev pub MarkedSince : Service → List File → Type 0
MarkedSince r marked = left r ≡ marked ++ left_after r

abbrev pub names_of : List File → List Text
names_of files = map (λ file. file.name) files

-- no count rose
pub record Undisturbed (r : Service) : Type 0 where
  pub host : Rose r.host.faults r.host_after.faults → ⊥
  pub folder : Rose r.folder.faults r.folder_after.faults → ⊥
  pub out : Rose r.out.faults r.out_after.faults → ⊥
  pub err : Rose r.err.faults r.err_after.faults → ⊥

-- ---- on an honest host that is sound

-- From a first network, with all documents, services came to what stands at the entry: at the first service itself, or after any
-- number of services that were stopped or ended, behind each of which a recovery was done (Restarts). No mark is in doubt.
pub record Enters (r : Service) (first : NetData) (all : List File) : Type 0 where
  pub honest : r.honest
  pub tells : r.folder_tells
  pub net : NetData
  pub at : IsAt net r.host
  pub files : HasFiles r.folder.files r.folder
  pub stage : IsStage taking first all net (left r)

-- each pair can be recovered from, and a recovery leads to a network at which, with the documents that are left, a service enters again
pub record Stays (r : Service) (first : NetData) (all : List File) : Type 0 where
  -- each pair that is left since the entry settles like the fold of a prefix of all documents
  pub during : (s : State) → r.host_after.stops.left_since r.host.stops.moment s → (rest : List File) × SettlesAt taking first all rest s
  -- at the exit the files that are marked are this prefix, or all of it but its last document
  pub exit : (s : State) (files : Files) → r.host_after.stops.may_leave s → r.folder_after.stops.may_leave files → SettlesAt taking first all (pending files) s
  -- and so it is inside the serving of each document
  pub inside : (s : State) (files : Files) → r.leaves_inside s files → SettlesAt taking first all (pending files) s
  -- at the exit the host is sound
  pub sound : Sound r.host_after

-- what the documents are that are left settles to the stage that they are at
abbrev pub Staged : Service → Type 0
Staged r = (first : NetData) (all : List File) → Enters r first all → Stays r first all

-- one that is done, also where its sinks failed, came to exactly the fold of all documents, each of which was taken once
pub record IsFolded (r : Service) (first : NetData) (all : List File) : Type 0 where
  pub at : IsAt (folded taking first all) r.host_after
  pub stage : IsStage taking first all (folded taking first all) []

abbrev pub Acknowledged : Service → Type 0
Acknowledged r = (r.report.cause ≡ Done) ⊎ (r.report.cause ≡ WriteFault 0)

abbrev pub Folds : Service → Type 0
Folds r = (first : NetData) (all : List File) → Enters r first all → Acknowledged r → IsFolded r first all

-- it stops with the refusal at the first document that is refused on the network reached so far
pub record StopsAt (r : Service) : Type 0 where
  pub net : NetData
  pub file : File
  pub rest : List File
  pub at : IsAt net r.host_after
  pub next : left_after r ≡ file ∷ rest
  pub refused : taking net file ≡ None
  pub cause : r.report.cause ≡ why net file

pub record IsQuiet (r : Service) : Type 0 where
  pub marked : List File
  pub since : MarkedSince r marked
  -- the output is a line for each document that was marked, in order
  pub says : r.sinks_tell → Appends (applied_lines (names_of marked)) r.out r.out_after
  -- it is done after it marked every document, or stops at a refusal, or memory ran out
  pub ends : ((r.report.cause ≡ Done) × (left_after r ≡ [])) ⊎ StopsAt r ⊎ (r.report.cause ≡ OutOfMemory)

-- where no count rose
abbrev pub Complete : Service → Type 0
Complete r = (first : NetData) (all : List File) → Enters r first all → Undisturbed r → IsQuiet r

-- ---- on every host

-- over a folder that tells its files each name that it gives is found
abbrev pub FindsNames : Service → Type 0
FindsNames r = r.folder_tells → r.report.cause ≢ NoSuchName

-- only where every file that was to be served is marked is it done
abbrev pub DoneMarked : Service → Type 0
DoneMarked r = r.folder_tells → Acknowledged r → left_after r ≡ []

-- a fault of the folder is answered only where its count rose, and one of a sink only where a sink's did
abbrev pub FolderFaults : Service → Type 0
FolderFaults r = r.report.cause ≡ FolderFault → Rose r.folder.faults r.folder_after.faults

abbrev pub WriteFaults : Service → Type 0
WriteFaults r = (status : ℕ) → r.report.cause ≡ WriteFault status → Rose r.out.faults r.out_after.faults ⊎ Rose r.err.faults r.err_after.faults

abbrev pub Statuses : Service → Type 0
Statuses r = r.report.status ≡ status_of r.report.cause

-- no count falls
pub record Later (r : Service) : Type 0 where
  pub host : r.host.faults ≤ r.host_after.faults
  pub folder : r.folder.faults ≤ r.folder_after.faults
  pub out : r.out.faults ≤ r.out_after.faults
  pub err : r.err.faults ≤ r.err_after.faults

-- ---- all of it

-- what follows for all of its documents
pub record Promises (r : Service) : Type 0 where
  -- each pair left settles like the fold of a prefix of the documents, and what is marked is that prefix, or all of it but its
  -- last document
  pub staged : Staged r
  -- one that is done came to exactly the fold of all documents, however often services were stopped before it
  pub folds : Folds r
  -- where no count rose it marks every document, or stops at the first that is refused, or runs out of memory
  pub complete : Complete r
  -- on every host it finds each name that the folder gives
  pub finds : FindsNames r
  -- on every host it is done only where every document is marked
  pub done : DoneMarked r
  -- a fault of the folder, or of a sink, is answered only where its count rose
  pub folder : FolderFaults r
  pub write : WriteFaults r
  -- the status is the one of the cause
  pub status : Statuses r
  pub later : Later r

-- ---- the service as it went

module _ {X Y Z V : Type 0} (H : HostGhosts X) (F : FolderGhosts Y) (W : SinkGhosts Z) (C : ClockGhosts V) where
  -- a stop inside one of these servings
  abbrev pub LeavesAt : (name : Text) (now : ℕ) (old new : World X Y Z V) (result : Result ⊤ ServeFault) → Served H F W C name now old new result → State → Files → Type 0
  LeavesAt name now old new result served s files = LeavesInside name (H.told old.host) (H.told new.host) (F.told served.read) result s files

  abbrev pub LeavesWent : (names : List Text) (old new : World X Y Z V) → Went H F W C names old new → State → Files → Type 0
  LeavesWent [] old new went s files = ⊥
  LeavesWent (name ∷ names) old new went s files =
      LeavesAt name went.1.now old went.0 (Ok tt) went.1.served s files ⊎ LeavesWent names went.0 new went.2 s files

  abbrev pub LeavesStop : (name : Text) (now : ℕ) (old new : World X Y Z V) (notes : Text) (cause : Cause) → StopsFor H F W C name now old new notes cause → State → Files → Type 0
  LeavesStop name now old new notes cause (unread c host reads) s files = ⊥
  LeavesStop name now old new notes cause (unnoted host folder) s files = ⊥
  LeavesStop name now old new notes cause (unserved fault served) s files = LeavesAt name now old new (Err fault) served s files

  abbrev pub LeavesEnd : (names : List Text) (old new : World X Y Z V) (report : Report) → EndsWith H F W C names old new report → State → Files → Type 0
  LeavesEnd [] old new report ends s files = ⊥
  LeavesEnd (name ∷ names) old new report ends s files = LeavesStop name ends.now old new ends.notes ends.cause ends.stops s files

  abbrev pub LeavesCourse : (old new : World X Y Z V) (report : Report) → Unlisted H F W C old new report ⊎ Listed H F W C old new report → State → Files → Type 0
  LeavesCourse old new report (inl unlisted) s files = ⊥
  LeavesCourse old new report (inr listed) s files =
      LeavesWent listed.ran.done (record old { folder = listed.listed }) listed.ran.mid listed.ran.went s files ⊎ LeavesEnd listed.ran.more listed.ran.mid new report listed.ran.ends s files

  abbrev pub service_of : (old new : World X Y Z V) (report : Report) → Unlisted H F W C old new report ⊎ Listed H F W C old new report → Service
  service_of old new report course = record {
    honest = H.honest;
    folder_tells = F.tells;
    sinks_tell = W.tells;
    host = H.told old.host;
    host_after = H.told new.host;
    folder = F.told old.folder;
    folder_after = F.told new.folder;
    out = W.told old.out;
    out_after = W.told new.out;
    err = W.told old.err;
    err_after = W.told new.err;
    leaves_inside = LeavesCourse old new report course;
    report = report;
  }

  -- All that is said of a service.
  pub record IsService (old new : World X Y Z V) (report : Report) : Type 0 where
    -- how it went, document after document: each is answered as its serving alone
    pub course : Unlisted H F W C old new report ⊎ Listed H F W C old new report
    -- what follows
    pub promises : Promises (service_of old new report course)

-- The files that are served, and what stops leave of a host and a folder together while they are.
use Rattle.std.specs.Prelude.{◌≡◌, ◌⊎◌, ◌≤◌, ℕ, ⊤, List, ◌∷◌, filter, Option, Some, None, Result, Ok, Err}
use Rattle.std.specs.declared.cmp.Ordering.{Ordering}
use Rattle.net_model.specs.NetData.{NetData}
use Rattle.net_model.specs.Order.{name_cmp}
use Rattle.net_model.specs.Words.{sorted}
use Rattle.document_model.specs.declared.Doc.{Doc}
use Rattle.document_model.specs.declared.Refused.{Refused}
use Rattle.host_core.specs.Folders.{File, Files, FolderView, HasFiles, MaybeMarked, is_pending}
use Rattle.host_core.specs.HostView.{State, HostView}
use Rattle.host_core.specs.Stops.{After}
use Rattle.checkpoint_cell.specs.Settled.{standing, restored_to, settled}
use Rattle.merge_model.specs.MergedNet.{merge}
use Rattle.engine_model.specs.Machine.{recover}
use Rattle.engine_model.specs.Sound.{Fit, Sound}
use Rattle.boot_service.specs.Fold.{Taking, IsStage}
use Rattle.boot_service.specs.declared.fault.ServeFault.{ServeFault}
use Rattle.boot_service.specs.declared.fault.ServeFault.TheVariants.{Apply, NotMarked}

-- ---- the files

abbrev pub file_cmp : File → File → Ordering
file_cmp a b = name_cmp a.name b.name

-- the files that are served, in the order of their names
abbrev pub pending : Files → List File
pending files = sorted file_cmp (filter is_pending files)

-- what a document that is read makes of a network: its merge, or nothing where a rule is broken
abbrev pub merged_or : Result NetData Refused → Option NetData
merged_or (Ok to) = Some to
merged_or (Err refused) = None

-- the file is taken as this document
abbrev pub IsTakenAs : Taking File → File → Doc → Type 0
IsTakenAs take file doc = (net : NetData) → take net file ≡ merged_or (merge net doc)

-- ---- hosts

-- it can be recovered from, and whenever it is recovered, this network is there without a checkpoint
pub record SettlesTo (net : NetData) (s : State) : Type 0 where
  pub fit : Fit s
  pub settles : (now : ℕ) → settled now (standing s) ≡ Some (restored_to net)
  pub recovers : (now : ℕ) → (recover now (standing s)).after ≡ restored_to net

-- the host is sound, reads as this network without a checkpoint, and a stop leaves nothing that settles to another
pub record IsAt (net : NetData) (host : HostView) : Type 0 where
  pub sound : Sound host
  pub reads : standing host.state ≡ restored_to net
  pub left : (s : State) → host.stops.may_leave s → SettlesTo net s

-- ---- hosts and folders

-- it settles to one network, to which the service came with these documents left
pub record SettlesAt {X : Type 0} (take : Taking X) (first : NetData) (all left : List X) (s : State) : Type 0 where
  pub net : NetData
  pub settles : SettlesTo net s
  pub stage : IsStage take first all net left

-- the file was to be marked
abbrev pub ComesToMark : Result ⊤ ServeFault → Type 0
ComesToMark (Ok x) = Unit {0}
ComesToMark (Err NotMarked) = Unit {0}
ComesToMark (Err (Apply fault)) = ⊥

-- A stop inside the serving of a document with this answer leaves this pair with these files that aren't marked. One inside its
-- apply leaves the files of the entry; one inside its marking leaves what a stop at the exit of the apply may leave, and the mark
-- done or not.
abbrev pub LeavesInside : List ℕ → HostView → HostView → FolderView → Result ⊤ ServeFault → State → Files → Type 0
LeavesInside name host host_after folder result s files =
    (host_after.stops.left_since host.stops.moment s × folder.stops.may_leave files)
    ⊎ (ComesToMark result × host_after.stops.may_leave s × After folder.stops (MaybeMarked name) files)

-- The service came from a first network, with all documents, to what stands here: to this network, and this file is the first of
-- those left, which this document is. No mark is in doubt.
pub record IsNext (take : Taking File) (first : NetData) (all : List File) (net : NetData) (file : File) (rest : List File) (doc : Doc) (host : HostView) (folder : FolderView) : Type 0 where
  pub at : IsAt net host
  pub files : HasFiles folder.files folder
  pub first_left : pending folder.files ≡ file ∷ rest
  pub stage : IsStage take first all net (file ∷ rest)
  pub is_taken : IsTakenAs take file doc

-- the document was taken and its file marked: the service came to this network
pub record IsServed (take : Taking File) (first : NetData) (all : List File) (net : NetData) (file : File) (rest : List File) (host : HostView) (folder : FolderView) : Type 0 where
  pub to : NetData
  pub taken : take net file ≡ Some to
  pub at : IsAt to host
  pub files : HasFiles folder.files folder
  pub left : pending folder.files ≡ rest
  pub stage : IsStage take first all to rest

abbrev pub IsServedAs : Type 0 → Result ⊤ ServeFault → Type 0
IsServedAs served (Ok x) = served
IsServedAs served (Err fault) = Unit {0}

-- What the serving of the first document that is left leaves, where the folder is this before it and that after it.
pub record Advances (take : Taking File) (first : NetData) (all : List File) (net : NetData) (file : File) (rest : List File) (host host_after : HostView) (folder folder_after : FolderView) (result : Result ⊤ ServeFault)
    : Type 0 where
  -- each pair that is left since a moment was left before the entry, or settles like the fold of a prefix
  pub during : (t : ℕ) (s : State) → t ≤ host.stops.moment → host_after.stops.left_since t s → host.stops.left_since t s ⊎ SettlesAt take first all (file ∷ rest) s
  -- inside, what is marked is this prefix, or all of it but its last document
  pub inside : (s : State) (files : Files) → LeavesInside file.name host host_after folder result s files → SettlesAt take first all (pending files) s
  -- and so it is at the exit
  pub exit : (s : State) (files : Files) → host_after.stops.may_leave s → folder_after.stops.may_leave files → SettlesAt take first all (pending files) s
  -- where it is done, it came to the document's network and no mark is in doubt
  pub done : IsServedAs (IsServed take first all net file rest host_after folder_after) result

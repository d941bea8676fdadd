-- How far a service comes by the serving of one document.
use Rattle.std.proofs.Common.{◌≡◌, ◌∙◌, ◌⊎◌, ◌≤◌, ℕ, List, ◌∷◌, Result, Ok, Err, true, sym, ap, subst, inl, inr}
use Rattle.std.specs.Prelude.{⊤}
use Rattle.net_model.specs.NetData.{NetData}
use Rattle.document_model.specs.declared.Doc.{Doc}
use Rattle.host_core.specs.Folders.{File, Files, FolderView, HasFiles, MaybeMarked, without}
use Rattle.host_core.specs.HostView.{State, HostView}
use Rattle.host_core.specs.Stops.{Steps, IsLawful}
use Rattle.merge_model.specs.MergedNet.{merge}
use Rattle.document_model.specs.Entries.{is_document}
use Rattle.checkpoint_cell.specs.Settled.{standing}
use Rattle.engine_model.specs.Machine.{apply}
use Rattle.engine_model.specs.Faults.{IsOutcome}
use Rattle.engine_model.specs.declared.answers.Applied.{Applied}
use Rattle.boot_service.specs.Serving.{asked_of, done, Applies, IsMarked, MayBeMarked, Serves}
use Rattle.engine_model.specs.Stations.{Kept}
use Rattle.boot_service.specs.Fold.{Taking, IsTaken, IsStage}
use Rattle.boot_service.specs.Stops.{pending, IsAt, SettlesAt, LeavesInside, IsNext, Advances}
use Rattle.engine_model.specs.declared.answers.ApplyFault.{ApplyFault}
use Rattle.boot_service.specs.declared.fault.ServeFault.{ServeFault}
use Rattle.boot_service.specs.declared.fault.ServeFault.TheVariants.{Apply, NotMarked}
use Rattle.boot_service.proofs.lemmas.Stages.{stage_taken}
use Rattle.boot_service.proofs.lemmas.Pending.{Differ, without_first}
use Rattle.boot_service.proofs.Merging.{Laws, file_taken}
use Rattle.boot_service.proofs.Landing.{done_plainly, Lands, Stations, lands_since, lands_during, lands_exit, IsCommitted, committed}

-- what is pending where these files are left
pending_is : (files : Files) (old : FolderView) (left : List File) → files ≡ old.files → pending old.files ≡ left → pending files ≡ left
pending_is files old left same is = ap pending same ∙ is

module _ (take : Taking File) (first : NetData) (all : List File) (net : NetData) (file : File) (rest : List File) (doc : Doc) (now : ℕ) (host host_after : HostView) (folder : FolderView)
    (next : IsNext take first all net file rest doc host folder) (takes : (to : NetData) → merge net doc ≡ Ok to → IsTaken take net file to) (lawful : IsLawful host.stops)
    (kept : Kept (Stations net doc now host host_after next.at) host host_after) where
  on : (to : NetData) → merge net doc ≡ Ok to → IsStage take first all to (file ∷ rest) × IsStage take first all to rest
  on to merges = stage_taken take first all net file rest to next.stage (takes to merges)

  -- the document may have been taken, and isn't marked
  unmarked : (s : State) → Lands net doc s → SettlesAt take first all (file ∷ rest) s
  unmarked s (inl before) = record { net = net; settles = before; stage = next.stage }
  unmarked s (inr (to, merges, settles)) = record { net = to; settles = settles; stage = (on to merges).0 }

  unmarked_in : (s : State) (files : Files) → folder.stops.may_leave files → Lands net doc s → SettlesAt take first all (pending files) s
  unmarked_in s files left lands = subst (λ (fs : List File). SettlesAt take first all fs s) (sym (pending_is files folder (file ∷ rest) (next.files files left) next.first_left)) (unmarked s lands)

  during : (t : ℕ) (s : State) → t ≤ host.stops.moment → host_after.stops.left_since t s → host.stops.left_since t s ⊎ SettlesAt take first all (file ∷ rest) s
  during t s le left = elim (lands_since net doc now host host_after next.at kept t s le left) [ inl before ↦ inl before | inr lands ↦ inr (unmarked s lands) ]

  -- the change wasn't made, and the folder is the very same
  pub advances_fault : (fault : ApplyFault) → Advances take first all net file rest host host_after folder folder (Err (Apply fault))
  advances_fault fault = record {
    during = during;
    inside = λ s files inside. elim inside [
      | inl (left, as_before) ↦ unmarked_in s files as_before (lands_during net doc now host host_after next.at lawful kept s left)
      | inr (comes, left, after) ↦ absurd comes
    ];
    exit = λ s files left as_before. unmarked_in s files as_before (lands_exit net doc now host host_after next.at kept s left);
    done = tt;
  }

  module _ (differ : Differ folder.files) (made : IsCommitted net doc now host host_after next.at) where
    -- the document was taken, and is marked or isn't
    settled_at : (s : State) (files : Files) → MaybeMarked file.name folder.files files → host_after.stops.may_leave s → SettlesAt take first all (pending files) s
    settled_at s files (inl same) left =
        subst (λ (fs : List File). SettlesAt take first all fs s) (sym (pending_is files folder (file ∷ rest) same next.first_left)) (record { net = made.to; settles = made.at.left s left; stage = (on made.to made.merges).0 })
    settled_at s files (inr marked) left =
        subst (λ (fs : List File). SettlesAt take first all fs s) (sym (ap pending marked ∙ without_first folder.files file rest differ next.first_left)) (record { net = made.to; settles = made.at.left s left; stage = (on made.to made.merges).1 })

    -- from what a stop could leave of the files before
    from_left : (files before : Files) → folder.stops.may_leave before → MaybeMarked file.name before files → MaybeMarked file.name folder.files files
    from_left files before left step = subst (λ (fs : Files). MaybeMarked file.name fs files) (next.files before left) step

    inside : (result : Result ⊤ ServeFault) (s : State) (files : Files) → LeavesInside file.name host host_after folder result s files → SettlesAt take first all (pending files) s
    inside result s files (inl (left, as_before)) = unmarked_in s files as_before (lands_during net doc now host host_after next.at lawful kept s left)
    inside result s files (inr (comes, left, after)) = settled_at s files (from_left files after.0 after.1 after.2) left

    -- the change was committed, and the folder failed at the mark
    pub advances_unmarked : (folder_after : FolderView) → Steps (MaybeMarked file.name) folder.stops folder_after.stops → Advances take first all net file rest host host_after folder folder_after (Err NotMarked)
    advances_unmarked folder_after steps = record {
      during = during;
      inside = inside (Err NotMarked);
      exit = λ s files left after. let from = steps.now files after in settled_at s files (from_left files from.0 from.1 from.2) left;
      done = tt;
    }

    -- the change was committed, and the file is marked
    pub advances_marked : (folder_after : FolderView) → folder_after.files ≡ without file.name folder.files → HasFiles folder_after.files folder_after → Advances take first all net file rest host host_after folder folder_after (Ok tt)
    advances_marked folder_after marked sure = record {
      during = during;
      inside = inside (Ok tt);
      exit = λ s files left after. settled_at s files (inr (sure files after ∙ marked)) left;
      done = record {
        to = made.to;
        taken = (takes made.to made.merges).taken;
        at = made.at;
        files = sure;
        left = ap pending marked ∙ without_first folder.files file rest differ next.first_left;
        stage = (on made.to made.merges).1;
      };
    }

-- ---- all that is said of a serving

-- an apply with the defaults that is done has no deadline
pub applies_done : (honest tells : Type 0) (doc : Doc) (now : ℕ) (old new : HostView) (x : Applied) → Applies honest tells (asked_of doc now) old new (Ok x) → Applies honest tells (asked_of doc now) old new (Ok done)
applies_done honest tells doc now old new x a = record {
  says = a.says;
  counts = a.counts;
  answer = λ h s. plain (a.answer h s);
  exact = λ h. plain (a.exact h);
  unbegun = tt;
  intact = λ h calm. tt;
  waits = a.waits;
  exit = a.exit;
  reads = a.reads;
  kept = a.kept;
  seen = a.seen;
  undisturbed = λ h s from to reads merges quiet memory. a.undisturbed h s from to reads merges quiet (λ e. cc);
  tries = a.tries;
  twice = a.twice;
  dumps = a.dumps;
  backs = a.backs;
  moment = a.moment;
  later = a.later;
}
  where
    plain : IsOutcome (apply (asked_of doc now) (standing old.state)) new (Ok x) → IsOutcome (apply (asked_of doc now) (standing old.state)) new (Ok done)
    plain is = record { answer = is.answer ∙ ap (λ (y : Applied). Ok y) (done_plainly doc now (standing old.state) x is.answer); after = is.after }

module _ (laws : Laws) (honest tells folder_tells untouched : Type 0) (doc : Doc) (name : List ℕ) (now : ℕ) (host host_after : HostView) (folder : FolderView) (fits : is_document doc ≡ true) (lawful : IsLawful host.stops) where
  takes : (take : Taking File) (first : NetData) (all : List File) (net : NetData) (file : File) (rest : List File) → IsNext take first all net file rest doc host folder
      → (to : NetData) → merge net doc ≡ Ok to → IsTaken take net file to
  takes take first all net file rest next to merges = file_taken laws take file doc net to next.is_taken next.stage.valid fits merges

  -- the change wasn't made
  pub serves_fault : (fault : ApplyFault) → untouched → Applies honest tells (asked_of doc now) host host_after (Err fault) → Serves honest tells folder_tells doc name now host host_after folder folder untouched (Err (Apply fault))
  serves_fault fault same applies = record {
    applies = applies;
    marks = same;
    comes = λ h t take first all net file rest named next.
        advances_fault take first all net file rest doc now host host_after folder next (takes take first all net file rest next) lawful (applies.kept h next.at.sound) fault;
  }

  module _ (differ : folder_tells → Differ folder.files) (applies : Applies honest tells (asked_of doc now) host host_after (Ok done)) (folder_after : FolderView) where
    made : (h : honest) (net : NetData) (at : IsAt net host) → IsCommitted net doc now host host_after at
    made h net at = committed net doc now host host_after at (applies.kept h at.sound) (applies.answer h at.sound) (applies.exit h at.sound)

    -- the file was marked
    pub serves_marked : IsMarked folder_tells name folder folder_after → Serves honest tells folder_tells doc name now host host_after folder folder_after untouched (Ok tt)
    serves_marked marks = record {
      applies = applies;
      marks = marks;
      comes = λ h t take first all net file rest named next.
          advances_marked take first all net file rest doc now host host_after folder next (takes take first all net file rest next) lawful (applies.kept h next.at.sound) (differ t) (made h net next.at) folder_after
          (subst (λ (n : List ℕ). folder_after.files ≡ without n folder.files) (sym named) (marks.files t)) (marks.stays t);
    }

    -- or the folder failed
    pub serves_unmarked : MayBeMarked folder_tells name folder folder_after → Serves honest tells folder_tells doc name now host host_after folder folder_after untouched (Err NotMarked)
    serves_unmarked marks = record {
      applies = applies;
      marks = marks;
      comes = λ h t take first all net file rest named next.
          advances_unmarked take first all net file rest doc now host host_after folder next (takes take first all net file rest next) lawful (applies.kept h next.at.sound) (differ t) (made h net next.at) folder_after
          (subst (λ (n : List ℕ). Steps (MaybeMarked n) folder.stops folder_after.stops) (sym named) marks.stops);
    }

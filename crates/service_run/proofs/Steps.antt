-- One document of a service, by what its functions say.
use Rattle.std.proofs.Common.{◌≡◌, ◌∙◌, ◌<◌, ◌+◌, ℕ, suc, length, get_or, take, drop, add-one, drop-cons, List, [], ◌∷◌, ◌++◌, Option, Some, None, arith, refl, sym, ap, subst}
use Rattle.std.proofs.lemmas.List.{take-append-drop}
use Rattle.std.proofs.Math.Seq.{take-suc}
use Rattle.host_core.specs.Folders.{FolderView, IsPending, IsLawfulFolder}
use Rattle.host_core.specs.HostView.{IsLawfulHost}
use Rattle.host_core.specs.declared.Host.{Ghosts as HostGhosts}
use Rattle.host_core.specs.declared.Folder.{Ghosts as FolderGhosts}
use Rattle.host_core.specs.declared.Sink.{Ghosts as SinkGhosts}
use Rattle.host_core.specs.declared.Clock.{Ghosts as ClockGhosts}
use Rattle.boot_service.specs.Stops.{pending}
use Rattle.boot_service.proofs.lemmas.Pending.{is_first, first_pending}
use Rattle.top_model.specs.Orders.{Text}
use Rattle.top_model.specs.Texts.{error_line, note_lines}
use Rattle.top_model.specs.declared.report.Report.{Report}
use Rattle.top_model.specs.declared.report.Cause.{Cause}
use Rattle.top_model.specs.declared.report.Cause.TheVariants.{OutOfMemory}
use Rattle.service_run.specs.Documents.{applied_line, at_line, serve_cause}
use Rattle.service_run.specs.Reading.{GoesOn}
use Rattle.service_run.specs.Telling.{Speaks, told_as}
use Rattle.service_run.specs.Steps.{went, starved, stopped, NamedAs, readable, unreadable}
use Rattle.service_run.specs.Course.{World, Asked, WentOn, Went, StopsFor, unread, unnoted, unserved, Stopped, sinks_of}
use Rattle.service_run.specs.Services.{names_of}
use Rattle.service_run.proofs.Documents.{heads}
use Rattle.service_run.proofs.Walks.{Between, went_between}

-- the first of the names that are left may be marked
pub may_mark : (tells : Type 0) (folder : FolderView) → IsLawfulFolder tells folder → (name : Text) (names : List Text) → (tells → names_of (pending folder.files) ≡ name ∷ names) → tells → IsPending name folder.files
may_mark tells folder lawful name names left t =
    let h = heads name names folder.files (left t) in
    subst (λ (n : Text). IsPending n folder.files) h.named (first_pending folder.files h.file h.rest (is_first folder.files h.file h.rest (lawful.differ t) h.is))

-- the name at a place is the first of those from there on
pub next_name : (names : List Text) (i : ℕ) (x : Text) → i < length names → x ≡ get_or names i x → drop i names ≡ x ∷ drop (i + 1) names
next_name names i x inside is = rw add-one (drop-cons names i x inside ∙ ap (λ (y : Text). y ∷ drop (suc i) names) (sym is))

-- and the last of those up to it
pub last_name : (names : List Text) (i : ℕ) (x : Text) → i < length names → x ≡ get_or names i x → take i names ++ x ∷ [] ≡ take (i + 1) names
last_name names i x inside is = rw add-one (ap (λ (y : Text). take i names ++ y ∷ []) is ∙ sym (take-suc names i x inside))

pub all_names : (names : List Text) (i : ℕ) (x : Text) → i < length names → x ≡ get_or names i x → names ≡ take i names ++ x ∷ drop (i + 1) names
all_names names i x inside is = sym (take-append-drop i names) ∙ ap (λ (ns : List Text). take i names ++ ns) (next_name names i x inside is)

module _ {X Y Z V : Type 0} (H : HostGhosts X) (F : FolderGhosts Y) (W : SinkGhosts Z) (C : ClockGhosts V) (lawful_host : (h : X) → IsLawfulHost H.tells (H.told h)) (lawful_folder : (f : Y) → IsLawfulFolder F.tells (F.told f)) where
  abbrev World' : Type 0
  World' = World X Y Z V

  -- the service goes on behind a document
  pub on_of : (name : Text) (now : ℕ) (old new : World') (notes : Text) (cause : Option Cause) → Asked H F W C now old new → NamedAs H F name now old.host new.host old.folder new.folder notes cause → cause ≡ None
      → Speaks W.tells (applied_line name) notes (sinks_of H F W C old) (sinks_of H F W C new) old.is_open new.is_open → WentOn H F W C name old new
  on_of name now old new notes cause asked (unreadable c same reads) none said = absurd cc
  on_of name now old new notes cause asked (readable doc mid n c right reads (stopped fault serves)) none said = absurd cc
  on_of name now old new notes cause asked (readable doc mid n c right reads (starved host folder)) none said = absurd cc
  on_of name now old new notes cause asked (readable doc mid n c right reads (went serves)) none said = record {
    now = now;
    asked = asked;
    served = record { doc = doc; right = right; read = mid; reads = reads; serves = serves };
    said = said;
  }

  some_is : (a b : Cause) → Some a ≡ Some b → a ≡ b
  some_is a b e = cc

  unnoted_folder : (old new : World') (mid : Y) → GoesOn F.tells (F.told old.folder) (F.told mid) → new.folder ≡ mid → GoesOn F.tells (F.told old.folder) (F.told new.folder)
  unnoted_folder old new mid on same = subst (λ (f : Y). GoesOn F.tells (F.told old.folder) (F.told f)) (sym same) on

  -- or it stops at it
  stop_as : (name : Text) (now : ℕ) (old new : World') (notes : Text) (cause : Option Cause) → NamedAs H F name now old.host new.host old.folder new.folder notes cause → (c : Cause) → cause ≡ Some c → StopsFor H F W C name now old new notes c
  stop_as name now old new notes cause (unreadable k same reads) c is = subst (λ (x : Cause). StopsFor H F W C name now old new [] x) (some_is k c is) (unread k same reads)
  stop_as name now old new notes cause (readable doc mid n k right reads (went serves)) c is = absurd cc
  stop_as name now old new notes cause (readable doc mid n k right reads (starved host folder)) c is =
      subst (λ (x : Cause). StopsFor H F W C name now old new [] x) (some_is OutOfMemory c is) (unnoted host (unnoted_folder old new mid reads.folder folder))
  stop_as name now old new notes cause (readable doc mid n k right reads (stopped fault serves)) c is =
      subst (λ (x : Cause). StopsFor H F W C name now old new (note_lines doc.notes) x) (some_is (serve_cause fault) c is) (unserved fault (record { doc = doc; right = right; read = mid; reads = reads; serves = serves }))

  pub stop_of : (name : Text) (now : ℕ) (old new : World') (notes : Text) (cause : Option Cause) (c : Cause) (report : Report) → Asked H F W C now old new → NamedAs H F name now old.host new.host old.folder new.folder notes cause → cause ≡ Some c
      → Speaks W.tells [] (notes ++ at_line name ++ error_line c) (sinks_of H F W C old) (sinks_of H F W C new) old.is_open new.is_open → report ≡ told_as c new.is_open → Stopped H F W C name old new report
  stop_of name now old new notes cause c report asked named is said told = record {
    now = now;
    asked = asked;
    notes = notes;
    cause = c;
    stops = stop_as name now old new notes cause named c is;
    said = said;
    told = told;
  }

  -- ---- one more

  -- the names that are left
  abbrev pub Left : List Text → World' → Type 0
  Left names w = F.tells → names_of (pending (F.told w.folder).files) ≡ names

  pub left_on : (name : Text) (names : List Text) (old new : World') → Left (name ∷ names) old → WentOn H F W C name old new → Left names new
  left_on name names old new left on = (went_between H F W C lawful_host lawful_folder old [] name names old new start on).marked.left
    where
      start : Between H F W C lawful_host lawful_folder old [] (name ∷ names) old
      start = record { host = omega arith; folder = omega arith; marked = record { left = left; marked = λ t. ([], refl, refl) } }

  pub went_more : (name : Text) (names : List Text) (old mid new : World') → Went H F W C names old mid → WentOn H F W C name mid new → Went H F W C (names ++ name ∷ []) old new
  went_more name [] old mid new way on = (new, subst (λ (w : World'). WentOn H F W C name w new) way on, refl)
  went_more name (n ∷ names) old mid new way on = (way.0, way.1, went_more name names way.0 mid new way.2 on)

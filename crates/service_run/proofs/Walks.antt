-- How far a service has come behind each of its documents.
use Rattle.std.proofs.Common.{◌≡◌, ◌∙◌, ◌≤◌, inl, inr, ℕ, List, [], ◌∷◌, ◌++◌, Some, refl, sym, ap, subst, arith, append_assoc, append-nil}
use Rattle.std.specs.Prelude.{⊤, Result, Ok}
use Rattle.net_model.specs.NetData.{NetData}
use Rattle.host_core.specs.Folders.{File, Files, FolderView, HasFiles, IsLawfulFolder, without, bytes_of}
use Rattle.host_core.specs.HostView.{State, HostView, IsLawfulHost}
use Rattle.host_core.specs.declared.Host.{Ghosts as HostGhosts}
use Rattle.host_core.specs.declared.Folder.{Ghosts as FolderGhosts}
use Rattle.host_core.specs.declared.Sink.{Ghosts as SinkGhosts}
use Rattle.host_core.specs.declared.Clock.{Ghosts as ClockGhosts}
use Rattle.boot_service.specs.Fold.{IsStage}
use Rattle.boot_service.specs.Stops.{pending, IsAt, SettlesAt, LeavesInside, IsNext, Advances}
use Rattle.boot_service.specs.declared.fault.ServeFault.{ServeFault}
use Rattle.boot_service.proofs.lemmas.Pending.{Differ, without_first}
use Rattle.top_model.specs.Orders.{Text}
use Rattle.service_run.specs.Documents.{document_of, taking}
use Rattle.service_run.specs.Reading.{GoesOn}
use Rattle.service_run.specs.Course.{World, Went, WentOn, Served}
use Rattle.service_run.specs.Services.{names_of, LeavesWent, LeavesAt}
use Rattle.service_run.proofs.Documents.{Heads, heads, read_first, taken_as_document}

-- ---- the folder, on every host

-- what is left and what was marked since these files were
pub record Marked (tells : Type 0) (first : Files) (done : List Text) (names : List Text) (folder : FolderView) : Type 0 where
  pub left : tells → names_of (pending folder.files) ≡ names
  pub marked : tells → (files : List File) × (pending first ≡ files ++ pending folder.files) × (names_of files ≡ done)

-- reading changes nothing of it
pub marked_read : (tells : Type 0) (first : Files) (done names : List Text) (old new : FolderView) → Marked tells first done names old → GoesOn tells old new → Marked tells first done names new
marked_read tells first done names old new m on = record {
  left = λ t. ap (λ (fs : Files). names_of (pending fs)) (on.unmoved.files t) ∙ m.left t;
  marked = λ t. let was = m.marked t in (was.0, subst (λ (fs : Files). pending first ≡ was.0 ++ pending fs) (sym (on.unmoved.files t)) was.1, was.2);
}

names_more : (files : List File) (file : File) → names_of (files ++ file ∷ []) ≡ names_of files ++ file.name ∷ []
names_more [] file = refl
names_more (f ∷ files) file = ap (λ (ns : List Text). f.name ∷ ns) (names_more files file)

-- one file more is marked
pub marked_more : (tells : Type 0) (first : Files) (done : List Text) (name : Text) (names : List Text) (old new : FolderView) → (tells → Differ old.files)
    → Marked tells first done (name ∷ names) old → (tells → new.files ≡ without name old.files) → Marked tells first (done ++ name ∷ []) names new
marked_more tells first done name names old new differ m marks = record {
  left = λ t. let h = at t in ap names_of (now t) ∙ h.others;
  marked = λ t.
      let h = at t in
      let was = m.marked t in (
        was.0 ++ h.file ∷ [],
        was.1 ∙ ap (λ (fs : List File). was.0 ++ fs) (h.is ∙ ap (λ (fs : List File). h.file ∷ fs) (sym (now t))) ∙ sym (append_assoc was.0 (h.file ∷ []) (pending new.files)),
        names_more was.0 h.file ∙ ap (λ (n : Text). names_of was.0 ++ n ∷ []) h.named ∙ ap (λ (ns : List Text). ns ++ name ∷ []) was.2,
      );
}
  where
    at : tells → Heads name names old.files
    at t = heads name names old.files (m.left t)

    now : (t : tells) → pending new.files ≡ (at t).rest
    now t =
        let h = at t in
        ap pending (marks t ∙ ap (λ (n : Text). without n old.files) (sym h.named)) ∙ without_first old.files h.file h.rest (differ t) h.is

-- ---- a host and a folder, on an honest host that is sound

-- a service that began at a host and a folder came to these
pub record Came (first : NetData) (all : List File) (host : HostView) (host_now : HostView) (folder : FolderView) : Type 0 where
  pub net : NetData
  pub at : IsAt net host_now
  pub files : HasFiles folder.files folder
  pub stage : IsStage taking first all net (pending folder.files)
  pub moment : host.stops.moment ≤ host_now.stops.moment
  pub during : (s : State) → host_now.stops.left_since host.stops.moment s → (rest : List File) × SettlesAt taking first all rest s

pub came_start : (tells : Type 0) (first : NetData) (all : List File) (net : NetData) (host : HostView) (folder : FolderView) → IsLawfulHost tells host → IsAt net host → HasFiles folder.files folder
    → IsStage taking first all net (pending folder.files) → Came first all host host folder
came_start tells first all net host folder lawful at files stage = record {
  net = net;
  at = at;
  files = files;
  stage = stage;
  moment = omega arith;
  during = λ s left. (pending folder.files, record { net = net; settles = at.left s (lawful.stops.only_now s left); stage = stage });
}

-- reading leaves it there
pub came_read : (tells : Type 0) (first : NetData) (all : List File) (host host_now : HostView) (old new : FolderView) → tells → Came first all host host_now old → GoesOn tells old new → Came first all host host_now new
came_read tells first all host host_now old new t came on = record {
  net = came.net;
  at = came.at;
  files = λ files left. let from = on.unmoved.stops.now files left in from.2 ∙ came.files from.0 from.1 ∙ sym (on.unmoved.files t);
  stage = subst (λ (fs : Files). IsStage taking first all came.net (pending fs)) (sym (on.unmoved.files t)) came.stage;
  moment = came.moment;
  during = came.during;
}

module _ (first : NetData) (all : List File) (host host_now host_after : HostView) (folder folder_after : FolderView) (file : File) (rest : List File) (is : pending folder.files ≡ file ∷ rest)
    (came : Came first all host host_now folder) where
  -- each pair that is left since the service began
  pub during_on : (result : Result ⊤ ServeFault) → Advances taking first all came.net file rest host_now host_after folder folder_after result
      → (s : State) → host_after.stops.left_since host.stops.moment s → (left : List File) × SettlesAt taking first all left s
  during_on result advances s left = elim (advances.during host.stops.moment s came.moment left) [
    | inl before ↦ came.during s before
    | inr settles ↦ (file ∷ rest, settles)
  ]

  -- it came on by a document
  pub came_on : host_now.stops.moment ≤ host_after.stops.moment → Advances taking first all came.net file rest host_now host_after folder folder_after (Ok tt) → Came first all host host_after folder_after
  came_on later advances = record {
    net = advances.done.to;
    at = advances.done.at;
    files = advances.done.files;
    stage = subst (λ (fs : List File). IsStage taking first all advances.done.to fs) (sym advances.done.left) advances.done.stage;
    moment = let a : host.stops.moment ≤ host_now.stops.moment = came.moment in omega (arith, a, later);
    during = during_on (Ok tt) advances;
  }

-- ---- one document

module _ {X Y Z V : Type 0} (H : HostGhosts X) (F : FolderGhosts Y) (W : SinkGhosts Z) (C : ClockGhosts V) (lawful_host : (h : X) → IsLawfulHost H.tells (H.told h)) (lawful_folder : (f : Y) → IsLawfulFolder F.tells (F.told f)) where
  abbrev World' : Type 0
  World' = World X Y Z V

  -- what is known between two documents of a service that began at these
  pub record Between (start : World') (done names : List Text) (w : World') : Type 0 where
    pub host : (H.told start.host).faults ≤ (H.told w.host).faults
    pub folder : (F.told start.folder).faults ≤ (F.told w.folder).faults
    pub marked : Marked F.tells (F.told start.folder).files done names (F.told w.folder)

  module _ (name : Text) (now : ℕ) (old new : World') (result : Result ⊤ ServeFault) (served : Served H F W C name now old new result) where
    -- the folder once the document was read
    abbrev pub read : FolderView
    read = F.told served.read

    pub read_later : (F.told old.folder).faults ≤ read.faults
    read_later = served.reads.folder.later

    -- the first of the files that are left is this document
    pub record IsHead (names : List Text) : Type 1 where
      pub heads : Heads name names read.files
      pub reads : document_of heads.file ≡ Ok served.doc
      pub next : (first : NetData) (all : List File) (host : HostView) (came : Came first all host (H.told old.host) read) → IsNext taking first all came.net heads.file heads.rest served.doc (H.told old.host) read

    pub is_head : F.tells → (start : Files) (done names : List Text) → Marked F.tells start done (name ∷ names) (F.told old.folder) → IsHead names
    is_head t start done names m =
        let here = marked_read F.tells start done (name ∷ names) (F.told old.folder) read m served.reads.folder in
        let h = heads name names read.files (here.left t) in
        let was = served.reads.outcome t in
        let found : bytes_of name read.files ≡ Some was.0 = ap (bytes_of name) (served.reads.folder.unmoved.files t) ∙ was.1 in
        let doc = read_first name read.files h.file h.rest (Ok served.doc) ((lawful_folder served.read).differ t) h.is h.named was.0 found was.2 in
        record {
          heads = h;
          reads = doc;
          next = λ first all host came. record {
            at = came.at;
            files = came.files;
            first_left = h.is;
            stage = subst (λ (fs : List File). IsStage taking first all came.net fs) h.is came.stage;
            is_taken = taken_as_document h.file served.doc doc;
          };
        }

    -- how far the service comes by it
    pub advances : (honest : H.honest) (t : F.tells) (names : List Text) (head : IsHead names) (first : NetData) (all : List File) (host : HostView) (came : Came first all host (H.told old.host) read)
        → Advances taking first all came.net head.heads.file head.heads.rest (H.told old.host) (H.told new.host) read (F.told new.folder) result
    advances honest t names head first all host came =
        served.serves.comes honest t taking first all came.net head.heads.file head.heads.rest head.heads.named (head.next first all host came)

    -- what it leaves inside
    pub inside : (honest : H.honest) (t : F.tells) (names : List Text) (head : IsHead names) (first : NetData) (all : List File) (host : HostView) (came : Came first all host (H.told old.host) read)
        → (s : State) (files : Files) → LeavesAt H F W C name now old new result served s files → SettlesAt taking first all (pending files) s
    inside honest t names head first all host came s files leaves =
        (advances honest t names head first all host came).inside s files
        (subst (λ (n : Text). LeavesInside n (H.told old.host) (H.told new.host) read result s files) (sym head.heads.named) leaves)

  -- it was applied and marked
  pub went_between : (start : World') (done : List Text) (name : Text) (names : List Text) (old new : World') → Between start done (name ∷ names) old → WentOn H F W C name old new → Between start (done ++ name ∷ []) names new
  went_between start done name names old new b on =
      let served = on.served in
      let marks = served.serves.marks in
      record {
        host = let x = b.host in let y = served.serves.applies.later in omega (arith, x, y);
        folder = let x = b.folder in let y = served.reads.folder.later in let z = marks.later in omega (arith, x, y, z);
        marked = marked_more F.tells (F.told start.folder).files done name names (F.told served.read) (F.told new.folder) (λ t. (lawful_folder served.read).differ t)
            (marked_read F.tells (F.told start.folder).files done (name ∷ names) (F.told old.folder) (F.told served.read) b.marked served.reads.folder) marks.files;
      }

  pub went_came : (honest : H.honest) (t : F.tells) (start : World') (done : List Text) (name : Text) (names : List Text) (old new : World') → Between start done (name ∷ names) old → WentOn H F W C name old new
      → (first : NetData) (all : List File) → Came first all (H.told start.host) (H.told old.host) (F.told old.folder) → Came first all (H.told start.host) (H.told new.host) (F.told new.folder)
  went_came honest t start done name names old new b on first all came =
      let served = on.served in
      let here = came_read F.tells first all (H.told start.host) (H.told old.host) (F.told old.folder) (F.told served.read) t came served.reads.folder in
      let head = is_head name on.now old new (Ok tt) served t (F.told start.folder).files done names b.marked in
      came_on first all (H.told start.host) (H.told old.host) (H.told new.host) (F.told served.read) (F.told new.folder) head.heads.file head.heads.rest head.heads.is here served.serves.applies.moment
      (advances name on.now old new (Ok tt) served honest t names head first all (H.told start.host) here)

  -- ---- documents one after another

  pub all_between : (start : World') (done : List Text) (names more : List Text) (old new : World') → Between start done (names ++ more) old → Went H F W C names old new → Between start (done ++ names) more new
  all_between start done [] more old new b went =
      subst (λ (ns : List Text). Between start ns more new) (sym (append-nil done)) (subst (λ (w : World'). Between start done more w) (sym went) b)
  all_between start done (name ∷ names) more old new b went =
      subst (λ (ns : List Text). Between start ns more new) (append_assoc done (name ∷ []) names)
      (all_between start (done ++ name ∷ []) names more went.0 new (went_between start done name (names ++ more) old went.0 b went.1) went.2)

  -- a service that came to the first of them came to the end of them, and what it leaves inside settles to its stages
  pub record CameBy (start : World') (first : NetData) (all : List File) (names : List Text) (old new : World') (went : Went H F W C names old new) : Type 0 where
    pub came : Came first all (H.told start.host) (H.told new.host) (F.told new.folder)
    pub inside : (s : State) (files : Files) → LeavesWent H F W C names old new went s files → SettlesAt taking first all (pending files) s

  pub all_came : (honest : H.honest) (t : F.tells) (start : World') (done : List Text) (names more : List Text) (old new : World') → Between start done (names ++ more) old → (went : Went H F W C names old new)
      → (first : NetData) (all : List File) → Came first all (H.told start.host) (H.told old.host) (F.told old.folder) → CameBy start first all names old new went
  all_came honest t start done [] more old new b went first all came = record {
    came = subst (λ (w : World'). Came first all (H.told start.host) (H.told w.host) (F.told w.folder)) (sym went) came;
    inside = λ s files leaves. absurd leaves;
  }
  all_came honest t start done (name ∷ names) more old new b went first all came =
      let on = went.1 in
      let next = went_between start done name (names ++ more) old went.0 b on in
      let rest = all_came honest t start (done ++ name ∷ []) names more went.0 new next went.2 first all (went_came honest t start done name (names ++ more) old went.0 b on first all came) in
      let here = came_read F.tells first all (H.told start.host) (H.told old.host) (F.told old.folder) (F.told on.served.read) t came on.served.reads.folder in
      let head = is_head name on.now old went.0 (Ok tt) on.served t (F.told start.folder).files done (names ++ more) b.marked in
      record {
        came = rest.came;
        inside = λ s files leaves. elim leaves [
          | inl now ↦ inside name on.now old went.0 (Ok tt) on.served honest t (names ++ more) head first all (H.told start.host) here s files now
          | inr later ↦ rest.inside s files later
        ];
      }

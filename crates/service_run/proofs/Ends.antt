-- How a service ends, and what follows for all of its documents.
use Rattle.std.proofs.Common.{◌≡◌, ◌∙◌, ◌⊎◌, ◌≤◌, inl, inr, ℕ, Bool, true, false, List, [], ◌∷◌, ◌++◌, Some, None, refl, sym, ap, subst, arith, append_assoc, append-nil}
use Rattle.std.proofs.lemmas.Grind.{flat_map-append}
use Rattle.std.specs.Prelude.{Err}
use Rattle.net_model.specs.NetData.{NetData}
use Rattle.host_core.specs.Faults.{Rose}
use Rattle.host_core.specs.Folders.{File, Files, FolderView, IsLawfulFolder, bytes_of}
use Rattle.host_core.specs.HostView.{State, IsLawfulHost}
use Rattle.host_core.specs.declared.Host.{Ghosts as HostGhosts}
use Rattle.host_core.specs.declared.Folder.{Ghosts as FolderGhosts}
use Rattle.host_core.specs.declared.Sink.{Ghosts as SinkGhosts}
use Rattle.host_core.specs.declared.Clock.{Ghosts as ClockGhosts}
use Rattle.host_core.proofs.lemmas.Counts.{rose_in}
use Rattle.boot_service.specs.Fold.{IsStage}
use Rattle.boot_service.specs.Stops.{pending, IsAt, SettlesAt}
use Rattle.boot_service.specs.declared.fault.ServeFault.{ServeFault}
use Rattle.boot_service.specs.declared.fault.ServeFault.TheVariants.{Apply, NotMarked}
use Rattle.top_model.specs.Orders.{Text}
use Rattle.top_model.specs.Texts.{status_of}
use Rattle.top_model.specs.declared.report.Report.{Report}
use Rattle.top_model.specs.declared.report.Cause.{Cause}
use Rattle.top_model.specs.declared.report.Cause.TheVariants.{Done, NoSuchName, FolderFault, WriteFault, OutOfMemory}
use Rattle.engine_model.specs.Sound.{Sound}
use Rattle.engine_model.specs.declared.answers.ApplyFault.{ApplyFault}
use Rattle.service_run.specs.Documents.{taking, why, applied_line, applied_lines, serve_cause}
use Rattle.service_run.specs.Reading.{GoesOn, DocumentOutcome, IsReadAs}
use Rattle.service_run.specs.Telling.{Sinks, Speaks, told_as}
use Rattle.service_run.specs.Course.{World, Served, StopsFor, unread, unnoted, unserved}
use Rattle.service_run.specs.Services.{names_of, LeavesStop}
use Rattle.service_run.proofs.Causes.{IsStop, stop_read, stop_memory, stop_served, folder_fault, read_fault}
use Rattle.service_run.proofs.Documents.{heads, first_bytes, read_first, unread_refused, unread_why}
use Rattle.service_run.proofs.Refusals.{unread_as, memory, unfound, failed, denied, unmade, starved, broken, machine, refused_here, merge_why}
use Rattle.service_run.proofs.Walks.{Came, came_read, during_on, Between, is_head, advances, inside}

-- ---- reports

-- what a report of this cause says where it acknowledges that all is done
pub done_told : (cause : Cause) (is_open : Bool) (report : Report) → IsStop cause → report ≡ told_as cause is_open → (report.cause ≡ Done) ⊎ (report.cause ≡ WriteFault 0) → ⊥
done_told cause true report stop is (inl done) = stop.undone (ap status_of (sym (ap (λ (r : Report). r.cause) is) ∙ done))
done_told cause true report stop is (inr cut) = stop.unwritten 0 (sym (ap (λ (r : Report). r.cause) is) ∙ cut)
done_told cause false report stop is (inl done) = let e : WriteFault (status_of cause) ≡ Done = sym (ap (λ (r : Report). r.cause) is) ∙ done in cc
done_told cause false report stop is (inr cut) =
    let e : WriteFault (status_of cause) ≡ WriteFault 0 = sym (ap (λ (r : Report). r.cause) is) ∙ cut in
    let z : status_of cause ≡ 0 = cc in
    stop.undone z

-- it is another than a sink's fault only where all was written
pub told_other : (cause other : Cause) (is_open : Bool) (report : Report) → ((status : ℕ) → other ≡ WriteFault status → ⊥) → report ≡ told_as cause is_open → report.cause ≡ other → cause ≡ other
told_other cause other true report never is e = sym (ap (λ (r : Report). r.cause) is) ∙ e
told_other cause other false report never is e = absurd (never (status_of cause) (sym (sym (ap (λ (r : Report). r.cause) is) ∙ e)))

pub told_status : (cause : Cause) (is_open : Bool) (report : Report) → report ≡ told_as cause is_open → report.status ≡ status_of report.cause
told_status cause true report is = subst (λ (r : Report). r.status ≡ status_of r.cause) (sym is) refl
told_status cause false report is = subst (λ (r : Report). r.status ≡ status_of r.cause) (sym is) refl

-- ---- sinks

-- a service whose sinks were these, and all was written so far or wasn't, wrote to its output the lines of these names
pub record Spoke (tells : Type 0) (first now : Sinks) (done : List Text) (is_open : Bool) : Type 0 where
  pub to_out : is_open ≡ true → (tells → now.out.written ≡ first.out.written ++ applied_lines done) × (now.out.faults ≡ first.out.faults) × (now.err.faults ≡ first.err.faults)
  pub cut : is_open ≡ false → Rose first.out.faults now.out.faults ⊎ Rose first.err.faults now.err.faults
  pub out : first.out.faults ≤ now.out.faults
  pub err : first.err.faults ≤ now.err.faults

pub spoke_start : (tells : Type 0) (sinks : Sinks) → Spoke tells sinks sinks [] true
spoke_start tells sinks = record {
  to_out = λ is_open. ((λ t. sym (append-nil sinks.out.written)), refl, refl);
  cut = λ e. absurd cc;
  out = omega arith;
  err = omega arith;
}

lines_more : (done : List Text) (name : Text) → applied_lines (done ++ name ∷ []) ≡ applied_lines done ++ applied_line name
lines_more done name = flat_map-append applied_line done (name ∷ []) ∙ ap (λ (t : Text). applied_lines done ++ t) (append-nil (applied_line name))

module _ (tells : Type 0) (first old new : Sinks) (done : List Text) where
  -- what is known where all was written, whatever the lines
  pub record Steady (text : Text) (is_open : Bool) : Type 0 where
    pub to_out : is_open ≡ true → (tells → new.out.written ≡ (first.out.written ++ applied_lines done) ++ text) × (new.out.faults ≡ first.out.faults) × (new.err.faults ≡ first.err.faults)
    pub cut : is_open ≡ false → Rose first.out.faults new.out.faults ⊎ Rose first.err.faults new.err.faults
    pub out : first.out.faults ≤ new.out.faults
    pub err : first.err.faults ≤ new.err.faults

  pub steady : (out_text err_text : Text) (is_open open_after : Bool) → Spoke tells first old done is_open → Speaks tells out_text err_text old new is_open open_after → Steady out_text open_after
  steady out_text err_text true true s all = record {
    to_out = λ e. ((λ t. all.to_out t ∙ ap (λ (w : Text). w ++ out_text) ((s.to_out refl).0 t)), all.out_steady ∙ (s.to_out refl).1, all.err_steady ∙ (s.to_out refl).2);
    cut = λ e. absurd cc;
    out = let a = s.out in let b = all.out_steady in omega (arith, a, b);
    err = let a = s.err in let b = all.err_steady in omega (arith, a, b);
  }
  steady out_text err_text true false s some = record {
    to_out = λ e. absurd cc;
    cut = λ e. elim some.rose [
      | inl rose ↦ inl (rose_in first.out.faults old.out.faults new.out.faults new.out.faults s.out (omega arith) rose)
      | inr rose ↦ inr (rose_in first.err.faults old.err.faults new.err.faults new.err.faults s.err (omega arith) rose)
    ];
    out = let a = s.out in let b = some.out_later in omega (arith, a, b);
    err = let a = s.err in let b = some.err_later in omega (arith, a, b);
  }
  steady out_text err_text false true s never = absurd never
  steady out_text err_text false false s none = record {
    to_out = λ e. absurd cc;
    cut = λ e. elim (s.cut refl) [
      | inl rose ↦ inl (subst (λ (n : ℕ). Rose first.out.faults n) (sym none.out_steady) rose)
      | inr rose ↦ inr (subst (λ (n : ℕ). Rose first.err.faults n) (sym none.err_steady) rose)
    ];
    out = let a = s.out in let b = none.out_steady in omega (arith, a, b);
    err = let a = s.err in let b = none.err_steady in omega (arith, a, b);
  }

  -- one line more
  pub spoke_more : (name err_text : Text) (is_open open_after : Bool) → Spoke tells first old done is_open → Speaks tells (applied_line name) err_text old new is_open open_after → Spoke tells first new (done ++ name ∷ []) open_after
  spoke_more name err_text is_open open_after s speaks =
      let st = steady (applied_line name) err_text is_open open_after s speaks in record {
        to_out = λ e. let x = st.to_out e in
            ((λ t. x.0 t ∙ (append_assoc first.out.written (applied_lines done) (applied_line name) ∙ ap (λ (w : Text). first.out.written ++ w) (sym (lines_more done name)))), x.1, x.2);
        cut = st.cut;
        out = st.out;
        err = st.err;
      }

  -- nothing more to the output
  pub spoke_stop : (err_text : Text) (is_open open_after : Bool) → Spoke tells first old done is_open → Speaks tells [] err_text old new is_open open_after → Spoke tells first new done open_after
  spoke_stop err_text is_open open_after s speaks =
      let st = steady [] err_text is_open open_after s speaks in record {
        to_out = λ e. let x = st.to_out e in ((λ t. x.0 t ∙ append-nil (first.out.written ++ applied_lines done)), x.1, x.2);
        cut = st.cut;
        out = st.out;
        err = st.err;
      }

-- ---- the stop at a document

module _ {X Y Z V : Type 0} (H : HostGhosts X) (F : FolderGhosts Y) (W : SinkGhosts Z) (C : ClockGhosts V) (lawful_host : (h : X) → IsLawfulHost H.tells (H.told h)) (lawful_folder : (f : Y) → IsLawfulFolder F.tells (F.told f)) where
  abbrev World' : Type 0
  World' = World X Y Z V

  same_host : (old new : World') → new.host ≡ old.host → (H.told old.host).faults ≤ (H.told new.host).faults
  same_host old new same = subst (λ (h : X). (H.told old.host).faults ≤ (H.told h).faults) (sym same) (omega arith)

  -- no count falls by a serving
  served_folder : (name : Text) (now : ℕ) (old new : World') (fault : ServeFault) (served : Served H F W C name now old new (Err fault)) → (F.told served.read).faults ≤ (F.told new.folder).faults
  served_folder name now old new (Apply fault) served = subst (λ (f : Y). (F.told served.read).faults ≤ (F.told f).faults) (sym served.serves.marks) (omega arith)
  served_folder name now old new NotMarked served = served.serves.marks.later

  pub stop_host : (name : Text) (now : ℕ) (old new : World') (notes : Text) (cause : Cause) → StopsFor H F W C name now old new notes cause → (H.told old.host).faults ≤ (H.told new.host).faults
  stop_host name now old new notes cause (unread c same reads) = same_host old new same
  stop_host name now old new notes cause (unnoted same on) = same_host old new same
  stop_host name now old new notes cause (unserved fault served) = served.serves.applies.later

  pub stop_folder_later : (name : Text) (now : ℕ) (old new : World') (notes : Text) (cause : Cause) → StopsFor H F W C name now old new notes cause → (F.told old.folder).faults ≤ (F.told new.folder).faults
  stop_folder_later name now old new notes cause (unread c same reads) = reads.folder.later
  stop_folder_later name now old new notes cause (unnoted same on) = on.later
  stop_folder_later name now old new notes cause (unserved fault served) =
      let a = served.reads.folder.later in let b = served_folder name now old new fault served in omega (arith, a, b)

  -- it isn't done, and it is no sink's fault
  pub stop_cause : (name : Text) (now : ℕ) (old new : World') (notes : Text) (cause : Cause) → StopsFor H F W C name now old new notes cause → IsStop cause
  stop_cause name now old new notes cause (unread c same reads) = stop_read F.tells name (F.told old.folder) (F.told new.folder) c reads.outcome
  stop_cause name now old new notes cause (unnoted same on) = stop_memory
  stop_cause name now old new notes cause (unserved fault served) = (stop_served fault).stop

  -- the name was found, where the folder tells its files
  pub stop_named : (name : Text) (now : ℕ) (old new : World') (notes : Text) (cause : Cause) → StopsFor H F W C name now old new notes cause → F.tells → (names : List Text) → names_of (pending (F.told old.folder).files) ≡ name ∷ names
      → cause ≡ NoSuchName → ⊥
  stop_named name now old new notes cause (unread c same reads) t names left is =
      let h = heads name names (F.told old.folder).files left in
      let found : bytes_of name (F.told old.folder).files ≡ Some h.file.bytes = subst (λ (n : Text). bytes_of n (F.told old.folder).files ≡ Some h.file.bytes) h.named (first_bytes (F.told old.folder).files h.file h.rest ((lawful_folder old.folder).differ t) h.is) in
      let none : bytes_of name (F.told old.folder).files ≡ None = unfound name (F.told old.folder) (F.told new.folder) c reads.outcome is t in
      let e : None ≡ Some h.file.bytes = sym none ∙ found in cc
    where
      unfound : (n : Text) (a b : FolderView) (k : Cause) → DocumentOutcome F.tells n a b (Err k) → k ≡ NoSuchName → F.tells → bytes_of n a.files ≡ None
      unfound n a b k h e tells = subst (λ (c : Cause). DocumentOutcome F.tells n a b (Err c)) e h tells
  stop_named name now old new notes cause (unnoted same on) t names left is = cc
  stop_named name now old new notes cause (unserved fault served) t names left is = (stop_served fault).named is

  -- a fault of the folder is answered only where its count rose
  pub stop_fault : (name : Text) (now : ℕ) (old new : World') (notes : Text) (cause : Cause) → StopsFor H F W C name now old new notes cause → cause ≡ FolderFault → Rose (F.told old.folder).faults (F.told new.folder).faults
  stop_fault name now old new notes cause (unread c same reads) is = read_fault F.tells name (F.told old.folder) (F.told new.folder) c reads.outcome is
  stop_fault name now old new notes cause (unnoted same on) is = absurd (cc)
  stop_fault name now old new notes cause (unserved (Apply fault) served) is = absurd (folder_fault fault is)
  stop_fault name now old new notes cause (unserved NotMarked served) is =
      rose_in (F.told old.folder).faults (F.told served.read).faults (F.told new.folder).faults (F.told new.folder).faults served.reads.folder.later (omega arith) served.serves.marks.rose

  -- ---- where it came to, on an honest host that is sound

  pub record Stands (start : World') (first : NetData) (all : List File) (new : World') (leaves : State → Files → Type 0) : Type 0 where
    pub during : (s : State) → (H.told new.host).stops.left_since (H.told start.host).stops.moment s → (rest : List File) × SettlesAt taking first all rest s
    pub exit : (s : State) (files : Files) → (H.told new.host).stops.may_leave s → (F.told new.folder).stops.may_leave files → SettlesAt taking first all (pending files) s
    pub inside : (s : State) (files : Files) → leaves s files → SettlesAt taking first all (pending files) s
    pub sound : Sound (H.told new.host)

  -- what it came to is what stands
  pub came_stands : (start : World') (first : NetData) (all : List File) (new : World') (leaves : State → Files → Type 0) → Came first all (H.told start.host) (H.told new.host) (F.told new.folder) → ((s : State) (files : Files) → leaves s files → ⊥)
      → Stands start first all new leaves
  came_stands start first all new leaves came none = record {
    during = came.during;
    exit = λ s files left after. record { net = came.net; settles = came.at.left s left; stage = subst (λ (fs : Files). IsStage taking first all came.net (pending fs)) (sym (came.files files after)) came.stage };
    inside = λ s files leaves. absurd (none s files leaves);
    sound = came.at.sound;
  }

  -- nothing was done on the host
  pub idle : (t : F.tells) (start : World') (first : NetData) (all : List File) (old new : World') → Came first all (H.told start.host) (H.told old.host) (F.told old.folder) → new.host ≡ old.host → GoesOn F.tells (F.told old.folder) (F.told new.folder)
      → Came first all (H.told start.host) (H.told new.host) (F.told new.folder)
  idle t start first all old new came same on =
      subst (λ (h : X). Came first all (H.told start.host) (H.told h) (F.told new.folder)) (sym same) (came_read F.tells first all (H.told start.host) (H.told old.host) (F.told old.folder) (F.told new.folder) t came on)

  pub stop_stands : (honest : H.honest) (t : F.tells) (start : World') (done : List Text) (name : Text) (names : List Text) (now : ℕ) (old new : World') (notes : Text) (cause : Cause)
      → Between H F W C lawful_host lawful_folder start done (name ∷ names) old → (stops : StopsFor H F W C name now old new notes cause)
      → (first : NetData) (all : List File) → Came first all (H.told start.host) (H.told old.host) (F.told old.folder) → Stands start first all new (LeavesStop H F W C name now old new notes cause stops)
  stop_stands honest t start done name names now old new notes cause b (unread c same reads) first all came = came_stands start first all new _ (idle t start first all old new came same reads.folder) (λ s files leaves. leaves)
  stop_stands honest t start done name names now old new notes cause b (unnoted same on) first all came = came_stands start first all new _ (idle t start first all old new came same on) (λ s files leaves. leaves)
  stop_stands honest t start done name names now old new notes cause b (unserved fault served) first all came =
      let here = came_read F.tells first all (H.told start.host) (H.told old.host) (F.told old.folder) (F.told served.read) t came served.reads.folder in
      let head = is_head H F W C lawful_host lawful_folder name now old new (Err fault) served t (F.told start.folder).files done names b.marked in
      let adv = advances H F W C lawful_host lawful_folder name now old new (Err fault) served honest t names head first all (H.told start.host) here in
      record {
        during = during_on first all (H.told start.host) (H.told old.host) (H.told new.host) (F.told served.read) (F.told new.folder) head.heads.file head.heads.rest head.heads.is here (Err fault) adv;
        exit = adv.exit;
        inside = inside H F W C lawful_host lawful_folder name now old new (Err fault) served honest t names head first all (H.told start.host) here;
        sound = (served.serves.applies.kept honest here.at.sound).sound;
      }

  -- ---- where no count rose

  -- the document is refused on the network reached so far, and nothing is changed by it
  pub record RefusedAt (new : World') (cause : Cause) : Type 0 where
    pub net : NetData
    pub file : File
    pub rest : List File
    pub at : IsAt net (H.told new.host)
    pub next : pending (F.told new.folder).files ≡ file ∷ rest
    pub refused : taking net file ≡ None
    pub is : cause ≡ why net file

  unread_quiet : (t : F.tells) (name : Text) (names : List Text) (old new : World') (cause : Cause) (net : NetData) → names_of (pending (F.told old.folder).files) ≡ name ∷ names → IsAt net (H.told old.host) → new.host ≡ old.host
      → GoesOn F.tells (F.told old.folder) (F.told new.folder) → IsReadAs name (F.told old.folder) (Err cause) → RefusedAt new cause
  unread_quiet t name names old new cause net left at same on (all, found, reads) =
      let h = heads name names (F.told old.folder).files left in
      let is = read_first name (F.told old.folder).files h.file h.rest (Err cause) ((lawful_folder old.folder).differ t) h.is h.named all found reads in
      record {
        net = net;
        file = h.file;
        rest = h.rest;
        at = subst (λ (x : X). IsAt net (H.told x)) (sym same) at;
        next = ap pending (on.unmoved.files t) ∙ h.is;
        refused = unread_refused net h.file cause is;
        is = unread_why net h.file cause is;
      }

  unserved_quiet : (honest : H.honest) (t : F.tells) (start : World') (done : List Text) (name : Text) (names : List Text) (now : ℕ) (old new : World') (fault : ApplyFault)
      → Between H F W C lawful_host lawful_folder start done (name ∷ names) old → (served : Served H F W C name now old new (Err (Apply fault))) → (net : NetData) → IsAt net (H.told old.host)
      → (Rose (H.told old.host).faults (H.told new.host).faults → ⊥) → (serve_cause (Apply fault) ≡ OutOfMemory) ⊎ RefusedAt new (serve_cause (Apply fault))
  unserved_quiet honest t start done name names now old new fault b served net at quiet =
      elim (unmade net served.doc now (H.told old.host) (H.told new.host) H.honest H.tells at honest fault served.serves.applies) [
        | starved e ↦ inl e
        | broken rose ↦ absurd (quiet rose)
        | machine is ↦
            let r = refused_here net served.doc now (H.told old.host) (H.told new.host) H.honest H.tells at honest fault served.serves.applies is in
            let head = is_head H F W C lawful_host lawful_folder name now old new (Err (Apply fault)) served t (F.told start.folder).files done names b.marked in
            let both = merge_why net head.heads.file served.doc r.refused head.reads r.merges in
            inr (record {
              net = net;
              file = head.heads.file;
              rest = head.heads.rest;
              at = r.at;
              next = subst (λ (f : Y). pending (F.told f).files ≡ head.heads.file ∷ head.heads.rest) (sym served.serves.marks) head.heads.is;
              refused = both.0;
              is = ap (λ (f : ApplyFault). serve_cause (Apply f)) r.is ∙ both.1;
            })
      ]

  -- the document is refused, or memory ran out
  pub stop_quiet : (honest : H.honest) (t : F.tells) (start : World') (done : List Text) (name : Text) (names : List Text) (now : ℕ) (old new : World') (notes : Text) (cause : Cause)
      → Between H F W C lawful_host lawful_folder start done (name ∷ names) old → StopsFor H F W C name now old new notes cause → (net : NetData) → IsAt net (H.told old.host)
      → (Rose (H.told old.host).faults (H.told new.host).faults → ⊥) → (Rose (F.told old.folder).faults (F.told new.folder).faults → ⊥) → (cause ≡ OutOfMemory) ⊎ RefusedAt new cause
  stop_quiet honest t start done name names now old new notes cause b (unread c same reads) net at quiet still =
      elim (unread_as F.tells name (F.told old.folder) (F.told new.folder) c reads.outcome) [
        | memory e ↦ inl e
        | unfound e ↦ absurd (stop_named name now old new [] c (unread c same reads) t names (b.marked.left t) e)
        | failed rose ↦ absurd (still rose)
        | denied is ↦ inr (unread_quiet t name names old new c net (b.marked.left t) at same reads.folder (is t))
      ]
  stop_quiet honest t start done name names now old new notes cause b (unnoted same on) net at quiet still = inl refl
  stop_quiet honest t start done name names now old new notes cause b (unserved (Apply fault) served) net at quiet still = unserved_quiet honest t start done name names now old new fault b served net at quiet
  stop_quiet honest t start done name names now old new notes cause b (unserved NotMarked served) net at quiet still =
      absurd (still (rose_in (F.told old.folder).faults (F.told served.read).faults (F.told new.folder).faults (F.told new.folder).faults served.reads.folder.later (omega arith) served.serves.marks.rose))

  -- the files that are marked are as before
  pub stop_left : (t : F.tells) (name : Text) (now : ℕ) (old new : World') (notes : Text) (cause : Cause) → StopsFor H F W C name now old new notes cause → (Rose (F.told old.folder).faults (F.told new.folder).faults → ⊥)
      → (F.told new.folder).files ≡ (F.told old.folder).files
  stop_left t name now old new notes cause (unread c same reads) still = reads.folder.unmoved.files t
  stop_left t name now old new notes cause (unnoted same on) still = on.unmoved.files t
  stop_left t name now old new notes cause (unserved (Apply fault) served) still = ap (λ (f : Y). (F.told f).files) served.serves.marks ∙ served.reads.folder.unmoved.files t
  stop_left t name now old new notes cause (unserved NotMarked served) still =
      absurd (still (rose_in (F.told old.folder).faults (F.told served.read).faults (F.told new.folder).faults (F.told new.folder).faults served.reads.folder.later (omega arith) served.serves.marks.rose))

-- What follows for all documents of a service.
use Rattle.std.proofs.Common.{◌≡◌, ◌∙◌, ◌⊎◌, ◌≤◌, inl, inr, ℕ, Bool, true, false, List, [], ◌∷◌, ◌++◌, refl, sym, ap, subst, arith, append_assoc, append-nil}
use Rattle.std.specs.Prelude.{◌≢◌}
use Rattle.net_model.specs.NetData.{NetData}
use Rattle.host_core.specs.Faults.{Rose}
use Rattle.host_core.specs.Folders.{File, Files, HasFiles, IsLawfulFolder}
use Rattle.host_core.specs.HostView.{State, IsLawfulHost}
use Rattle.host_core.specs.declared.Host.{Ghosts as HostGhosts}
use Rattle.host_core.specs.declared.Folder.{Ghosts as FolderGhosts}
use Rattle.host_core.specs.declared.Sink.{Ghosts as SinkGhosts}
use Rattle.host_core.specs.declared.Clock.{Ghosts as ClockGhosts}
use Rattle.host_core.proofs.lemmas.Counts.{rose_in}
use Rattle.boot_service.specs.Fold.{folded, IsStage}
use Rattle.boot_service.specs.Stops.{pending, IsAt}
use Rattle.boot_service.proofs.lemmas.Pending.{names_pending}
use Rattle.boot_service.proofs.lemmas.Stages.{stage_ends, takes_folded}
use Rattle.top_model.specs.Orders.{Text}
use Rattle.top_model.specs.Texts.{status_of}
use Rattle.top_model.specs.declared.report.Report.{Report}
use Rattle.top_model.specs.declared.report.Cause.{Cause}
use Rattle.top_model.specs.declared.report.Cause.TheVariants.{Done, NoSuchName, FolderFault, WriteFault, OutOfMemory}
use Rattle.service_run.specs.Documents.{taking, applied_lines}
use Rattle.service_run.specs.Telling.{Sinks, told_as}
use Rattle.service_run.specs.Course.{World, Went, Stopped, EndsWith, Unlisted, Listed, sinks_of}
use Rattle.service_run.specs.Services.{names_of, LeavesEnd, LeavesCourse, service_of, Enters, Stays, IsFolded, Undisturbed, IsQuiet, Promises, IsService}
use Rattle.service_run.proofs.Causes.{IsStop, stop_memory, stop_folder}
use Rattle.service_run.proofs.Documents.{none_pending}
use Rattle.service_run.proofs.Walks.{Came, came_start, came_read, Between, all_between, CameBy, all_came}
use Rattle.service_run.proofs.Ends.{done_told, told_other, told_status, Spoke, spoke_start, spoke_more, spoke_stop, Stands, stop_stands, came_stands, idle, stop_host, stop_folder_later, stop_cause, stop_named, stop_fault, stop_quiet, stop_left, RefusedAt}

module _ {X Y Z V : Type 0} (H : HostGhosts X) (F : FolderGhosts Y) (W : SinkGhosts Z) (C : ClockGhosts V) (lawful_host : (h : X) → IsLawfulHost H.tells (H.told h)) (lawful_folder : (f : Y) → IsLawfulFolder F.tells (F.told f)) where
  abbrev World' : Type 0
  World' = World X Y Z V

  all_spoke : (first : Sinks) (done : List Text) (names : List Text) (old new : World') → Spoke W.tells first (sinks_of H F W C old) done old.is_open → Went H F W C names old new → Spoke W.tells first (sinks_of H F W C new) (done ++ names) new.is_open
  all_spoke first done [] old new s went =
      subst (λ (ns : List Text). Spoke W.tells first (sinks_of H F W C new) ns new.is_open) (sym (append-nil done)) (subst (λ (w : World'). Spoke W.tells first (sinks_of H F W C w) done w.is_open) (sym went) s)
  all_spoke first done (name ∷ names) old new s went =
      subst (λ (ns : List Text). Spoke W.tells first (sinks_of H F W C new) ns new.is_open) (append_assoc done (name ∷ []) names)
      (all_spoke first (done ++ name ∷ []) names went.0 new
      (spoke_more W.tells first (sinks_of H F W C old) (sinks_of H F W C went.0) done name _ old.is_open went.0.is_open s went.1.said) went.2)

  -- ---- a service whose names were listed

  -- what holds where its documents ended
  record Ended (start new : World') (report : Report) (done names : List Text) (leaves : State → Files → Type 0) : Type 0 where
    pub host : (H.told start.host).faults ≤ (H.told new.host).faults
    pub folder : (F.told start.folder).faults ≤ (F.told new.folder).faults
    pub out : (W.told start.out).faults ≤ (W.told new.out).faults
    pub err : (W.told start.err).faults ≤ (W.told new.err).faults
    pub finds : F.tells → report.cause ≢ NoSuchName
    pub all : F.tells → (report.cause ≡ Done) ⊎ (report.cause ≡ WriteFault 0) → pending (F.told new.folder).files ≡ []
    pub failed : report.cause ≡ FolderFault → Rose (F.told start.folder).faults (F.told new.folder).faults
    pub cut : (status : ℕ) → report.cause ≡ WriteFault status → Rose (W.told start.out).faults (W.told new.out).faults ⊎ Rose (W.told start.err).faults (W.told new.err).faults
    pub status : report.status ≡ status_of report.cause

  -- where a sink's fault is told, a sink's count rose
  cut_told : (first now : Sinks) (done : List Text) (cause : Cause) (is_open : Bool) (report : Report) (status : ℕ) → ((n : ℕ) → cause ≡ WriteFault n → ⊥) → Spoke W.tells first now done is_open → report ≡ told_as cause is_open
      → report.cause ≡ WriteFault status → Rose first.out.faults now.out.faults ⊎ Rose first.err.faults now.err.faults
  cut_told first now done cause true report status unwritten s is e = absurd (unwritten status (sym (ap (λ (r : Report). r.cause) is) ∙ e))
  cut_told first now done cause false report status unwritten s is e = s.cut refl

  -- all was written, where no sink's count rose
  opened : (first now : Sinks) (done : List Text) (is_open : Bool) → Spoke W.tells first now done is_open → (Rose first.out.faults now.out.faults → ⊥) → (Rose first.err.faults now.err.faults → ⊥) → is_open ≡ true
  opened first now done true s out err = refl
  opened first now done false s out err = elim (s.cut refl) [ inl rose ↦ absurd (out rose) | inr rose ↦ absurd (err rose) ]

  ended_all : (start mid : World') (report : Report) (done : List Text) (leaves : State → Files → Type 0) → Between H F W C lawful_host lawful_folder start done [] mid → Spoke W.tells (sinks_of H F W C start) (sinks_of H F W C mid) done mid.is_open
      → report ≡ told_as Done mid.is_open → Ended start mid report done [] leaves
  ended_all start mid report done leaves b s is = record {
    host = b.host;
    folder = b.folder;
    out = s.out;
    err = s.err;
    finds = λ t e. let x : Done ≡ NoSuchName = told_other Done NoSuchName mid.is_open report (λ status never. cc) is e in cc;
    all = λ t ack. none_pending (pending (F.told mid.folder).files) (b.marked.left t);
    failed = λ e. let x : Done ≡ FolderFault = told_other Done FolderFault mid.is_open report (λ status never. cc) is e in absurd cc;
    cut = λ status e. cut_told (sinks_of H F W C start) (sinks_of H F W C mid) done Done mid.is_open report status (λ n never. cc) s is e;
    status = told_status Done mid.is_open report is;
  }

  ended_stop : (start mid new : World') (report : Report) (done : List Text) (name : Text) (names : List Text) (leaves : State → Files → Type 0) → Between H F W C lawful_host lawful_folder start done (name ∷ names) mid
      → Spoke W.tells (sinks_of H F W C start) (sinks_of H F W C mid) done mid.is_open → Stopped H F W C name mid new report → Ended start new report done (name ∷ names) leaves
  ended_stop start mid new report done name names leaves b s e =
      let sp = spoke_stop W.tells (sinks_of H F W C start) (sinks_of H F W C mid) (sinks_of H F W C new) done _ mid.is_open new.is_open s e.said in
      let stop = stop_cause H F W C lawful_host lawful_folder name e.now mid new e.notes e.cause e.stops in
      record {
        host = let x = b.host in let y = stop_host H F W C lawful_host lawful_folder name e.now mid new e.notes e.cause e.stops in omega (arith, x, y);
        folder = let x = b.folder in let y = stop_folder_later H F W C lawful_host lawful_folder name e.now mid new e.notes e.cause e.stops in omega (arith, x, y);
        out = sp.out;
        err = sp.err;
        finds = λ t is. stop_named H F W C lawful_host lawful_folder name e.now mid new e.notes e.cause e.stops t names (b.marked.left t) (told_other e.cause NoSuchName new.is_open report (λ status never. cc) e.told is);
        all = λ t ack. absurd (done_told e.cause new.is_open report stop e.told ack);
        failed = λ is. rose_in (F.told start.folder).faults (F.told mid.folder).faults (F.told new.folder).faults (F.told new.folder).faults b.folder (omega arith)
            (stop_fault H F W C lawful_host lawful_folder name e.now mid new e.notes e.cause e.stops (told_other e.cause FolderFault new.is_open report (λ status never. cc) e.told is));
        cut = λ status is. cut_told (sinks_of H F W C start) (sinks_of H F W C new) done e.cause new.is_open report status stop.unwritten sp e.told is;
        status = told_status e.cause new.is_open report e.told;
      }

  ended : (start mid new : World') (report : Report) (done more : List Text) (leaves : State → Files → Type 0) → Between H F W C lawful_host lawful_folder start done more mid
      → Spoke W.tells (sinks_of H F W C start) (sinks_of H F W C mid) done mid.is_open → EndsWith H F W C more mid new report → Ended start new report done more leaves
  ended start mid new report done [] leaves b s e =
      subst (λ (w : World'). Ended start w report done [] leaves) (sym e.0) (ended_all start mid report done leaves b s (e.1 ∙ ap (λ (w : World'). told_as Done w.is_open) e.0))
  ended start mid new report done (name ∷ names) leaves b s e = ended_stop start mid new report done name names leaves b s e

  -- ---- from a stage

  module _ (honest : H.honest) (t : F.tells) (start : World') (first : NetData) (all : List File) where
    stands : (mid new : World') (report : Report) (done more : List Text) → Between H F W C lawful_host lawful_folder start done more mid → Came first all (H.told start.host) (H.told mid.host) (F.told mid.folder)
        → (e : EndsWith H F W C more mid new report) → Stands H F W C lawful_host lawful_folder start first all new (LeavesEnd H F W C more mid new report e)
    stands mid new report done [] b came e =
        came_stands H F W C lawful_host lawful_folder start first all new _ (subst (λ (w : World'). Came first all (H.told start.host) (H.told w.host) (F.told w.folder)) (sym e.0) came) (λ s files leaves. leaves)
    stands mid new report done (name ∷ names) b came e = stop_stands H F W C lawful_host lawful_folder honest t start done name names e.now mid new e.notes e.cause b e.stops first all came

    folded_at : (w : World') → Came first all (H.told start.host) (H.told w.host) (F.told w.folder) → pending (F.told w.folder).files ≡ []
        → IsAt (folded taking first all) (H.told w.host) × IsStage taking first all (folded taking first all) []
    folded_at w came none =
        let stage = subst (λ (fs : List File). IsStage taking first all came.net fs) none came.stage in
        let is = takes_folded taking first all came.net (stage_ends taking first all came.net stage) in (
          subst (λ (n : NetData). IsAt n (H.told w.host)) (sym is) came.at,
          subst (λ (n : NetData). IsStage taking first all n []) (sym is) stage,
        )

    folds : (mid new : World') (report : Report) (done more : List Text) → Between H F W C lawful_host lawful_folder start done more mid → Came first all (H.told start.host) (H.told mid.host) (F.told mid.folder)
        → EndsWith H F W C more mid new report → (report.cause ≡ Done) ⊎ (report.cause ≡ WriteFault 0) → IsAt (folded taking first all) (H.told new.host) × IsStage taking first all (folded taking first all) []
    folds mid new report done [] b came e ack =
        subst (λ (w : World'). IsAt (folded taking first all) (H.told w.host) × IsStage taking first all (folded taking first all) []) (sym e.0)
        (folded_at mid came (none_pending (pending (F.told mid.folder).files) (b.marked.left t)))
    folds mid new report done (name ∷ names) b came e ack =
        absurd (done_told e.cause new.is_open report (stop_cause H F W C lawful_host lawful_folder name e.now mid new e.notes e.cause e.stops) e.told ack)

    -- ---- where no count rose

    record Quiet (new : World') (report : Report) : Type 0 where
      pub marked : List File
      pub since : pending (F.told start.folder).files ≡ marked ++ pending (F.told new.folder).files
      pub says : W.tells → (W.told new.out).written ≡ (W.told start.out).written ++ applied_lines (names_of marked)
      pub ends : ((report.cause ≡ Done) × (pending (F.told new.folder).files ≡ [])) ⊎ ((c : Cause) × RefusedAt H F W C lawful_host lawful_folder new c × (report.cause ≡ c)) ⊎ (report.cause ≡ OutOfMemory)

    told_open : (cause : Cause) (is_open : Bool) (report : Report) → is_open ≡ true → report ≡ told_as cause is_open → report.cause ≡ cause
    told_open cause is_open report is e = ap (λ (r : Report). r.cause) (e ∙ ap (told_as cause) is)

    quiet_all : (mid : World') (report : Report) (done : List Text) → Between H F W C lawful_host lawful_folder start done [] mid → Spoke W.tells (sinks_of H F W C start) (sinks_of H F W C mid) done mid.is_open → report ≡ told_as Done mid.is_open
        → (Rose (W.told start.out).faults (W.told mid.out).faults → ⊥) → (Rose (W.told start.err).faults (W.told mid.err).faults → ⊥) → Quiet mid report
    quiet_all mid report done b s is out err =
        let is_open = opened (sinks_of H F W C start) (sinks_of H F W C mid) done mid.is_open s out err in
        let m = b.marked.marked t in
        record {
          marked = m.0;
          since = m.1;
          says = λ tells. (s.to_out is_open).0 tells ∙ ap (λ (ns : List Text). (W.told start.out).written ++ applied_lines ns) (sym m.2);
          ends = inl (told_open Done mid.is_open report is_open is, none_pending (pending (F.told mid.folder).files) (b.marked.left t));
        }

    quiet_stop : (mid new : World') (report : Report) (done : List Text) (name : Text) (names : List Text) → Between H F W C lawful_host lawful_folder start done (name ∷ names) mid
        → Spoke W.tells (sinks_of H F W C start) (sinks_of H F W C mid) done mid.is_open → Came first all (H.told start.host) (H.told mid.host) (F.told mid.folder) → Stopped H F W C name mid new report
        → (Rose (H.told start.host).faults (H.told new.host).faults → ⊥) → (Rose (F.told start.folder).faults (F.told new.folder).faults → ⊥)
        → (Rose (W.told start.out).faults (W.told new.out).faults → ⊥) → (Rose (W.told start.err).faults (W.told new.err).faults → ⊥) → Quiet new report
    quiet_stop mid new report done name names b s came e host folder out err =
        let sp = spoke_stop W.tells (sinks_of H F W C start) (sinks_of H F W C mid) (sinks_of H F W C new) done _ mid.is_open new.is_open s e.said in
        let is_open = opened (sinks_of H F W C start) (sinks_of H F W C new) done new.is_open sp out err in
        let m = b.marked.marked t in
        let still : Rose (F.told mid.folder).faults (F.told new.folder).faults → ⊥ = λ rose. folder (rose_in (F.told start.folder).faults (F.told mid.folder).faults (F.told new.folder).faults (F.told new.folder).faults b.folder (omega arith) rose) in
        let calm : Rose (H.told mid.host).faults (H.told new.host).faults → ⊥ = λ rose. host (rose_in (H.told start.host).faults (H.told mid.host).faults (H.told new.host).faults (H.told new.host).faults b.host (omega arith) rose) in
        record {
          marked = m.0;
          since = m.1 ∙ ap (λ (fs : Files). m.0 ++ pending fs) (sym (stop_left H F W C lawful_host lawful_folder t name e.now mid new e.notes e.cause e.stops still));
          says = λ tells. (sp.to_out is_open).0 tells ∙ ap (λ (ns : List Text). (W.told start.out).written ++ applied_lines ns) (sym m.2);
          ends = elim (stop_quiet H F W C lawful_host lawful_folder honest t start done name names e.now mid new e.notes e.cause b e.stops came.net came.at calm still) [
            | inl starved ↦ inr (inr (told_open e.cause new.is_open report is_open e.told ∙ starved))
            | inr refused ↦ inr (inl (e.cause, refused, told_open e.cause new.is_open report is_open e.told))
          ];
        }

    quiet : (mid new : World') (report : Report) (done more : List Text) → Between H F W C lawful_host lawful_folder start done more mid
        → Spoke W.tells (sinks_of H F W C start) (sinks_of H F W C mid) done mid.is_open → Came first all (H.told start.host) (H.told mid.host) (F.told mid.folder) → EndsWith H F W C more mid new report
        → (Rose (H.told start.host).faults (H.told new.host).faults → ⊥) → (Rose (F.told start.folder).faults (F.told new.folder).faults → ⊥)
        → (Rose (W.told start.out).faults (W.told new.out).faults → ⊥) → (Rose (W.told start.err).faults (W.told new.err).faults → ⊥) → Quiet new report
    quiet mid new report done [] b s came e host folder out err =
        subst (λ (w : World'). Quiet w report) (sym e.0) (quiet_all mid report done b s (e.1 ∙ ap (λ (w : World'). told_as Done w.is_open) e.0)
        (subst (λ (w : World'). Rose (W.told start.out).faults (W.told w.out).faults → ⊥) e.0 out) (subst (λ (w : World'). Rose (W.told start.err).faults (W.told w.err).faults → ⊥) e.0 err))
    quiet mid new report done (name ∷ names) b s came e host folder out err = quiet_stop mid new report done name names b s came e host folder out err

  -- ---- a service

  module _ (old new : World') (report : Report) (opened_so : old.is_open ≡ true) where
    sinks_start : Spoke W.tells (sinks_of H F W C old) (sinks_of H F W C old) [] old.is_open
    sinks_start = subst (λ (b : Bool). Spoke W.tells (sinks_of H F W C old) (sinks_of H F W C old) [] b) (sym opened_so) (spoke_start W.tells (sinks_of H F W C old))

    module _ (l : Listed H F W C old new report) where
      abbrev begun : World'
      begun = record old { folder = l.listed }

      first_between : Between H F W C lawful_host lawful_folder old [] (l.ran.done ++ l.ran.more) begun
      first_between = record {
        host = omega arith;
        folder = l.folder.later;
        marked = record {
          left = λ t. ap (λ (fs : Files). names_of (pending fs)) (l.folder.unmoved.files t) ∙ names_pending (F.told old.folder).files ∙ sym (l.are t) ∙ l.ran.all;
          marked = λ t. ([], sym (ap pending (l.folder.unmoved.files t)), refl);
        };
      }

      mid_between : Between H F W C lawful_host lawful_folder old l.ran.done l.ran.more l.ran.mid
      mid_between = all_between H F W C lawful_host lawful_folder old [] l.ran.done l.ran.more begun l.ran.mid first_between l.ran.went

      mid_spoke : Spoke W.tells (sinks_of H F W C old) (sinks_of H F W C l.ran.mid) l.ran.done l.ran.mid.is_open
      mid_spoke = all_spoke (sinks_of H F W C old) [] l.ran.done begun l.ran.mid sinks_start l.ran.went

      -- where it began at a stage
      began : (t : F.tells) (first : NetData) (all : List File) (net : NetData) → IsAt net (H.told old.host) → HasFiles (F.told old.folder).files (F.told old.folder) → IsStage taking first all net (pending (F.told old.folder).files)
          → (honest : H.honest) → CameBy H F W C lawful_host lawful_folder old first all l.ran.done begun l.ran.mid l.ran.went
      began t first all net at files stage honest =
          all_came H F W C lawful_host lawful_folder honest t old [] l.ran.done l.ran.more begun l.ran.mid first_between l.ran.went first all
          (came_read F.tells first all (H.told old.host) (H.told old.host) (F.told old.folder) (F.told l.listed) t
          (came_start H.tells first all net (H.told old.host) (F.told old.folder) (lawful_host old.host) at files stage) l.folder)

      listed_ended : Ended old new report l.ran.done l.ran.more (LeavesCourse H F W C old new report (inr l))
      listed_ended = ended old l.ran.mid new report l.ran.done l.ran.more (LeavesCourse H F W C old new report (inr l)) mid_between mid_spoke l.ran.ends

      listed_stays : (first : NetData) (all : List File) → Enters (service_of H F W C old new report (inr l)) first all → Stays (service_of H F W C old new report (inr l)) first all
      listed_stays first all e =
          let by = began e.tells first all e.net e.at e.files e.stage e.honest in
          let s = stands e.honest e.tells old first all l.ran.mid new report l.ran.done l.ran.more mid_between by.came l.ran.ends in
          record {
            during = s.during;
            exit = s.exit;
            inside = λ p files leaves. elim leaves [ inl went ↦ by.inside p files went | inr stop ↦ s.inside p files stop ];
            sound = s.sound;
          }

      listed_folds : (first : NetData) (all : List File) → Enters (service_of H F W C old new report (inr l)) first all → (report.cause ≡ Done) ⊎ (report.cause ≡ WriteFault 0)
          → IsFolded (service_of H F W C old new report (inr l)) first all
      listed_folds first all e ack =
          let by = began e.tells first all e.net e.at e.files e.stage e.honest in
          let both = folds e.honest e.tells old first all l.ran.mid new report l.ran.done l.ran.more mid_between by.came l.ran.ends ack in
          record { at = both.0; stage = both.1 }

      listed_quiet : (first : NetData) (all : List File) → Enters (service_of H F W C old new report (inr l)) first all → Undisturbed (service_of H F W C old new report (inr l)) → IsQuiet (service_of H F W C old new report (inr l))
      listed_quiet first all e none =
          let by = began e.tells first all e.net e.at e.files e.stage e.honest in
          let q = quiet e.honest e.tells old first all l.ran.mid new report l.ran.done l.ran.more mid_between mid_spoke by.came l.ran.ends none.host none.folder none.out none.err in
          record {
            marked = q.marked;
            since = q.since;
            says = q.says;
            ends = elim q.ends [
              | inl done ↦ inl done
              | inr (inl (c, refused, is)) ↦ inr (inl (record { net = refused.net; file = refused.file; rest = refused.rest; at = refused.at; next = refused.next; refused = refused.refused; cause = is ∙ refused.is }))
              | inr (inr memory) ↦ inr (inr memory)
            ];
          }

      pub listed_promises : Promises (service_of H F W C old new report (inr l))
      listed_promises = record {
        staged = listed_stays;
        folds = listed_folds;
        complete = listed_quiet;
        finds = listed_ended.finds;
        done = listed_ended.all;
        folder = listed_ended.failed;
        write = listed_ended.cut;
        status = listed_ended.status;
        later = record { host = listed_ended.host; folder = listed_ended.folder; out = listed_ended.out; err = listed_ended.err };
      }

    module _ (u : Unlisted H F W C old new report) where
      unlisted_spoke : Spoke W.tells (sinks_of H F W C old) (sinks_of H F W C new) [] new.is_open
      unlisted_spoke = spoke_stop W.tells (sinks_of H F W C old) (sinks_of H F W C old) (sinks_of H F W C new) [] _ old.is_open new.is_open sinks_start u.said

      stop : IsStop u.cause
      stop = elim u.fails [ inl memory ↦ subst (λ (c : Cause). IsStop c) (sym memory) stop_memory | inr failed ↦ subst (λ (c : Cause). IsStop c) (sym failed.0) stop_folder ]

      unlisted_came : (first : NetData) (all : List File) → Enters (service_of H F W C old new report (inl u)) first all → Came first all (H.told old.host) (H.told new.host) (F.told new.folder)
      unlisted_came first all e =
          idle H F W C lawful_host lawful_folder e.tells old first all old new (came_start H.tells first all e.net (H.told old.host) (F.told old.folder) (lawful_host old.host) e.at e.files e.stage) u.host u.folder

      unlisted_quiet : (first : NetData) (all : List File) → Enters (service_of H F W C old new report (inl u)) first all → Undisturbed (service_of H F W C old new report (inl u)) → IsQuiet (service_of H F W C old new report (inl u))
      unlisted_quiet first all e none =
          let is_open = opened (sinks_of H F W C old) (sinks_of H F W C new) [] new.is_open unlisted_spoke none.out none.err in
          record {
            marked = [];
            since = sym (ap pending (u.folder.unmoved.files e.tells));
            says = (unlisted_spoke.to_out is_open).0;
            ends = elim u.fails [
              | inl memory ↦ inr (inr (ap (λ (r : Report). r.cause) (u.told ∙ ap (told_as u.cause) is_open) ∙ memory))
              | inr failed ↦ absurd (none.folder failed.1)
            ];
          }

      pub unlisted_promises : Promises (service_of H F W C old new report (inl u))
      unlisted_promises = record {
        staged = λ first all e.
            let s = came_stands H F W C lawful_host lawful_folder old first all new (λ p files. ⊥) (unlisted_came first all e) (λ p files leaves. leaves) in record { during = s.during; exit = s.exit; inside = s.inside; sound = s.sound };
        folds = λ first all e ack. absurd (done_told u.cause new.is_open report stop u.told ack);
        complete = unlisted_quiet;
        finds = λ t is.
            let x : u.cause ≡ NoSuchName = told_other u.cause NoSuchName new.is_open report (λ status never. cc) u.told is in
            elim u.fails [ inl memory ↦ let y : OutOfMemory ≡ NoSuchName = sym memory ∙ x in cc | inr failed ↦ let y : FolderFault ≡ NoSuchName = sym failed.0 ∙ x in cc ];
        done = λ t ack. absurd (done_told u.cause new.is_open report stop u.told ack);
        folder = λ is.
            let x : u.cause ≡ FolderFault = told_other u.cause FolderFault new.is_open report (λ status never. cc) u.told is in
            elim u.fails [ inl memory ↦ let y : OutOfMemory ≡ FolderFault = sym memory ∙ x in absurd cc | inr failed ↦ failed.1 ];
        write = λ status is. cut_told (sinks_of H F W C old) (sinks_of H F W C new) [] u.cause new.is_open report status stop.unwritten unlisted_spoke u.told is;
        status = told_status u.cause new.is_open report u.told;
        later = record {
          host = subst (λ (h : X). (H.told old.host).faults ≤ (H.told h).faults) (sym u.host) (omega arith);
          folder = u.folder.later;
          out = unlisted_spoke.out;
          err = unlisted_spoke.err;
        };
      }

    -- all that is said of a service follows from how it went
    pub is_service : Unlisted H F W C old new report ⊎ Listed H F W C old new report → IsService H F W C old new report
    is_service (inl u) = record { course = inl u; promises = unlisted_promises u }
    is_service (inr l) = record { course = inr l; promises = listed_promises l }

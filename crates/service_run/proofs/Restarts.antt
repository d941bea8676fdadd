-- Services one after another lead from stage to stage.
use Rattle.std.proofs.Common.{◌≡◌, ◌∙◌, ◌⊎◌, inl, inr, List, Option, refl, sym, ap, subst, arith}
use Rattle.std.specs.Prelude.{false, Result, Ok}
use Rattle.net_model.specs.NetData.{NetData}
use Rattle.host_core.specs.Folders.{File, Files, HasFiles}
use Rattle.host_core.specs.HostView.{State, HostView, HasNet, IsLawfulHost}
use Rattle.host_core.specs.Stops.{After, IsLawful}
use Rattle.host_core.specs.declared.Host.{Ghosts as HostGhosts}
use Rattle.host_core.specs.declared.Folder.{Ghosts as FolderGhosts}
use Rattle.host_core.specs.declared.Source.{Ghosts as SourceGhosts}
use Rattle.host_core.specs.declared.Sink.{Ghosts as SinkGhosts}
use Rattle.host_core.specs.declared.Clock.{Ghosts as ClockGhosts}
use Rattle.checkpoint_cell.specs.Settled.{standing, settled}
use Rattle.engine_model.specs.Sound.{Fit, IsApplying, Sound}
use Rattle.engine_model.specs.Stations.{Leads}
use Rattle.boot_service.specs.Fold.{IsStage}
use Rattle.boot_service.specs.Stops.{pending, IsAt, SettlesTo, SettlesAt}
use Rattle.boot_service.proofs.lemmas.Settling.{settles_to}
use Rattle.boot_service.proofs.lemmas.Stages.{stage_begins}
use Rattle.top_model.specs.Causes.{Comes}
use Rattle.top_model.specs.Commands.{Promised}
use Rattle.top_model.specs.Exits.{Leaves, Reaches, KeptBy}
use Rattle.top_model.specs.Orders.{Order, order_named, recovering}
use Rattle.top_model.specs.Runs.{Run, Alone, Acknowledged, Asks, entry, run_of}
use Rattle.top_model.specs.Scripts.{file_of}
use Rattle.top_model.specs.Told.{Answer}
use Rattle.top_model.specs.declared.report.Cause.{Cause}
use Rattle.top_model.specs.declared.report.Report.{Report}
use Rattle.top_model.proofs.lemmas.Reports.{order_is, reported, is_done, rests}
use Rattle.service_run.specs.Course.{World, Unlisted, Listed}
use Rattle.service_run.specs.Documents.{taking}
use Rattle.service_run.specs.Restarts.{LeavesOnly, LeavesNoMore, IsOver, stopped, ended, IsBehind, Recovers, MayRecover, untried, tried, CameTo, begins, again}
use Rattle.service_run.specs.Services.{Service, Enters, Stays, service_of}

-- ---- where a recovery begins

-- where a stop leaves one pair alone, which can be recovered from, the host is sound
only_sound : (s : State) (host : HostView) → Fit s → LeavesOnly s host → Sound host
only_sound s host fit only = record {
  fit = λ x may. subst Fit (sym (only x may)) fit;
  one = inl (s.net, λ x may. ap (λ (y : State). y.net) (only x may));
}

-- and so is one of which a stop leaves no more than of a sound one
fewer_sound : (there host : HostView) → Sound there → LeavesNoMore there host → Sound host
fewer_sound there host sound fewer = record {
  fit = λ x may. sound.fit x (fewer x may);
  one = elim sound.one as (λ v. ((net : Option NetData) × HasNet net host) ⊎ ((saved : NetData) × IsApplying saved host)) [
    | inl has ↦ inl (has.0, λ x may. has.1 x (fewer x may))
    | inr changes ↦ inr (changes.0, λ x may. changes.1 x (fewer x may))
  ];
}

-- it can be recovered from: the host is sound, and each pair that a stop leaves settles to a stage
record Recoverable (first : NetData) (all : List File) (files : Files) (host : HostView) : Type 0 where
  pub sound : Sound host
  pub settles : (s : State) → host.stops.may_leave s → SettlesAt taking first all (pending files) s

only_recoverable : (first : NetData) (all : List File) (files : Files) (s : State) (host : HostView) → SettlesAt taking first all (pending files) s → LeavesOnly s host → Recoverable first all files host
only_recoverable first all files s host at only = record {
  sound = only_sound s host at.settles.fit only;
  settles = λ x may. subst (λ (y : State). SettlesAt taking first all (pending files) y) (sym (only x may)) at;
}

-- a service leaves such a host, wherever it is over
over_recoverable : (r : Service) (first : NetData) (all : List File) (files : Files) (host : HostView) → Stays r first all → IsOver r host files → Recoverable first all files host
over_recoverable r first all files host stays (stopped s left only) =
    let at = elim left as (λ v. SettlesAt taking first all (pending files) s) [ inl inside ↦ stays.inside s files inside | inr exit ↦ stays.exit s files exit.0 exit.1 ] in
    only_recoverable first all files s host at only
over_recoverable r first all files host stays (ended fewer left) = record {
  sound = fewer_sound r.host_after host stays.sound fewer;
  settles = λ x may. stays.exit x files (fewer x may) left;
}

-- ---- a recovery

module _ (r : Run) (alone : Alone r) (asks : Asks r (Ok recovering)) (promised : Promised r) where
  kept : KeptBy r (Ok recovering) promised.answered.answer
  kept =
      let a = promised.answered in
      subst (λ (o : Result Order Cause). KeptBy r o a.answer) (order_is r a (Ok recovering) asks) (a.kept (rests r a.order alone))

  -- one that is done leads to the network that the host settled to, without a checkpoint
  recovered : (net : NetData) → Acknowledged r → SettlesTo net r.host.state → IsAt net r.host_after
  recovered net done settles =
      let a = promised.answered in
      let is : a.order ≡ Ok recovering = order_is r a (Ok recovering) asks in
      let comes = subst (λ (o : Result Order Cause). Comes r o a.answer) is a.comes in
      let said = is_done r (Ok recovering) a.answer comes (reported r a) done in
      let all = subst (λ (o : Result Order Cause). Leaves r o a.answer) is (a.leaves (rests r a.order alone)) in
      let left = subst (λ (x : Answer). Leaves r (Ok recovering) x) said.1 all in
      let machine = settles.recovers r.now in
      record {
        sound = kept.sound;
        reads = (promised.done (Ok recovering) alone asks done).stands ∙ machine;
        left = λ s may.
            let near = left (standing s) (s, may, refl) in
            settles_to net s (kept.sound.fit s may) (λ now. sym (near.like now) ∙ ap (settled now) (near.is ∙ machine));
      }

  module _ (first : NetData) (all : List File) (files : Files) (can : Recoverable first all files r.host) (reads : r.host.stops.may_leave r.host.state) where
    -- what it may leave settles as before
    after_settles : (s : State) → After r.host.stops (Leads (Reaches r.now (entry r) (Ok recovering))) s → SettlesAt taking first all (pending files) s
    after_settles s after =
        let fit = after.2.fit (can.sound.fit after.0 after.1) in
        elim after.2.like as (λ v. SettlesAt taking first all (pending files) s) [
          | inl like ↦
              let at = can.settles after.0 after.1 in
              record { net = at.net; settles = settles_to at.net s fit (λ now. sym (like now) ∙ at.settles.settles now); stage = at.stage }
          | inr near ↦
              let at = can.settles r.host.state reads in
              record { net = at.net; settles = settles_to at.net s fit (λ now. sym (near.like now) ∙ ap (settled now) (near.is ∙ at.settles.recovers r.now)); stage = at.stage }
        ]

    -- so another may follow, wherever it is over
    behind_recoverable : IsLawful r.host.stops → (host : HostView) → IsBehind r.host r.host_after host → Recoverable first all files host
    behind_recoverable lawful host (inl stop) =
        let at = elim (kept.during.since r.host.stops.moment stop.0 (omega arith) stop.1) as (λ v. SettlesAt taking first all (pending files) stop.0) [
          | inl before ↦ can.settles stop.0 (lawful.only_now stop.0 before)
          | inr after ↦ after_settles stop.0 after
        ] in
        only_recoverable first all files stop.0 host at stop.2
    behind_recoverable lawful host (inr fewer) = record {
      sound = fewer_sound r.host_after host kept.sound fewer;
      settles = λ x may. after_settles x (kept.during.now x (fewer x may));
    }

module _ {X Y T Z V : Type 0} (H : HostGhosts X) (F : FolderGhosts Y) (S : SourceGhosts T) (W : SinkGhosts Z) (C : ClockGhosts V) (lawful_host : (h : X) → IsLawfulHost H.tells (H.told h))
    (honest : H.honest) (host_tells : H.tells) (tells : F.tells) where
  abbrev By : X → X → Type 0
  By old new = Recovers H F S W C old new

  -- the run of the words `recover`
  abbrev run_by : (old new : X) → By old new → Run
  run_by old new by = run_of H S W by.words false by.answered.command.0 old new by.source by.source_after by.out by.out_after by.err by.err_after by.report

  alone_by : (old new : X) (by : By old new) → Sound (H.told old) → Alone (run_by old new by)
  alone_by old new by sound = record { honest = honest; sound = sound }

  asks_by : (old new : X) (by : By old new) → Asks (run_by old new by) (Ok recovering)
  asks_by old new by = λ inputs may. ap (order_named false inputs) by.is_recover

  promised_by : (old new : X) (by : By old new) → Promised (run_by old new by)
  promised_by old new by = by.answered.command.2 (ap file_of by.is_recover)

  tried_recoverable : (r : Service) (first : NetData) (all : List File) (files : Files) → Stays r first all → (host : X) → MayRecover H F S W C r files host → Recoverable first all files (H.told host)
  tried_recoverable r first all files stays host (untried h over) = over_recoverable r first all files (H.told h) stays over
  tried_recoverable r first all files stays host (tried old new h before by behind) =
      let can = tried_recoverable r first all files stays old before in
      behind_recoverable (run_by old new by) (alone_by old new by can.sound) (asks_by old new by) (promised_by old new by) first all files can ((lawful_host old).reads host_tells)
      (lawful_host old).stops (H.told h) behind

  -- ---- services one after another

  -- what stands where services came to
  pub record Stage (first : NetData) (all : List File) (host : X) (folder : Y) : Type 0 where
    pub net : NetData
    pub at : IsAt net (H.told host)
    pub files : HasFiles (F.told folder).files (F.told folder)
    pub stage : IsStage taking first all net (pending (F.told folder).files)

  -- a service enters there
  pub enters_at : (first : NetData) (all : List File) (old new : World X Y Z V) (report : Report) (course : Unlisted H F W C old new report ⊎ Listed H F W C old new report) → Stage first all old.host old.folder
      → Enters (service_of H F W C old new report course) first all
  enters_at first all old new report course s = record { honest = honest; tells = tells; net = s.net; at = s.at; files = s.files; stage = s.stage }

  pub came_stage : (first : NetData) (all : List File) (host : X) (folder : Y) → CameTo H F S W C first all host folder → Stage first all host folder
  came_stage first all host folder (begins h f valid at files is) = record {
    net = first;
    at = at;
    files = files;
    stage = subst (λ (left : List File). IsStage taking first all first left) (sym is) (stage_begins taking first all valid);
  }
  came_stage first all host folder (again old new report service came files before next may by done f same sure) =
      let entered = enters_at first all old new report service.course (came_stage first all old.host old.folder came) in
      let stays = service.promises.staged first all entered in
      let can = tried_recoverable (service_of H F W C old new report service.course) first all files stays before may in
      let here = can.settles (H.told before).state ((lawful_host before).reads host_tells) in
      record {
        net = here.net;
        at = recovered (run_by before next by) (alone_by before next by can.sound) (asks_by before next by) (promised_by before next by) here.net done here.settles;
        files = subst (λ (fs : Files). HasFiles fs (F.told f)) (sym same) sure;
        stage = subst (λ (fs : Files). IsStage taking first all here.net (pending fs)) (sym same) here.stage;
      }

use Rattle.std.proofs.Common.{◌≡◌, ◌∙◌, inl, inr, ℕ, List, Some, None, Err, Ok, arith, ap, subst, sym, refl}
use Rattle.std.specs.Prelude.{if◌then◌else◌, IfOk}
use Rattle.net_model.specs.NetData.{NetData}
use Rattle.net_model.specs.declared.Call.{Call}
use Rattle.kernel_model.specs.Runs.{Runs}
use Rattle.merge_model.specs.MergedNet.{merge}
use Rattle.host_core.specs.HostView.{State}
use Rattle.checkpoint_cell.specs.Settled.{Standing, standing}
use Rattle.engine_model.specs.Sound.{Sound}
use Rattle.engine_model.specs.Stations.{Kept, Ends}
use Rattle.checkpoint_cell.specs.Settled.{restored_to}
use Rattle.engine_core.specs.Attempts.{IsEither}
use Rattle.engine_core.specs.Applying.{IsStation, Exit, Change, MadeSeen}
use Rattle.engine_model.proofs.lemmas.Comparing.{waits_stays, none_on, held_waits}
use Rattle.engine_model.proofs.lemmas.Leading.{kept_on, kept_wider, kept_stays, ends_stays, sound_stays}
use Rattle.std.proofs.lemmas.Result.{on_ok_weaker}
use Rattle.plan_model.specs.Plans.{IsPlan}
use Rattle.engine_core.proofs.Calms.{calm_as, calm_stays, one_net, one_merged}
use Rattle.engine_core.proofs.Gives.{change_exit, either_station}
use Rattle.std.specs.Prelude.{OnOk}
use Rattle.host_core.specs.Faults.{Rose}
use Rattle.engine_core.specs.Attempts.{done}
use Rattle.engine_core.proofs.Exacts.{none_exact, refused_exact, made_exact}
use Rattle.engine_model.proofs.lemmas.Refusals.{quiet_same, quiet_dumped, quiet_on}
use Rattle.engine_core.specs.Saying.{Start, Follows, SettledBy}
use Rattle.engine_core.proofs.Says.{follows_on, since, since_keeps, left_says, left_settled, starved_before}
use Rattle.host_core.proofs.lemmas.Counts.{rose_after}
use Rattle.engine_core.proofs.Counts.{left_counts}
use Rattle.host_core.specs.HostView.{Kernel, NoneRefused}
use Rattle.checkpoint_cell.specs.Cell.{cell_of}
use Rattle.host_core.specs.Stops.{Stays}
use Rattle.engine_model.specs.Machine.{Asked, asked, deadline_of}
use Rattle.engine_model.specs.Faults.{IsDamaged}
use Rattle.std.proofs.Common.{Option, false}
use Rattle.engine_model.specs.Faults.{Backs}
use Rattle.engine_core.proofs.Tries.{left_tries, left_twice, twice_before, left_backs}
use Rattle.std.specs.Prelude.{◌≢◌}
use Rattle.host_core.specs.HostView.{HostView}
use Rattle.engine_model.specs.Stations.{Only}
use Rattle.engine_model.specs.declared.answers.Left.{Left}
use Rattle.engine_model.specs.declared.answers.Left.TheVariants.{NotBegun, RolledBack, Pending}
use Rattle.engine_model.specs.declared.answers.ApplyFault.TheVariants as ap_
use Rattle.engine_model.proofs.lemmas.Leading.{near_ends}
use Rattle.engine_core.proofs.Apart.{later_on}
use Rattle.engine_core.proofs.Idles.{begun_idle, left_idle, hurt_intact}
use Rattle.engine_model.specs.Failing.{IsUnbegun}
use Rattle.engine_model.specs.Refusals.{NoCallMade}
use Rattle.engine_core.proofs.applying.change.Goals as goal
use Rattle.engine_core.proofs.applying.change.Goals.{After-carry_out, After-dump, In-Ok}

record Begun (g : _) (c : After-carry_out g) : Type 0 where
  stood : standing (g.H.Host.told c.args.host.now).state ≡ restored_to c.in-Ok.found
  ends : Ends (restored_to c.in-Ok.found) (g.H.Host.told c.dump.new.self)
  sound : Sound (g.H.Host.told c.dump.new.self)
  net : (g.H.Host.told c.dump.new.self).state.net ≡ Some c.in-Ok.found
  runs : Runs c.deref.result.now c.in-Ok.found c.in-Ok-merge.to
  merges : merge c.in-Ok.found c.args.doc.now ≡ Ok c.in-Ok-merge.to
  deadline : c.saturating_add-deadline.result ≡ deadline_of (asked c.args.doc.now c.args.opts.now c.args.now)

begun : (g : _) (c : After-carry_out g) → g.H.Host.honest → Sound (g.H.Host.told c.args.host.now) → Ends (standing (g.H.Host.told c.args.host.now).state) (g.H.Host.told c.args.host.now) → Begun g c
begun g c honest sound ends =
    let tells = g.met.H.Host.honest_tells honest in
    let old = g.H.Host.told c.args.host.now in
    let mid = g.H.Host.told c.dump.new.self in
    let stood : standing old.state ≡ restored_to c.in-Ok.found = λ i. record { net = c.in-Ok.ensures.net honest i; cell = (c.requires.none tells).cell i } in
    record {
      stood = stood;
      ends = subst (λ (x : Standing). Ends x mid) stood (ends_stays (standing old.state) old mid ends c.dump.ensures.stops);
      sound = sound_stays old mid sound c.dump.ensures.stops;
      net = ap (λ (s : State). s.net) (c.dump.ensures.state tells) ∙ c.in-Ok.ensures.net honest;
      runs = subst (λ (l : List Call). Runs l c.in-Ok.found c.in-Ok-merge.to) (sym c.deref.ensures.value) c.in-Ok-plan.ensures.run;
      merges = c.in-Ok-merge.ensures.merged;
      deadline = omega (arith, c.saturating_add-deadline.ensures);
    }

out : (g : _) (c : After-carry_out g) → g.H.Host.honest → Sound (g.H.Host.told c.args.host.now) → Ends (standing (g.H.Host.told c.args.host.now).state) (g.H.Host.told c.args.host.now)
    → Exit (asked c.args.doc.now c.args.opts.now c.args.now) (standing (g.H.Host.told c.args.host.now).state) (g.H.Host.told c.args.host.now).faults c.carry_out.result (g.H.Host.told c.carry_out.new.host)
out g c honest sound ends =
    let b = begun g c honest sound ends in
    change_exit (asked c.args.doc.now c.args.opts.now c.args.now) _ (restored_to c.in-Ok.found) _ (g.H.Host.told c.dump.new.self).faults _ _
    b.stood c.dump.ensures.cause.later (c.carry_out.ensures.exit honest b.sound b.ends b.net b.runs c.args.doc.now b.merges b.deadline)

kept : (g : _) (c : After-carry_out g) → g.H.Host.honest → Sound (g.H.Host.told c.args.host.now) → Ends (standing (g.H.Host.told c.args.host.now).state) (g.H.Host.told c.args.host.now)
    → Kept (IsStation (asked c.args.doc.now c.args.opts.now c.args.now) (standing (g.H.Host.told c.args.host.now).state)) (g.H.Host.told c.args.host.now) (g.H.Host.told c.carry_out.new.host)
kept g c honest sound ends =
    let b = begun g c honest sound ends in
    let want : Asked = asked c.args.doc.now c.args.opts.now c.args.now in
    let old = g.H.Host.told c.args.host.now in
    let mid = g.H.Host.told c.dump.new.self in
    let new = g.H.Host.told c.carry_out.new.host in
    let change : Change want (standing old.state) = record { from = c.in-Ok.found; to = c.in-Ok-merge.to; stood = b.stood; merges = b.merges } in
    kept_on (IsStation want (standing old.state)) old mid new (kept_stays (IsStation want (standing old.state)) old mid sound c.dump.ensures.stops)
    (kept_wider (IsEither c.args.opts.now.no_commit c.args.now c.saturating_add-deadline.result c.in-Ok.found c.in-Ok-merge.to) (IsStation want (standing old.state))
    (λ a is. either_station want (standing old.state) change c.saturating_add-deadline.result b.deadline a is) mid new
    (c.carry_out.ensures.kept honest b.sound b.ends b.net b.runs))

pub returns-clause-exit : goal.returns-clause-exit
returns-clause-exit g c = λ honest sound ends. out g (goal.at.returns-clause-exit g c).After-carry_out honest sound ends

pub returns-clause-kept : goal.returns-clause-kept
returns-clause-kept g c = λ honest sound ends. kept g (goal.at.returns-clause-kept g c).After-carry_out honest sound ends

stays : (g : _) (c : After-dump g) → Sound (g.H.Host.told c.args.host.now) → Kept (IsStation (asked c.args.doc.now c.args.opts.now c.args.now) (standing (g.H.Host.told c.args.host.now).state)) (g.H.Host.told c.args.host.now) (g.H.Host.told c.dump.new.self)
stays g c sound = kept_stays (IsStation (asked c.args.doc.now c.args.opts.now c.args.now) (standing (g.H.Host.told c.args.host.now).state)) (g.H.Host.told c.args.host.now) (g.H.Host.told c.dump.new.self) sound c.dump.ensures.stops

pub returns-clause-value : goal.returns-clause-value
returns-clause-value g c =
    let same : c.saturating_add-deadline.result ≡ deadline_of (asked c.args.doc.now c.args.opts.now c.args.now) = omega (arith, c.saturating_add-deadline.ensures) in
    subst (λ (d : ℕ). IfOk c.carry_out.result (λ applied. applied.deadline ≡ (if c.args.opts.now.no_commit then Some d else None))) same c.carry_out.ensures.value

-- ---- on every host

-- the dump made no call
dumped_settled : (g : _) (c : In-Ok g) (start : Start) → SettledBy g.H.Host.tells c.args.now start (g.H.Host.told c.args.host.now) → SettledBy g.H.Host.tells c.args.now start (g.H.Host.told c.dump.new.self)
dumped_settled g c start settled = left_settled g.H.Host.tells c.args.now start (g.H.Host.told c.args.host.now) (g.H.Host.told c.dump.new.self) settled (inr c.in-Ok.ensures.calls)

dumped_quiet : (g : _) (c : In-Ok g) (start : Start) → Follows start (g.H.Host.told c.args.host.now) → NoneRefused start.kernel (g.H.Host.told c.dump.new.self).kernel
dumped_quiet g c start follows =
    let old = (g.H.Host.told c.args.host.now).kernel in
    let mid = (g.H.Host.told c.dump.new.self).kernel in
    quiet_on start.kernel old mid follows.quiet (quiet_dumped old mid c.in-Ok.ensures.calls)

dumped_follows : (g : _) (c : In-Ok g) (start : Start) → Follows start (g.H.Host.told c.args.host.now) → Follows start (g.H.Host.told c.dump.new.self)
dumped_follows g c start follows =
    let old = g.H.Host.told c.args.host.now in
    let mid = g.H.Host.told c.dump.new.self in
    follows_on start old mid follows c.dump.ensures.cause.later c.dump.ensures.stops.later (quiet_dumped old.kernel mid.kernel c.in-Ok.ensures.calls)

pub returns-clause-says : goal.returns-clause-says
returns-clause-says g c = λ start follows settled was.
    let at = (goal.at.returns-clause-says g c).In-Ok in
    c.carry_out.ensures.says c.args.doc.now start (dumped_follows g at start follows) (ap (λ (k : Kernel). k.calls) c.in-Ok.ensures.calls) c.in-Ok-merge.ensures.merged (dumped_settled g at start settled)

-- ---- what every host counts

pub returns-clause-counts : goal.returns-clause-counts
returns-clause-counts g c = λ start follows unmade.
    let at = (goal.at.returns-clause-counts g c).In-Ok in
    c.carry_out.ensures.counts c.args.doc.now start (dumped_follows g at start follows) (ap (λ (k : Kernel). k.calls) c.in-Ok.ensures.calls) c.in-Ok-merge.ensures.merged

pub returns-clause-idle : goal.returns-clause-idle
returns-clause-idle g c = begun_idle g.H.Host.tells c.args.left (g.H.Host.told c.args.host.now) (g.H.Host.told c.carry_out.new.host) c.carry_out.result c.carry_out.ensures.begun

pub returns-clause-intact : goal.returns-clause-intact
returns-clause-intact g c = λ honest calm.
    let old = g.H.Host.told c.args.host.now in
    let mid = g.H.Host.told c.dump.new.self in
    let net = ap (λ (s : State). s.net) (c.dump.ensures.state (g.met.H.Host.honest_tells honest)) ∙ c.in-Ok.ensures.net honest in
    hurt_intact g.H.Host.tells c.in-Ok-merge.to old.faults mid.faults old (g.H.Host.told c.carry_out.new.host) c.dump.ensures.cause.later calm c.carry_out.result
    (c.carry_out.ensures.hurt honest net (subst (λ (l : List Call). Runs l c.in-Ok.found c.in-Ok-merge.to) (sym c.deref.ensures.value) c.in-Ok-plan.ensures.run))

-- ---- what isn't touched

pub returns-clause-calm : goal.returns-clause-calm
returns-clause-calm g c = λ honest t le from to is merges calm.
    let tells = g.met.H.Host.honest_tells honest in
    let old = g.H.Host.told c.args.host.now in
    let mid = g.H.Host.told c.dump.new.self in
    let new = g.H.Host.told c.carry_out.new.host in
    let found = c.in-Ok.found in
    let aim = c.in-Ok-merge.to in
    let one : found ≡ from = one_net found from old.state.net (c.in-Ok.ensures.net honest) is in
    let two : aim ≡ to = one_merged aim to (merge from c.args.doc.now) (subst (λ (n : NetData). merge n c.args.doc.now ≡ Ok aim) one c.in-Ok-merge.ensures.merged) merges in
    let here : mid.state.net ≡ Some found = ap (λ (s : State). s.net) (c.dump.ensures.state tells) ∙ c.in-Ok.ensures.net honest in
    let plan : IsPlan found aim c.deref.result.now = subst (λ (l : List Call). IsPlan found aim l) (sym c.deref.ensures.value) c.in-Ok-plan.ensures in
    let begun = calm_as from to found aim t mid one two (calm_stays from to t old mid (g.met.H.Host.lawful c.args.host.now).stops le calm c.dump.ensures.stops) in
    on_ok_weaker c.carry_out.result (λ after. calm_as found aim from to t new (sym one) (sym two) after)
    (c.carry_out.ensures.calm honest t (omega (arith, le, c.dump.ensures.stops.later)) here plan begun)

-- ---- on an honest host, sound or not

pub returns-clause-exact : goal.returns-clause-exact
returns-clause-exact g c = λ honest.
    let tells = g.met.H.Host.honest_tells honest in
    let old = g.H.Host.told c.args.host.now in
    let mid = g.H.Host.told c.dump.new.self in
    let new = g.H.Host.told c.carry_out.new.host in
    let found = c.in-Ok.found in
    let aim = c.in-Ok-merge.to in
    let opts = c.args.opts.now in
    let net : mid.state.net ≡ Some found = ap (λ (s : State). s.net) (c.dump.ensures.state tells) ∙ c.in-Ok.ensures.net honest in
    let runs : Runs c.deref.result.now found aim = subst (λ (l : List Call). Runs l found aim) (sym c.deref.ensures.value) c.in-Ok-plan.ensures.run in
    let deadline : c.saturating_add-deadline.result ≡ deadline_of (asked c.args.doc.now opts c.args.now) = omega (arith, c.saturating_add-deadline.ensures) in
    made_exact (asked c.args.doc.now opts c.args.now) (standing old.state) found aim mid new old.faults c.carry_out.result (c.in-Ok.ensures.net honest) c.in-Ok-merge.ensures.merged ((g.met.H.Host.lawful c.carry_out.new.host).reads tells)
    c.dump.ensures.cause.later
    (subst (λ (d : ℕ). IfOk c.carry_out.result (λ applied. applied.deadline ≡ (if opts.no_commit then Some d else None))) deadline c.carry_out.ensures.value)
    (subst (λ (d : ℕ). OnOk c.carry_out.result (Ends (done opts.no_commit c.args.now d found aim) new)) deadline (c.carry_out.ensures.ends honest net runs))
    (c.carry_out.ensures.hurt honest net runs)

-- ---- what was tried, dumped and taken back

pub returns-clause-tries : goal.returns-clause-tries
returns-clause-tries g c = λ start follows.
    c.carry_out.ensures.tries c.args.doc.now start (dumped_follows g (goal.at.returns-clause-tries g c).In-Ok start follows) (ap (λ (k : Kernel). k.calls) c.in-Ok.ensures.calls) c.in-Ok-merge.ensures.merged

pub returns-clause-twice : goal.returns-clause-twice
returns-clause-twice g c = λ honest.
    let net = ap (λ (s : State). s.net) (c.dump.ensures.state (g.met.H.Host.honest_tells honest)) ∙ c.in-Ok.ensures.net honest in
    twice_before ⊥ (g.H.Host.told c.args.host.now).faults (g.H.Host.told c.dump.new.self).faults (g.H.Host.told c.carry_out.new.host) c.carry_out.result c.dump.ensures.cause.later
    (c.carry_out.ensures.twice honest net (subst (λ (l : List Call). Runs l c.in-Ok.found c.in-Ok-merge.to) (sym c.deref.ensures.value) c.in-Ok-plan.ensures.run))

pub returns-clause-dumps : goal.returns-clause-dumps
returns-clause-dumps g c = c.carry_out.ensures.dumps c.in-Ok.ensures.fresh

pub returns-clause-backs : goal.returns-clause-backs
returns-clause-backs g c = λ honest.
    let net = ap (λ (s : State). s.net) (c.dump.ensures.state (g.met.H.Host.honest_tells honest)) in
    subst (λ (n : Option NetData). Backs n (g.H.Host.told c.carry_out.new.host) c.carry_out.result) net (c.carry_out.ensures.backs honest)

pub returns-clause-moment : goal.returns-clause-moment
returns-clause-moment g c =
    later_on (g.H.Host.told c.args.host.now).stops.moment (g.H.Host.told c.dump.new.self).stops.moment (g.H.Host.told c.carry_out.new.host).stops.moment c.dump.ensures.stops.later c.carry_out.ensures.moment

pub returns-clause-later : goal.returns-clause-later
returns-clause-later g c = later_on (g.H.Host.told c.args.host.now).faults (g.H.Host.told c.dump.new.self).faults (g.H.Host.told c.carry_out.new.host).faults c.dump.ensures.cause.later c.carry_out.ensures.later

-- a change is left to wait only once it is compared
pub returns-clause-seen : goal.returns-clause-seen
returns-clause-seen g c = λ honest sound ends is s left waits.
    let b = begun g (goal.at.returns-clause-seen g c).After-carry_out honest sound ends in (
      record { from = c.in-Ok.found; to = c.in-Ok-merge.to; stood = b.stood; merges = b.merges },
      c.carry_out.ensures.seen honest b.sound b.ends is s left waits,
    )

-- ---- where no change is begun

-- none waits
unmarked : (g : _) (c : After-dump g) → g.H.Host.honest → MadeSeen (asked c.args.doc.now c.args.opts.now c.args.now) (standing (g.H.Host.told c.args.host.now).state) (g.H.Host.told c.dump.new.self)
unmarked g c honest is s left waits =
    let old = g.H.Host.told c.args.host.now in
    let new = g.H.Host.told c.dump.new.self in
    absurd (none_on old new (waits_stays old new c.dump.ensures.stops) (held_waits None old (c.requires.none (g.met.H.Host.honest_tells honest)) (λ none. none)) s left waits)

left_exit : (a : Asked) (before : Standing) (faults : ℕ) (new : HostView) (left : Left) → left ≢ Pending → Ends before new → Exit a before faults (Err (ap_.HostFault left)) new
left_exit a before faults new NotBegun never ends = ends
left_exit a before faults new RolledBack never ends = ends
left_exit a before faults new Pending never ends = absurd (never refl)

-- the dump began nothing
unbegun : (g : _) (c : After-dump g) → NoCallMade (g.H.Host.told c.args.host.now).kernel (g.H.Host.told c.dump.new.self).kernel → IsUnbegun g.H.Host.tells (g.H.Host.told c.args.host.now) (g.H.Host.told c.dump.new.self)
unbegun g c unmade = record { stops = c.dump.ensures.stops; same = c.dump.ensures.state; unmade = unmade }

pub returns-in-Err-Failed : goal.returns-in-Err-Failed
returns-in-Err-Failed g c = record {
  kept = λ honest sound ends. stays g (goal.at.returns-in-Err-Failed g c).After-dump sound;
  exit = λ honest sound ends. left_exit (asked c.args.doc.now c.args.opts.now c.args.now) (standing (g.H.Host.told c.args.host.now).state) (g.H.Host.told c.args.host.now).faults (g.H.Host.told c.dump.new.self) c.args.left c.requires.left (ends_stays (standing (g.H.Host.told c.args.host.now).state) (g.H.Host.told c.args.host.now) (g.H.Host.told c.dump.new.self) ends c.dump.ensures.stops);
  seen = λ honest sound ends. unmarked g (goal.at.returns-in-Err-Failed g c).After-dump honest;
  exact = λ honest. c.in-Err-Failed.ensures.cause.failed (ap (λ e. Err e) c.in-Err-Failed.field-0-is);
  calm = λ honest t le from to is merges calm. tt;
  value = tt;
  says = λ start follows settled was.
      let old = g.H.Host.told c.args.host.now in
      let mid = g.H.Host.told c.dump.new.self in
      left_says g.H.Host.tells (asked c.args.doc.now c.args.opts.now c.args.now) start old mid c.args.left c.requires.left
      (rose_after start.faults old.faults mid.faults follows.faults (c.in-Err-Failed.ensures.cause.failed (ap (λ e. Err e) c.in-Err-Failed.field-0-is))) c.dump.ensures.state was (λ tells. (c.requires.none tells).cell)
      (left_settled g.H.Host.tells c.args.now start old mid settled (inl c.in-Err-Failed.ensures.kernel));
  counts = λ start follows unmade.
      left_counts start.kernel (g.H.Host.told c.args.host.now).kernel (g.H.Host.told c.dump.new.self).kernel c.args.left c.requires.left follows.quiet unmade c.in-Err-Failed.ensures.kernel;
  idle = left_idle g.H.Host.tells (g.H.Host.told c.args.host.now) (g.H.Host.told c.dump.new.self) c.args.left (unbegun g (goal.at.returns-in-Err-Failed g c).After-dump (inl c.in-Err-Failed.ensures.kernel));
  intact = λ honest calm. tt;
  tries = λ start follows. left_tries (c.args.opts.now.no_verify ≡ false) start.faults start.kernel.refusals (g.H.Host.told c.dump.new.self) c.args.left c.requires.left;
  twice = λ honest. left_twice ⊥ (g.H.Host.told c.args.host.now).faults (g.H.Host.told c.dump.new.self) c.args.left c.requires.left;
  dumps = tt;
  backs = λ honest.
      left_backs (g.H.Host.told c.args.host.now).state.net (g.H.Host.told c.dump.new.self) c.args.left (ap (λ (s : State). s.net) (c.dump.ensures.state (g.met.H.Host.honest_tells honest)));
  moment = c.dump.ensures.stops.later;
  later = c.dump.ensures.cause.later;
}

pub returns-in-Err-Damaged : goal.returns-in-Err-Damaged
returns-in-Err-Damaged g c = record {
  kept = λ honest sound ends. stays g (goal.at.returns-in-Err-Damaged g c).After-dump sound;
  exit = λ honest sound ends. (refl, c.in-Err-Damaged.ensures.damaged (g.met.H.Host.honest_tells honest) (ap (λ e. Err e) c.in-Err-Damaged.field-0-is), ends_stays (standing (g.H.Host.told c.args.host.now).state) (g.H.Host.told c.args.host.now) (g.H.Host.told c.dump.new.self) ends c.dump.ensures.stops);
  seen = λ honest sound ends. unmarked g (goal.at.returns-in-Err-Damaged g c).After-dump honest;
  exact = λ honest.
      let tells = g.met.H.Host.honest_tells honest in
      let old = g.H.Host.told c.args.host.now in
      let mid = g.H.Host.told c.dump.new.self in
      none_exact (asked c.args.doc.now c.args.opts.now c.args.now) (standing old.state) (Rose old.faults mid.faults) mid (c.in-Err-Damaged.ensures.damaged tells (ap (λ e. Err e) c.in-Err-Damaged.field-0-is)) (ap standing (c.dump.ensures.state tells));
  calm = λ honest t le from to is merges calm. tt;
  value = tt;
  says = λ start follows settled was tells.
      let old = g.H.Host.told c.args.host.now in
      let mid = g.H.Host.told c.dump.new.self in
      let damaged : IsDamaged 0 old.state = inl (refl, c.in-Err-Damaged.ensures.damaged tells (ap (λ e. Err e) c.in-Err-Damaged.field-0-is)) in (
        since_keeps Stays start.moment 0 old mid follows.moment c.dump.ensures.stops (since start.moment 0 old (g.met.H.Host.lawful c.args.host.now).stops ((g.met.H.Host.lawful c.args.host.now).reads tells) follows.moment damaged),
        record {
          damaged = subst (λ (s : State). IsDamaged 0 s) (sym (c.dump.ensures.state tells)) damaged;
          held = inl (left_settled g.H.Host.tells c.args.now start old mid settled (inl c.in-Err-Damaged.ensures.kernel));
        },
      );
  counts = λ start follows unmade.
      let old = (g.H.Host.told c.args.host.now).kernel in
      let mid = (g.H.Host.told c.dump.new.self).kernel in
      inl (quiet_on start.kernel old mid follows.quiet (quiet_same old mid c.in-Err-Damaged.ensures.kernel));
  idle = tt;
  intact = λ honest calm. (
    c.in-Err-Damaged.ensures.damaged (g.met.H.Host.honest_tells honest) (ap (λ e. Err e) c.in-Err-Damaged.field-0-is),
    unbegun g (goal.at.returns-in-Err-Damaged g c).After-dump (inl c.in-Err-Damaged.ensures.kernel),
  );
  tries = λ start follows. tt;
  twice = λ honest. tt;
  dumps = tt;
  backs = λ honest. tt;
  moment = c.dump.ensures.stops.later;
  later = c.dump.ensures.cause.later;
}

pub returns-in-Err-OutOfMemory : goal.returns-in-Err-OutOfMemory
returns-in-Err-OutOfMemory g c = record {
  kept = λ honest sound ends. stays g (goal.at.returns-in-Err-OutOfMemory g c).After-dump sound;
  exit = λ honest sound ends. inl (near_ends (Only (standing (g.H.Host.told c.args.host.now).state)) (standing (g.H.Host.told c.args.host.now).state) (g.H.Host.told c.dump.new.self) refl (ends_stays (standing (g.H.Host.told c.args.host.now).state) (g.H.Host.told c.args.host.now) (g.H.Host.told c.dump.new.self) ends c.dump.ensures.stops));
  seen = λ honest sound ends. unmarked g (goal.at.returns-in-Err-OutOfMemory g c).After-dump honest;
  exact = λ honest. tt;
  calm = λ honest t le from to is merges calm. tt;
  value = tt;
  says = λ start follows settled was.
      let old = g.H.Host.told c.args.host.now in
      let mid = g.H.Host.told c.dump.new.self in
      starved_before g.H.Host.tells c.args.now start mid (quiet_on start.kernel old.kernel mid.kernel follows.quiet (quiet_same old.kernel mid.kernel c.in-Err-OutOfMemory.ensures.kernel))
      (left_settled g.H.Host.tells c.args.now start old mid settled (inl c.in-Err-OutOfMemory.ensures.kernel));
  counts = λ start follows unmade.
      let old = (g.H.Host.told c.args.host.now).kernel in
      let mid = (g.H.Host.told c.dump.new.self).kernel in
      inl (quiet_on start.kernel old mid follows.quiet (quiet_same old mid c.in-Err-OutOfMemory.ensures.kernel));
  idle = tt;
  intact = λ honest calm. tt;
  tries = λ start follows. tt;
  twice = λ honest. tt;
  dumps = tt;
  backs = λ honest. tt;
  moment = c.dump.ensures.stops.later;
  later = c.dump.ensures.cause.later;
}

pub returns-in-Err-Refused : goal.returns-in-Err-Refused
returns-in-Err-Refused g c = record {
  kept = λ honest sound ends. stays g (goal.at.returns-in-Err-Refused g c).After-dump sound;
  exit = λ honest sound ends.
      let old = g.H.Host.told c.args.host.now in
      let stood : standing old.state ≡ restored_to c.in-Ok.found = λ i. record { net = c.in-Ok.ensures.net honest i; cell = (c.requires.none (g.met.H.Host.honest_tells honest)).cell i } in
      let broken : merge c.in-Ok.found c.args.doc.now ≡ Err c.in-Err-Refused.r = c.in-Err-Refused.ensures.refused c.in-Err-Refused.r (ap (λ e. Err e) c.in-Err-Refused.field-0-is) in
      let same = c.in-Err-Refused.r-is in
      (c.in-Ok.found, stood, cc, ends_stays (standing old.state) old (g.H.Host.told c.dump.new.self) ends c.dump.ensures.stops);
  seen = λ honest sound ends. unmarked g (goal.at.returns-in-Err-Refused g c).After-dump honest;
  exact = λ honest.
      let tells = g.met.H.Host.honest_tells honest in
      let old = g.H.Host.told c.args.host.now in
      let mid = g.H.Host.told c.dump.new.self in
      let stood : standing old.state ≡ restored_to c.in-Ok.found = λ i. record { net = c.in-Ok.ensures.net honest i; cell = (c.requires.none tells).cell i } in
      let broken : merge c.in-Ok.found c.args.doc.now ≡ Err c.in-Err-Refused.r = c.in-Err-Refused.ensures.refused c.in-Err-Refused.r (ap (λ e. Err e) c.in-Err-Refused.field-0-is) in
      let same = c.in-Err-Refused.r-is in
      let is = refused_exact (asked c.args.doc.now c.args.opts.now c.args.now) (standing old.state) c.in-Ok.found c.in-Err-Refused.r (Rose old.faults mid.faults) mid stood broken (ap standing (c.dump.ensures.state tells)) in
      record { answer = let there = is.answer in cc; after = is.after };
  calm = λ honest t le from to is merges calm. tt;
  value = tt;
  says = λ start follows settled was.
      let broken : merge c.in-Ok.found c.args.doc.now ≡ Err c.in-Err-Refused.r = c.in-Err-Refused.ensures.refused c.in-Err-Refused.r (ap (λ e. Err e) c.in-Err-Refused.field-0-is) in
      let same = c.in-Err-Refused.r-is in (
        dumped_settled g (goal.at.returns-in-Err-Refused g c).In-Ok start settled,
        λ tells. record {
          from = c.in-Ok.found;
          is_fresh = c.in-Ok.ensures.fresh tells;
          breaks = cc;
          none = ap (λ (s : State). cell_of s.cell) (c.dump.ensures.state tells) ∙ (c.requires.none tells).cell;
        },
      );
  counts = λ start follows unmade. dumped_quiet g (goal.at.returns-in-Err-Refused g c).In-Ok start follows;
  idle = unbegun g (goal.at.returns-in-Err-Refused g c).After-dump (inr c.in-Ok.ensures.calls);
  intact = λ honest calm. tt;
  tries = λ start follows. tt;
  twice = λ honest. tt;
  dumps = tt;
  backs = λ honest. tt;
  moment = c.dump.ensures.stops.later;
  later = c.dump.ensures.cause.later;
}

pub returns-in-Err-OutOfMemory-merge : goal.returns-in-Err-OutOfMemory-merge
returns-in-Err-OutOfMemory-merge g c = record {
  kept = λ honest sound ends. stays g (goal.at.returns-in-Err-OutOfMemory-merge g c).After-dump sound;
  exit = λ honest sound ends. inl (near_ends (Only (standing (g.H.Host.told c.args.host.now).state)) (standing (g.H.Host.told c.args.host.now).state) (g.H.Host.told c.dump.new.self) refl (ends_stays (standing (g.H.Host.told c.args.host.now).state) (g.H.Host.told c.args.host.now) (g.H.Host.told c.dump.new.self) ends c.dump.ensures.stops));
  seen = λ honest sound ends. unmarked g (goal.at.returns-in-Err-OutOfMemory-merge g c).After-dump honest;
  exact = λ honest. tt;
  calm = λ honest t le from to is merges calm. tt;
  value = tt;
  says = λ start follows settled was.
      let at = (goal.at.returns-in-Err-OutOfMemory-merge g c).In-Ok in
      starved_before g.H.Host.tells c.args.now start (g.H.Host.told c.dump.new.self) (dumped_quiet g at start follows) (dumped_settled g at start settled);
  counts = λ start follows unmade. inl (dumped_quiet g (goal.at.returns-in-Err-OutOfMemory-merge g c).In-Ok start follows);
  idle = tt;
  intact = λ honest calm. tt;
  tries = λ start follows. tt;
  twice = λ honest. tt;
  dumps = tt;
  backs = λ honest. tt;
  moment = c.dump.ensures.stops.later;
  later = c.dump.ensures.cause.later;
}

pub returns-in-Err : goal.returns-in-Err
returns-in-Err g c = record {
  kept = λ honest sound ends. stays g (goal.at.returns-in-Err g c).After-dump sound;
  exit = λ honest sound ends. inl (near_ends (Only (standing (g.H.Host.told c.args.host.now).state)) (standing (g.H.Host.told c.args.host.now).state) (g.H.Host.told c.dump.new.self) refl (ends_stays (standing (g.H.Host.told c.args.host.now).state) (g.H.Host.told c.args.host.now) (g.H.Host.told c.dump.new.self) ends c.dump.ensures.stops));
  seen = λ honest sound ends. unmarked g (goal.at.returns-in-Err g c).After-dump honest;
  exact = λ honest. tt;
  calm = λ honest t le from to is merges calm. tt;
  value = tt;
  says = λ start follows settled was.
      let at = (goal.at.returns-in-Err g c).In-Ok in
      starved_before g.H.Host.tells c.args.now start (g.H.Host.told c.dump.new.self) (dumped_quiet g at start follows) (dumped_settled g at start settled);
  counts = λ start follows unmade. inl (dumped_quiet g (goal.at.returns-in-Err g c).In-Ok start follows);
  idle = tt;
  intact = λ honest calm. tt;
  tries = λ start follows. tt;
  twice = λ honest. tt;
  dumps = tt;
  backs = λ honest. tt;
  moment = c.dump.ensures.stops.later;
  later = c.dump.ensures.cause.later;
}

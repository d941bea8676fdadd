use Rattle.std.proofs.Common.{◌≡◌, ℕ, false, arith, inl, inr, Some, Err, ap, subst, sym, refl}
use Rattle.std.specs.Prelude.{OnOk}
use Rattle.kernel_model.specs.Runs.{Runs}
use Rattle.host_core.specs.HostView.{State}
use Rattle.checkpoint_cell.specs.Settled.{Standing}
use Rattle.engine_model.specs.Sound.{Sound}
use Rattle.engine_model.specs.Stations.{Only, Kept, Ends, Near, AllNear}
use Rattle.checkpoint_cell.specs.Settled.{restored_to}
use Rattle.engine_model.specs.Answers.{IsUndone}
use Rattle.engine_core.specs.Attempts.{IsOnWay, IsEither, done}
use Rattle.engine_core.specs.Applying.{Change}
use Rattle.engine_model.specs.Machine.{Asked, asked, deadline_of}
use Rattle.engine_model.proofs.lemmas.Comparing.{seen_same}
use Rattle.engine_model.proofs.lemmas.Leading.{kept_on, kept_wider, near_kept, near_ends}
use Rattle.std.proofs.lemmas.Result.{on_ok_weaker}
use Rattle.engine_core.proofs.Calms.{calm_on}
use Rattle.engine_core.proofs.Attempts.{way_back}
use Rattle.engine_core.proofs.Exacts.{finished_hurt}
use Rattle.engine_core.proofs.Gives.{gave_up_exit, sealed_near, way_either, finished_exit}
use Rattle.engine_model.proofs.lemmas.Refusals.{quiet_on, quiet_same}
use Rattle.engine_core.proofs.Says.{finished_says, finished_begun, left_settled}
use Rattle.engine_core.proofs.Counts.{finished_counts}
use Rattle.engine_core.proofs.Tries.{finished_tries, finished_twice, finished_backs, dumped_as, given_dumps}
use Rattle.engine_core.proofs.applying.carry_out.Goals as goal
use Rattle.engine_core.proofs.applying.carry_out.Goals.{After-attempt, After-finish, After-give_up}

pub finish-requires : goal.finish-requires
finish-requires g c = λ tells. (c.args.made, c.args.deadline, c.args.from.now, c.in-Ok.ensures.set tells)

way : (g : _) (c : After-attempt g) → g.H.Host.honest → Sound (g.H.Host.told c.args.host.now) → Ends (restored_to c.args.from.now) (g.H.Host.told c.args.host.now) → (g.H.Host.told c.args.host.now).state.net ≡ Some c.args.from.now → Runs c.args.calls.now c.args.from.now c.args.to.now
    → AllNear (IsOnWay c.args.opts.now.no_commit c.args.made c.args.deadline c.args.from.now c.args.to.now) (g.H.Host.told c.attempt.new.host)
way g c honest sound ends is runs =
    near_kept (IsOnWay c.args.opts.now.no_commit c.args.made c.args.deadline c.args.from.now c.args.to.now) (g.H.Host.told c.args.host.now) (g.H.Host.told c.attempt.new.host)
    (near_ends (IsOnWay c.args.opts.now.no_commit c.args.made c.args.deadline c.args.from.now c.args.to.now) (restored_to c.args.from.now) (g.H.Host.told c.args.host.now) (inl refl) ends) (c.attempt.ensures.kept honest sound ends is runs)

back : (g : _) (c : After-attempt g) → g.H.Host.honest → Sound (g.H.Host.told c.args.host.now) → Ends (restored_to c.args.from.now) (g.H.Host.told c.args.host.now) → (g.H.Host.told c.args.host.now).state.net ≡ Some c.args.from.now → Runs c.args.calls.now c.args.from.now c.args.to.now
    → (s : State) → (g.H.Host.told c.attempt.new.host).stops.may_leave s → IsUndone s (restored_to c.args.from.now)
back g c honest sound ends is runs s left = way_back c.args.opts.now.no_commit c.args.made c.args.deadline c.args.from.now c.args.to.now _ (way g c honest sound ends is runs s left)

pub returns-in-Err-clause-kept : goal.returns-in-Err-clause-kept
returns-in-Err-clause-kept g c = λ honest sound ends is runs.
    let at = (goal.at.returns-in-Err-clause-kept g c).After-attempt in
    let old = g.H.Host.told c.args.host.now in
    let mid = g.H.Host.told c.attempt.new.host in
    let new = g.H.Host.told c.give_up.new.host in
    let first = c.attempt.ensures.kept honest sound ends is runs in
    kept_on (IsEither c.args.opts.now.no_commit c.args.made c.args.deadline c.args.from.now c.args.to.now) old mid new
    (kept_wider (IsOnWay c.args.opts.now.no_commit c.args.made c.args.deadline c.args.from.now c.args.to.now) (IsEither c.args.opts.now.no_commit c.args.made c.args.deadline c.args.from.now c.args.to.now)
    (λ a way. way_either c.args.opts.now.no_commit c.args.made c.args.deadline c.args.from.now c.args.to.now a way) old mid first)
    (kept_wider (Only (restored_to c.args.from.now)) (IsEither c.args.opts.now.no_commit c.args.made c.args.deadline c.args.from.now c.args.to.now) (λ a same. inl same) mid new
    (c.give_up.ensures.kept honest first.sound c.args.from.now (back g at honest sound ends is runs)))

pub returns-in-Err-clause-exit : goal.returns-in-Err-clause-exit
returns-in-Err-clause-exit g c = λ honest sound ends is runs doc merges until.
    let at = (goal.at.returns-in-Err-clause-exit g c).After-attempt in
    let old = g.H.Host.told c.args.host.now in
    let mid = g.H.Host.told c.attempt.new.host in
    let new = g.H.Host.told c.give_up.new.host in
    let first = c.attempt.ensures.kept honest sound ends is runs in
    let kept = c.give_up.ensures.kept honest first.sound c.args.from.now (back g at honest sound ends is runs) in
    let onway = near_kept (IsOnWay c.args.opts.now.no_commit c.args.made c.args.deadline c.args.from.now c.args.to.now) mid new (way g at honest sound ends is runs)
    (kept_wider (Only (restored_to c.args.from.now)) (IsOnWay c.args.opts.now.no_commit c.args.made c.args.deadline c.args.from.now c.args.to.now) (λ a same. inl same) mid new kept) in
    let want : Asked = asked doc c.args.opts.now c.args.made in
    let change : Change want (restored_to c.args.from.now) = record { from = c.args.from.now; to = c.args.to.now; stood = refl; merges = merges } in
    gave_up_exit want (restored_to c.args.from.now) change old.faults mid.faults new (subst (λ (d : ℕ). AllNear (IsOnWay c.args.opts.now.no_commit c.args.made d c.args.from.now c.args.to.now) new) until onway) c.in-Err.missed c.give_up.result
    (c.in-Err.ensures.missed honest is runs) (λ failed. c.in-Err.ensures.fault (ap (λ e. Err e) failed)) c.give_up.ensures.later c.give_up.ensures.memory
    (λ memory. near_kept (Only (restored_to c.args.from.now)) mid new (c.in-Err.ensures.memory honest sound ends is runs (ap (λ e. Err e) memory)) kept)
    (c.give_up.ensures.exit honest first.sound c.args.from.now (back g at honest sound ends is runs) (c.in-Err.ensures.missed honest is runs))

finished : (g : _) (c : After-finish g) → g.H.Host.honest → Sound (g.H.Host.told c.args.host.now) → Ends (restored_to c.args.from.now) (g.H.Host.told c.args.host.now) → (g.H.Host.told c.args.host.now).state.net ≡ Some c.args.from.now → Runs c.args.calls.now c.args.from.now c.args.to.now
    → Kept (Only (done c.args.opts.now.no_commit c.args.made c.args.deadline c.args.from.now c.args.to.now)) (g.H.Host.told c.attempt.new.host) (g.H.Host.told c.finish.new.host)
finished g c honest sound ends is runs =
    c.finish.ensures.kept (g.met.H.Host.honest_tells honest) (c.attempt.ensures.kept honest sound ends is runs).sound c.args.made c.args.deadline c.args.from.now c.args.to.now
    (c.in-Ok.ensures.set (g.met.H.Host.honest_tells honest)) (c.in-Ok.ensures.ends honest is runs)

whole : (g : _) (c : After-finish g) → g.H.Host.honest → Sound (g.H.Host.told c.args.host.now) → Ends (restored_to c.args.from.now) (g.H.Host.told c.args.host.now) → (g.H.Host.told c.args.host.now).state.net ≡ Some c.args.from.now → Runs c.args.calls.now c.args.from.now c.args.to.now
    → Kept (IsEither c.args.opts.now.no_commit c.args.made c.args.deadline c.args.from.now c.args.to.now) (g.H.Host.told c.args.host.now) (g.H.Host.told c.finish.new.host)
whole g c honest sound ends is runs =
    let old = g.H.Host.told c.args.host.now in
    let mid = g.H.Host.told c.attempt.new.host in
    let new = g.H.Host.told c.finish.new.host in
    kept_on (IsEither c.args.opts.now.no_commit c.args.made c.args.deadline c.args.from.now c.args.to.now) old mid new
    (kept_wider (IsOnWay c.args.opts.now.no_commit c.args.made c.args.deadline c.args.from.now c.args.to.now) (IsEither c.args.opts.now.no_commit c.args.made c.args.deadline c.args.from.now c.args.to.now)
    (λ a way. way_either c.args.opts.now.no_commit c.args.made c.args.deadline c.args.from.now c.args.to.now a way) old mid (c.attempt.ensures.kept honest sound ends is runs))
    (kept_wider (Only (done c.args.opts.now.no_commit c.args.made c.args.deadline c.args.from.now c.args.to.now)) (IsEither c.args.opts.now.no_commit c.args.made c.args.deadline c.args.from.now c.args.to.now) (λ a same. inr same) mid new (finished g c honest sound ends is runs))

pub returns-in-Ok-clause-kept : goal.returns-in-Ok-clause-kept
returns-in-Ok-clause-kept g c = λ honest sound ends is runs. whole g (goal.at.returns-in-Ok-clause-kept g c).After-finish honest sound ends is runs

pub returns-in-Ok-clause-exit : goal.returns-in-Ok-clause-exit
returns-in-Ok-clause-exit g c = λ honest sound ends is runs doc merges until.
    let tells = g.met.H.Host.honest_tells honest in
    let at = (goal.at.returns-in-Ok-clause-exit g c).After-finish in
    let mid = g.H.Host.told c.attempt.new.host in
    let new = g.H.Host.told c.finish.new.host in
    let want : Asked = asked doc c.args.opts.now c.args.made in
    let change : Change want (restored_to c.args.from.now) = record { from = c.args.from.now; to = c.args.to.now; stood = refl; merges = merges } in
    let there = c.in-Ok.ensures.ends honest is runs in
    let near : AllNear (IsEither c.args.opts.now.no_commit c.args.made c.args.deadline c.args.from.now c.args.to.now) mid = λ s left. subst (λ (x : Standing). Near (IsEither c.args.opts.now.no_commit c.args.made c.args.deadline c.args.from.now c.args.to.now) x) (sym (there s left)) (sealed_near c.args.opts.now.no_commit c.args.made c.args.deadline c.args.from.now c.args.to.now) in
    finished_exit want (restored_to c.args.from.now) change (g.H.Host.told c.args.host.now).faults c.finish.result new
    (subst (λ (d : ℕ). OnOk c.finish.result (Ends (done c.args.opts.now.no_commit c.args.made d c.args.from.now c.args.to.now) new)) until (c.finish.ensures.ends tells c.args.made c.args.deadline c.args.from.now c.args.to.now (c.in-Ok.ensures.set tells) there)) c.finish.ensures.doubt
    (c.finish.ensures.nets tells c.args.made c.args.deadline c.args.from.now c.args.to.now there)
    (subst (λ (d : ℕ). AllNear (IsEither c.args.opts.now.no_commit c.args.made d c.args.from.now c.args.to.now) new) until (near_kept (IsEither c.args.opts.now.no_commit c.args.made c.args.deadline c.args.from.now c.args.to.now) mid new near
    (kept_wider (Only (done c.args.opts.now.no_commit c.args.made c.args.deadline c.args.from.now c.args.to.now)) (IsEither c.args.opts.now.no_commit c.args.made c.args.deadline c.args.from.now c.args.to.now) (λ a same. inr same) mid new (finished g at honest sound ends is runs))))

pub returns-in-Ok-clause-says : goal.returns-in-Ok-clause-says
returns-in-Ok-clause-says g c = λ doc start follows calls merges settled.
    let mid = g.H.Host.told c.attempt.new.host in
    finished_says g.H.Host.tells doc c.args.opts.now c.args.made start c.args.from.now c.args.to.now mid (g.H.Host.told c.finish.new.host) merges (omega (arith, follows.faults, c.attempt.ensures.later))
    c.in-Ok.ensures.verified c.finish.ensures.kernel.fresh (λ tells. c.finish.ensures.saved tells c.args.made c.args.deadline c.args.from.now (c.in-Ok.ensures.set tells)) c.finish.result c.finish.ensures.doubt c.finish.ensures.fault c.finish.ensures.ended

pub returns-in-Err-clause-says : goal.returns-in-Err-clause-says
returns-in-Err-clause-says g c = λ doc start follows calls merges settled.
    let old = g.H.Host.told c.args.host.now in
    let mid = g.H.Host.told c.attempt.new.host in
    c.give_up.ensures.says doc c.args.opts.now c.args.made start (omega (arith, follows.faults, c.attempt.ensures.later)) (omega (arith, follows.moment, c.attempt.ensures.moment)) (c.in-Err.ensures.says doc start follows calls merges)
    (λ found is. c.in-Err.ensures.compared found (ap (λ e. Err e) is)) (λ tells none. left_settled g.H.Host.tells c.args.made start old mid settled (inl (c.in-Err.ensures.unset tells none).1))

pub returns-in-Ok-clause-counts : goal.returns-in-Ok-clause-counts
returns-in-Ok-clause-counts g c = λ doc start follows calls merges.
    let old = g.H.Host.told c.args.host.now in
    let mid = g.H.Host.told c.attempt.new.host in
    let new = g.H.Host.told c.finish.new.host in
    finished_counts start.kernel new.kernel c.finish.result c.finish.ensures.doubt
    (quiet_on start.kernel old.kernel new.kernel follows.quiet (quiet_on old.kernel mid.kernel new.kernel c.in-Ok.ensures.quiet (quiet_same mid.kernel new.kernel c.finish.ensures.kernel.kernel)))

pub returns-in-Err-clause-counts : goal.returns-in-Err-clause-counts
returns-in-Err-clause-counts g c = λ doc start follows calls merges. c.give_up.ensures.counts doc start (c.in-Err.ensures.says doc start follows calls merges)

pub returns-in-Err-clause-begun : goal.returns-in-Err-clause-begun
returns-in-Err-clause-begun g c = inl c.give_up.ensures.begun

pub returns-in-Ok-clause-begun : goal.returns-in-Ok-clause-begun
returns-in-Ok-clause-begun g c = finished_begun c.finish.result c.finish.ensures.doubt

-- ---- what isn't touched

pub returns-in-Ok-clause-calm : goal.returns-in-Ok-clause-calm
returns-in-Ok-clause-calm g c = λ honest t le is plan calm.
    let mid = g.H.Host.told c.attempt.new.host in
    let new = g.H.Host.told c.finish.new.host in
    let here = c.in-Ok.ensures.calm honest t le is plan calm in
    on_ok_weaker c.finish.result (λ steps. calm_on c.args.from.now c.args.to.now t mid new (g.met.H.Host.lawful c.attempt.new.host).stops (omega (arith, le, c.attempt.ensures.moment)) here steps) c.finish.ensures.stays

-- ---- on an honest host, sound or not

pub returns-in-Ok-clause-ends : goal.returns-in-Ok-clause-ends
returns-in-Ok-clause-ends g c = λ honest is runs.
    c.finish.ensures.ends (g.met.H.Host.honest_tells honest) c.args.made c.args.deadline c.args.from.now c.args.to.now (c.in-Ok.ensures.set (g.met.H.Host.honest_tells honest)) (c.in-Ok.ensures.ends honest is runs)

pub returns-in-Ok-clause-hurt : goal.returns-in-Ok-clause-hurt
returns-in-Ok-clause-hurt g c = λ honest is runs.
    finished_hurt (g.H.Host.told c.args.host.now).faults (g.H.Host.told c.attempt.new.host).faults c.args.to.now (g.H.Host.told c.finish.new.host) c.finish.result c.finish.ensures.doubt c.attempt.ensures.later c.finish.ensures.fault
    (c.finish.ensures.nets (g.met.H.Host.honest_tells honest) c.args.made c.args.deadline c.args.from.now c.args.to.now (c.in-Ok.ensures.ends honest is runs))

pub returns-in-Err-clause-hurt : goal.returns-in-Err-clause-hurt
returns-in-Err-clause-hurt g c = λ honest is runs.
    c.give_up.ensures.hurt honest (g.H.Host.told c.args.host.now).faults c.args.to.now (c.in-Err.ensures.missed honest is runs) (λ failed. c.in-Err.ensures.fault (ap (λ e. Err e) failed))

-- ---- what was tried, dumped and taken back

pub returns-in-Ok-clause-tries : goal.returns-in-Ok-clause-tries
returns-in-Ok-clause-tries g c = λ doc start follows calls merges. finished_tries (c.args.opts.now.no_verify ≡ false) start.faults start.kernel.refusals (g.H.Host.told c.finish.new.host) c.finish.result c.finish.ensures.doubt

pub returns-in-Err-clause-tries : goal.returns-in-Err-clause-tries
returns-in-Err-clause-tries g c = λ doc start follows calls merges.
    c.give_up.ensures.tries doc c.args.opts.now start (c.in-Err.ensures.says doc start follows calls merges) (λ found is. c.in-Err.ensures.compared found (ap (λ e. Err e) is))

pub returns-in-Ok-clause-twice : goal.returns-in-Ok-clause-twice
returns-in-Ok-clause-twice g c = λ honest is runs. finished_twice ⊥ (g.H.Host.told c.args.host.now).faults (g.H.Host.told c.finish.new.host) c.finish.result c.finish.ensures.doubt

pub returns-in-Err-clause-twice : goal.returns-in-Err-clause-twice
returns-in-Err-clause-twice g c = λ honest is runs. c.give_up.ensures.twice honest (g.H.Host.told c.args.host.now).faults (c.in-Err.ensures.missed honest is runs) (λ failed. c.in-Err.ensures.fault (ap (λ e. Err e) failed))

pub returns-in-Ok-clause-dumps : goal.returns-in-Ok-clause-dumps
returns-in-Ok-clause-dumps g c = λ was.
    let old = g.H.Host.told c.args.host.now in
    let mid = g.H.Host.told c.attempt.new.host in
    let new = g.H.Host.told c.finish.new.host in
    dumped_as g.H.Host.tells c.args.opts.now.no_verify c.args.from.now old mid new c.finish.result was c.in-Ok.ensures.dumped c.finish.ensures.kernel.kernel
    c.in-Ok.ensures.fresh c.finish.ensures.kernel.fresh (λ tells. c.finish.ensures.saved tells c.args.made c.args.deadline c.args.from.now (c.in-Ok.ensures.set tells))
    c.finish.ensures.doubt

pub returns-in-Err-clause-dumps : goal.returns-in-Err-clause-dumps
returns-in-Err-clause-dumps g c = λ was. given_dumps g.H.Host.tells c.args.opts.now.no_verify (g.H.Host.told c.give_up.new.host) c.give_up.result c.give_up.ensures.begun

pub returns-in-Ok-clause-backs : goal.returns-in-Ok-clause-backs
returns-in-Ok-clause-backs g c = λ honest. finished_backs (g.H.Host.told c.args.host.now).state.net (g.H.Host.told c.finish.new.host) c.finish.result c.finish.ensures.doubt

pub returns-in-Err-clause-backs : goal.returns-in-Err-clause-backs
returns-in-Err-clause-backs g c = λ honest. c.give_up.ensures.backs honest (g.H.Host.told c.args.host.now).state.net (λ none. (c.in-Err.ensures.unset (g.met.H.Host.honest_tells honest) none).0)

-- ---- a change is left to wait only once it is compared

pub returns-in-Ok-clause-seen : goal.returns-in-Ok-clause-seen
returns-in-Ok-clause-seen g c = λ honest sound ends is s left waits.
    seen_same g.H.Host.tells c.args.to.now (g.H.Host.told c.attempt.new.host) (g.H.Host.told c.finish.new.host) (g.met.H.Host.honest_tells honest) c.finish.ensures.kernel (c.in-Ok.ensures.checked honest is)

pub returns-in-Err-clause-seen : goal.returns-in-Err-clause-seen
returns-in-Err-clause-seen g c = λ honest sound ends is. c.give_up.ensures.seen honest c.args.to.now (c.attempt.ensures.seen honest sound ends is)

use Rattle.std.proofs.Common.{◌≡◌, ◌⊎◌, ◌∙◌, ◌≤◌, ℕ, inl, Some, None, Err, Ok, arith, ap, subst, sym}
use Rattle.host_core.specs.HostView.{State}
use Rattle.checkpoint_cell.specs.Settled.{Standing}
use Rattle.engine_model.specs.declared.answers.ApplyFault.{ApplyFault}
use Rattle.engine_model.specs.Stations.{IsSettled}
use Rattle.engine_core.specs.Applying.{IsApplied, ExitApply}
use Rattle.engine_core.proofs.Applies.{compared_from}
use Rattle.engine_model.proofs.lemmas.Leading.{kept_wider}
use Rattle.engine_model.specs.Machine.{asked}
use Rattle.engine_model.specs.Faults.{ApplySays}
use Rattle.engine_model.specs.declared.answers.Left.TheVariants.{NotBegun, RolledBack}
use Rattle.engine_core.specs.Saying.{start_of, Follows, SettledBy}
use Rattle.engine_core.proofs.Says.{start_since, said_damaged, unsettled_damaged}
use Rattle.engine_core.proofs.Gives.{unsettled_exit, after_exit, after_kept, now_ends}
use Rattle.checkpoint_cell.specs.Cell.{Checkpoint, cell_of}
use Rattle.engine_core.proofs.Calms.{calm_stays}
use Rattle.std.proofs.Common.{refl, Result}
use Rattle.checkpoint_cell.specs.Settled.{standing}
use Rattle.host_core.specs.Faults.{Rose}
use Rattle.engine_model.specs.Machine.{apply, change, saved_on}
use Rattle.engine_model.specs.Answers.{Finds}
use Rattle.engine_model.specs.Faults.{ApplyExact}
use Rattle.engine_model.specs.declared.answers.Recovered.{Recovered}
use Rattle.engine_model.specs.declared.answers.Recovered.TheVariants.{Restored}
use Rattle.engine_model.specs.declared.answers.BackFault.{BackFault}
use Rattle.engine_model.proofs.lemmas.Finding.{recover_exact, found_saved}
use Rattle.engine_core.proofs.Exacts.{exact_from, nothing_is, restored_is, unsettled_exact}
use Rattle.engine_core.proofs.Says.{said_says, waits_says, unsettled_says}
use Rattle.host_core.specs.HostView.{NoneRefused}
use Rattle.std.proofs.Common.{Option, false}
use Rattle.net_model.specs.NetData.{NetData}
use Rattle.std.proofs.Common.{inr}
use Rattle.engine_model.specs.Refusals.{ApplyCounts}
use Rattle.engine_core.proofs.Counts.{unsettled_counts}
use Rattle.engine_model.specs.Faults.{Tries, FailsTwice, Dumps, Backs, HasSet, HasTaken}
use Rattle.engine_model.proofs.lemmas.Backs.{has_taken}
use Rattle.engine_model.specs.Machine.{recover}
use Rattle.engine_core.proofs.Exacts.{nothing_after, restored_after}
use Rattle.engine_core.proofs.Tries.{tries_more, unsettled_tries, twice_before, unsettled_twice, unsettled_dumps, unsettled_backs}
use Rattle.host_core.proofs.lemmas.Counts.{rose_after}
use Rattle.engine_core.proofs.Apart.{waiting_kept, nothing_kept, back_begun}
use Rattle.engine_core.proofs.Idles.{settled_idle, unsettled_idle, settled_intact, restored_intact, unsettled_intact}
use Rattle.engine_model.specs.Failing.{IsUnbegun, Fails, ApplyIdle, ApplyIntact}
use Rattle.engine_core.proofs.applying.settle_and_change.Goals as goal
use Rattle.engine_core.proofs.applying.settle_and_change.Goals.{After-take_back, In-Ok-Nothing, In-Ok-Restored}

pub returns-in-Ok-Waiting-clause-kept : goal.returns-in-Ok-Waiting-clause-kept
returns-in-Ok-Waiting-clause-kept g c = λ honest sound. kept_wider (IsSettled c.args.now (g.H.Host.told c.args.host.now).state) (IsApplied (asked c.args.doc.now c.args.opts.now c.args.now) (g.H.Host.told c.args.host.now).state) (λ a is. inl is) (g.H.Host.told c.args.host.now) (g.H.Host.told c.take_back.new.host) (c.take_back.ensures.kept honest sound)

pub returns-in-Ok-Waiting-clause-exit : goal.returns-in-Ok-Waiting-clause-exit
returns-in-Ok-Waiting-clause-exit g c = λ honest sound.
    let w = c.take_back.ensures.waiting (g.met.H.Host.honest_tells honest) c.in-Ok-Waiting.deadline (c.in-Ok-Waiting.is ∙ ap (λ r. Ok r) c.in-Ok-Waiting.field-0-is) in
    (w.0, w.1, c.in-Ok-Waiting.ensures.ends honest sound)

pub returns-in-Err-clause-exit : goal.returns-in-Err-clause-exit
returns-in-Err-clause-exit g c = λ honest sound.
    let tells = g.met.H.Host.honest_tells honest in
    subst (λ (a : ApplyFault). ExitApply (asked c.args.doc.now c.args.opts.now c.args.now) (g.H.Host.told c.args.host.now) (Err a) (g.H.Host.told c.take_back.new.host)) (sym c.unsettled.ensures)
    (unsettled_exit (asked c.args.doc.now c.args.opts.now c.args.now) (g.H.Host.told c.args.host.now) (g.H.Host.told c.take_back.new.host) (c.take_back.ensures.kept honest sound).during g.H.Host.tells c.in-Err.fault (c.in-Err.ensures.healthy honest sound)
    c.in-Err.ensures.fails (λ is. c.in-Err.ensures.pending tells (ap (λ e. Err e) is)) (λ is. c.in-Err.ensures.memory tells (ap (λ e. Err e) is)) (c.in-Err.ensures.going honest sound))

pub returns-in-Err-clause-kept : goal.returns-in-Err-clause-kept
returns-in-Err-clause-kept g c = λ honest sound. kept_wider (IsSettled c.args.now (g.H.Host.told c.args.host.now).state) (IsApplied (asked c.args.doc.now c.args.opts.now c.args.now) (g.H.Host.told c.args.host.now).state) (λ a is. inl is) (g.H.Host.told c.args.host.now) (g.H.Host.told c.take_back.new.host) (c.take_back.ensures.kept honest sound)

pub returns-in-Ok-Nothing-clause-exit : goal.returns-in-Ok-Nothing-clause-exit
returns-in-Ok-Nothing-clause-exit g c = λ honest sound.
    let here = (g.met.H.Host.lawful c.take_back.new.host).reads (g.met.H.Host.honest_tells honest) in
    let ends = c.in-Ok-Nothing.ensures.ends honest sound in
    after_exit (asked c.args.doc.now c.args.opts.now c.args.now) (g.H.Host.told c.args.host.now) (g.H.Host.told c.take_back.new.host) (g.H.Host.told c.change.new.host) here ends c.change.result c.take_back.ensures.later
    (c.change.ensures.exit honest (c.take_back.ensures.kept honest sound).sound (now_ends ends.0 (g.H.Host.told c.take_back.new.host) here ends.2))

pub returns-in-Ok-Nothing-clause-kept : goal.returns-in-Ok-Nothing-clause-kept
returns-in-Ok-Nothing-clause-kept g c = λ honest sound.
    let here = (g.met.H.Host.lawful c.take_back.new.host).reads (g.met.H.Host.honest_tells honest) in
    let ends = c.in-Ok-Nothing.ensures.ends honest sound in
    let first = c.take_back.ensures.kept honest sound in
    after_kept (asked c.args.doc.now c.args.opts.now c.args.now) (g.H.Host.told c.args.host.now) (g.H.Host.told c.take_back.new.host) (g.H.Host.told c.change.new.host) here ends first
    (c.change.ensures.kept honest first.sound (now_ends ends.0 (g.H.Host.told c.take_back.new.host) here ends.2))

pub returns-in-Ok-Restored-clause-exit : goal.returns-in-Ok-Restored-clause-exit
returns-in-Ok-Restored-clause-exit g c = λ honest sound.
    let here = (g.met.H.Host.lawful c.take_back.new.host).reads (g.met.H.Host.honest_tells honest) in
    let ends = c.in-Ok-Restored.ensures.ends honest sound in
    after_exit (asked c.args.doc.now c.args.opts.now c.args.now) (g.H.Host.told c.args.host.now) (g.H.Host.told c.take_back.new.host) (g.H.Host.told c.change-in-Ok-Restored.new.host) here ends c.change-in-Ok-Restored.result c.take_back.ensures.later
    (c.change-in-Ok-Restored.ensures.exit honest (c.take_back.ensures.kept honest sound).sound (now_ends ends.0 (g.H.Host.told c.take_back.new.host) here ends.2))

pub returns-in-Ok-Restored-clause-kept : goal.returns-in-Ok-Restored-clause-kept
returns-in-Ok-Restored-clause-kept g c = λ honest sound.
    let here = (g.met.H.Host.lawful c.take_back.new.host).reads (g.met.H.Host.honest_tells honest) in
    let ends = c.in-Ok-Restored.ensures.ends honest sound in
    let first = c.take_back.ensures.kept honest sound in
    after_kept (asked c.args.doc.now c.args.opts.now c.args.now) (g.H.Host.told c.args.host.now) (g.H.Host.told c.take_back.new.host) (g.H.Host.told c.change-in-Ok-Restored.new.host) here ends first
    (c.change-in-Ok-Restored.ensures.kept honest first.sound (now_ends ends.0 (g.H.Host.told c.take_back.new.host) here ends.2))

-- ---- on every host

begun : (g : _) (c : After-take_back g) → (quiet : NoneRefused (g.H.Host.told c.args.host.now).kernel (g.H.Host.told c.take_back.new.host).kernel) → Follows (start_of (g.H.Host.told c.args.host.now)) (g.H.Host.told c.take_back.new.host)
begun g c quiet = record { faults = c.take_back.ensures.later; moment = c.take_back.ensures.moves.later; quiet = quiet }

pub returns-in-Ok-Waiting-clause-says : goal.returns-in-Ok-Waiting-clause-says
returns-in-Ok-Waiting-clause-says g c =
    waits_says g.H.Host.tells (asked c.args.doc.now c.args.opts.now c.args.now) (g.H.Host.told c.args.host.now) (g.H.Host.told c.take_back.new.host) c.in-Ok-Waiting.deadline
    (λ tells. c.take_back.ensures.waiting tells c.in-Ok-Waiting.deadline (c.in-Ok-Waiting.is ∙ ap (λ r. Ok r) c.in-Ok-Waiting.field-0-is))
    (c.in-Ok-Waiting.ensures.idle (waiting_kept c.in-Ok-Waiting.deadline c.in-Ok-Waiting.field-0-is)).same

-- nothing was to be taken back
nothing_begun : (g : _) (c : In-Ok-Nothing g) → IsUnbegun g.H.Host.tells (g.H.Host.told c.args.host.now) (g.H.Host.told c.take_back.new.host)
nothing_begun g c = c.in-Ok-Nothing.ensures.idle (nothing_kept c.in-Ok-Nothing.field-0-is)

nothing_settled : (g : _) (c : In-Ok-Nothing g) (t : ℕ) → SettledBy g.H.Host.tells c.args.now (start_since t (g.H.Host.told c.args.host.now)) (g.H.Host.told c.take_back.new.host)
nothing_settled g c t = inr (nothing_begun g c).unmade

-- something was
restored_taken : (g : _) (c : In-Ok-Restored g) → g.H.Host.tells → HasTaken c.args.now (standing (g.H.Host.told c.args.host.now).state).cell
restored_taken g c = λ tells. has_taken c.args.now (cell_of (g.H.Host.told c.args.host.now).state.cell) (c.take_back.ensures.restored tells (c.in-Ok-Restored.is ∙ ap (λ r. Ok r) c.in-Ok-Restored.field-0-is))

restored_settled : (g : _) (c : In-Ok-Restored g) (t : ℕ) → SettledBy g.H.Host.tells c.args.now (start_since t (g.H.Host.told c.args.host.now)) (g.H.Host.told c.take_back.new.host)
restored_settled g c t = inl (restored_taken g c)

pub returns-in-Ok-Nothing-clause-says : goal.returns-in-Ok-Nothing-clause-says
returns-in-Ok-Nothing-clause-says g c =
    let old = g.H.Host.told c.args.host.now in
    said_says g.H.Host.tells (asked c.args.doc.now c.args.opts.now c.args.now) old (g.H.Host.told c.change.new.host) c.change.result
    (c.change.ensures.says (start_of old) (begun g (goal.at.returns-in-Ok-Nothing-clause-says g c).After-take_back c.in-Ok-Nothing.ensures.quiet)
    (nothing_settled g (goal.at.returns-in-Ok-Nothing-clause-says g c).In-Ok-Nothing old.stops.moment)
    (λ is. (nothing_begun g (goal.at.returns-in-Ok-Nothing-clause-says g c).In-Ok-Nothing).same))

pub returns-in-Ok-Restored-clause-says : goal.returns-in-Ok-Restored-clause-says
returns-in-Ok-Restored-clause-says g c =
    let old = g.H.Host.told c.args.host.now in
    said_says g.H.Host.tells (asked c.args.doc.now c.args.opts.now c.args.now) old (g.H.Host.told c.change-in-Ok-Restored.new.host) c.change-in-Ok-Restored.result
    (c.change-in-Ok-Restored.ensures.says (start_of old) (begun g (goal.at.returns-in-Ok-Restored-clause-says g c).After-take_back c.in-Ok-Restored.ensures.quiet)
    (restored_settled g (goal.at.returns-in-Ok-Restored-clause-says g c).In-Ok-Restored old.stops.moment)
    (λ is. absurd (back_begun is)))

pub returns-in-Err-clause-says : goal.returns-in-Err-clause-says
returns-in-Err-clause-says g c =
    let old = g.H.Host.told c.args.host.now in
    let new = g.H.Host.told c.take_back.new.host in
    subst (λ (a : ApplyFault). ApplySays g.H.Host.tells (asked c.args.doc.now c.args.opts.now c.args.now) old new (Err a)) (sym c.unsettled.ensures)
    (unsettled_says g.H.Host.tells (asked c.args.doc.now c.args.opts.now c.args.now) old new (g.met.H.Host.lawful c.args.host.now).stops (g.met.H.Host.lawful c.args.host.now).reads c.in-Err.fault c.in-Err.ensures.fails
    (λ is tells. has_taken c.args.now (cell_of old.state.cell) (c.in-Err.ensures.memory tells (ap (λ e. Err e) is))))

-- ---- what is left where nothing is begun

pub returns-in-Ok-Waiting-clause-unbegun : goal.returns-in-Ok-Waiting-clause-unbegun
returns-in-Ok-Waiting-clause-unbegun g c = c.in-Ok-Waiting.ensures.idle (waiting_kept c.in-Ok-Waiting.deadline c.in-Ok-Waiting.field-0-is)

pub returns-in-Ok-Nothing-clause-unbegun : goal.returns-in-Ok-Nothing-clause-unbegun
returns-in-Ok-Nothing-clause-unbegun g c =
    let first = nothing_begun g (goal.at.returns-in-Ok-Nothing-clause-unbegun g c).In-Ok-Nothing in
    settled_idle g.H.Host.tells c.args.now NotBegun (g.H.Host.told c.args.host.now) (g.H.Host.told c.take_back.new.host) (g.H.Host.told c.change.new.host) c.change.result (λ is. first) (inr first) c.change.ensures.idle

pub returns-in-Ok-Restored-clause-unbegun : goal.returns-in-Ok-Restored-clause-unbegun
returns-in-Ok-Restored-clause-unbegun g c =
    let old = g.H.Host.told c.args.host.now in
    settled_idle g.H.Host.tells c.args.now RolledBack old (g.H.Host.told c.take_back.new.host) (g.H.Host.told c.change-in-Ok-Restored.new.host) c.change-in-Ok-Restored.result (λ is. absurd (back_begun is))
    (inl (restored_taken g (goal.at.returns-in-Ok-Restored-clause-unbegun g c).In-Ok-Restored)) c.change-in-Ok-Restored.ensures.idle

pub returns-in-Err-clause-unbegun : goal.returns-in-Err-clause-unbegun
returns-in-Err-clause-unbegun g c =
    let old = g.H.Host.told c.args.host.now in
    let new = g.H.Host.told c.take_back.new.host in
    subst (λ (a : ApplyFault). ApplyIdle g.H.Host.tells c.args.now old new (Err a)) (sym c.unsettled.ensures) (unsettled_idle g.H.Host.tells c.args.now old new c.in-Err.fault c.in-Err.ensures.fails)

-- ---- what is left where a change waits that isn't due

pub returns-in-Ok-Waiting-clause-waits : goal.returns-in-Ok-Waiting-clause-waits
returns-in-Ok-Waiting-clause-waits g c = λ tells set untaken. c.in-Ok-Waiting.ensures.idle (waiting_kept c.in-Ok-Waiting.deadline c.in-Ok-Waiting.field-0-is)

pub returns-in-Ok-Nothing-clause-waits : goal.returns-in-Ok-Nothing-clause-waits
returns-in-Ok-Nothing-clause-waits g c = λ tells set untaken.
    let none = c.take_back.ensures.nothing tells (c.in-Ok-Nothing.is ∙ ap (λ r. Ok r) c.in-Ok-Nothing.field-0-is) in
    absurd (subst (λ (k : Option Checkpoint). HasSet k) none set)

pub returns-in-Ok-Restored-clause-waits : goal.returns-in-Ok-Restored-clause-waits
returns-in-Ok-Restored-clause-waits g c = λ tells set untaken. absurd (untaken (restored_taken g (goal.at.returns-in-Ok-Restored-clause-waits g c).In-Ok-Restored tells))

pub returns-in-Err-clause-waits : goal.returns-in-Err-clause-waits
returns-in-Err-clause-waits g c = λ tells set untaken.
    let old = g.H.Host.told c.args.host.now in
    let new = g.H.Host.told c.take_back.new.host in
    let is = c.in-Err.ensures.untaken tells (λ t. untaken (has_taken c.args.now (cell_of old.state.cell) t)) in
    (subst (λ (f : BackFault). Fails g.H.Host.tells old new f) is c.in-Err.ensures.fails).1

-- ---- what is left where damage or other devices are told

-- the count of the change alone didn't rise either
calm_behind : (g : _) (c : After-take_back g) (last : ℕ) → (Rose (g.H.Host.told c.args.host.now).faults last → ⊥) → Rose (g.H.Host.told c.take_back.new.host).faults last → ⊥
calm_behind g c last calm rose = calm (rose_after (g.H.Host.told c.args.host.now).faults (g.H.Host.told c.take_back.new.host).faults last c.take_back.ensures.later rose)

pub returns-in-Ok-Nothing-clause-intact : goal.returns-in-Ok-Nothing-clause-intact
returns-in-Ok-Nothing-clause-intact g c = λ honest calm.
    let at = goal.at.returns-in-Ok-Nothing-clause-intact g c in
    let new = g.H.Host.told c.change.new.host in
    settled_intact g.H.Host.tells (g.H.Host.told c.args.host.now) (g.H.Host.told c.take_back.new.host) new c.change.result (nothing_begun g at.In-Ok-Nothing) (c.change.ensures.intact honest (calm_behind g at.After-take_back new.faults calm))

pub returns-in-Ok-Restored-clause-intact : goal.returns-in-Ok-Restored-clause-intact
returns-in-Ok-Restored-clause-intact g c = λ honest calm.
    let at = goal.at.returns-in-Ok-Restored-clause-intact g c in
    let tells = g.met.H.Host.honest_tells honest in
    let old = g.H.Host.told c.args.host.now in
    let new = g.H.Host.told c.change-in-Ok-Restored.new.host in
    let restored = c.in-Ok-Restored.is ∙ ap (λ r. Ok r) c.in-Ok-Restored.field-0-is in
    let t = c.take_back.ensures.restored tells restored in
    let found : Finds {A = Recovered} (saved_on t.checkpoint.net old.state.net) (Ok Restored) = subst (λ (r : Result Recovered BackFault). Finds (saved_on t.checkpoint.net old.state.net) r) restored (c.take_back.ensures.exact honest t) in
    let has = found_saved t.checkpoint.net old.state.net found.0 found.1 in
    restored_intact g.H.Host.tells old (g.H.Host.told c.take_back.new.host) new found.0 (ap (λ (x : Standing). x.net) (c.take_back.ensures.restored_reads honest t found.0 has restored)) c.change-in-Ok-Restored.result
    (c.change-in-Ok-Restored.ensures.intact honest (calm_behind g at.After-take_back new.faults calm))

pub returns-in-Err-clause-intact : goal.returns-in-Err-clause-intact
returns-in-Err-clause-intact g c = λ honest calm.
    let old = g.H.Host.told c.args.host.now in
    let new = g.H.Host.told c.take_back.new.host in
    subst (λ (a : ApplyFault). ApplyIntact g.H.Host.tells old new (Err a)) (sym c.unsettled.ensures) (unsettled_intact g.H.Host.tells old new c.in-Err.fault c.in-Err.ensures.fails)

-- ---- what every host counts

pub returns-in-Ok-Waiting-clause-counts : goal.returns-in-Ok-Waiting-clause-counts
returns-in-Ok-Waiting-clause-counts g c = (c.in-Ok-Waiting.ensures.idle (waiting_kept c.in-Ok-Waiting.deadline c.in-Ok-Waiting.field-0-is)).unmade

pub returns-in-Ok-Nothing-clause-counts : goal.returns-in-Ok-Nothing-clause-counts
returns-in-Ok-Nothing-clause-counts g c =
    let old = g.H.Host.told c.args.host.now in
    c.change.ensures.counts (start_of old) (begun g (goal.at.returns-in-Ok-Nothing-clause-counts g c).After-take_back c.in-Ok-Nothing.ensures.quiet)
    (λ is. (nothing_begun g (goal.at.returns-in-Ok-Nothing-clause-counts g c).In-Ok-Nothing).unmade)

pub returns-in-Ok-Restored-clause-counts : goal.returns-in-Ok-Restored-clause-counts
returns-in-Ok-Restored-clause-counts g c =
    let old = g.H.Host.told c.args.host.now in
    c.change-in-Ok-Restored.ensures.counts (start_of old) (begun g (goal.at.returns-in-Ok-Restored-clause-counts g c).After-take_back c.in-Ok-Restored.ensures.quiet) (λ is. absurd (back_begun is))

pub returns-in-Err-clause-counts : goal.returns-in-Err-clause-counts
returns-in-Err-clause-counts g c =
    let old = g.H.Host.told c.args.host.now in
    let new = g.H.Host.told c.take_back.new.host in
    subst (λ (a : ApplyFault). ApplyCounts old.kernel new.kernel (Err a)) (sym c.unsettled.ensures) (unsettled_counts g.H.Host.tells old new c.in-Err.fault c.in-Err.ensures.fails)

-- ---- what isn't touched

pub returns-in-Ok-Nothing-clause-calm : goal.returns-in-Ok-Nothing-clause-calm
returns-in-Ok-Nothing-clause-calm g c = λ honest t le from to is merges calm.
    let tells = g.met.H.Host.honest_tells honest in
    let old = g.H.Host.told c.args.host.now in
    let mid = g.H.Host.told c.take_back.new.host in
    let idle = nothing_begun g (goal.at.returns-in-Ok-Nothing-clause-calm g c).In-Ok-Nothing in
    let net : old.state.net ≡ Some from = ap (λ (x : Standing). x.net) is in
    c.change.ensures.calm honest t (omega (arith, le, c.take_back.ensures.moves.later)) from to (ap (λ (s : State). s.net) (idle.same tells) ∙ net) merges
    (calm_stays from to t old mid (g.met.H.Host.lawful c.args.host.now).stops le calm idle.stops)

pub returns-in-Ok-Restored-clause-calm : goal.returns-in-Ok-Restored-clause-calm
returns-in-Ok-Restored-clause-calm g c = λ honest t le from to is merges calm.
    let taken = c.take_back.ensures.restored (g.met.H.Host.honest_tells honest) (c.in-Ok-Restored.is ∙ ap (λ r. Ok r) c.in-Ok-Restored.field-0-is) in
    let e : None ≡ Some taken.checkpoint = sym (ap (λ (x : Standing). x.cell) is) ∙ taken.is in
    absurd (cc)

-- ---- what is damaged, of an earlier moment, too

since_then : (g : _) (c : After-take_back g) (t : ℕ) → t ≤ (g.H.Host.told c.args.host.now).stops.moment → NoneRefused (g.H.Host.told c.args.host.now).kernel (g.H.Host.told c.take_back.new.host).kernel
    → Follows (start_since t (g.H.Host.told c.args.host.now)) (g.H.Host.told c.take_back.new.host)
since_then g c t le quiet = record { faults = c.take_back.ensures.later; moment = omega (arith, le, c.take_back.ensures.moves.later); quiet = quiet }

pub returns-in-Ok-Nothing-clause-damaged : goal.returns-in-Ok-Nothing-clause-damaged
returns-in-Ok-Nothing-clause-damaged g c = λ tells t le area is.
    let start = start_since t (g.H.Host.told c.args.host.now) in
    said_damaged g.H.Host.tells (asked c.args.doc.now c.args.opts.now c.args.now) start (g.H.Host.told c.change.new.host) c.change.result area is
    (c.change.ensures.says start (since_then g (goal.at.returns-in-Ok-Nothing-clause-damaged g c).After-take_back t le c.in-Ok-Nothing.ensures.quiet)
    (nothing_settled g (goal.at.returns-in-Ok-Nothing-clause-damaged g c).In-Ok-Nothing t)
    (λ same. (nothing_begun g (goal.at.returns-in-Ok-Nothing-clause-damaged g c).In-Ok-Nothing).same)) tells

pub returns-in-Ok-Restored-clause-damaged : goal.returns-in-Ok-Restored-clause-damaged
returns-in-Ok-Restored-clause-damaged g c = λ tells t le area is.
    let start = start_since t (g.H.Host.told c.args.host.now) in
    said_damaged g.H.Host.tells (asked c.args.doc.now c.args.opts.now c.args.now) start (g.H.Host.told c.change-in-Ok-Restored.new.host) c.change-in-Ok-Restored.result area is
    (c.change-in-Ok-Restored.ensures.says start (since_then g (goal.at.returns-in-Ok-Restored-clause-damaged g c).After-take_back t le c.in-Ok-Restored.ensures.quiet)
    (restored_settled g (goal.at.returns-in-Ok-Restored-clause-damaged g c).In-Ok-Restored t)
    (λ same. absurd (back_begun same))) tells

pub returns-in-Err-clause-damaged : goal.returns-in-Err-clause-damaged
returns-in-Err-clause-damaged g c = λ tells t le area is.
    unsettled_damaged g.H.Host.tells tells t area (g.H.Host.told c.args.host.now) (g.H.Host.told c.take_back.new.host) (g.met.H.Host.lawful c.args.host.now).stops ((g.met.H.Host.lawful c.args.host.now).reads tells) le
    c.unsettled.result c.in-Err.fault c.unsettled.ensures is c.in-Err.ensures.fails

-- ---- on an honest host, sound or not

pub returns-in-Ok-Waiting-clause-exact : goal.returns-in-Ok-Waiting-clause-exact
returns-in-Ok-Waiting-clause-exact g c = λ honest.
    let is = c.in-Ok-Waiting.is ∙ ap (λ r. Ok r) c.in-Ok-Waiting.field-0-is in
    waits_says g.H.Host.tells (asked c.args.doc.now c.args.opts.now c.args.now) (g.H.Host.told c.args.host.now) (g.H.Host.told c.take_back.new.host) c.in-Ok-Waiting.deadline
    (λ tells. c.take_back.ensures.waiting tells c.in-Ok-Waiting.deadline is) (c.in-Ok-Waiting.ensures.idle (waiting_kept c.in-Ok-Waiting.deadline c.in-Ok-Waiting.field-0-is)).same (g.met.H.Host.honest_tells honest)

pub returns-in-Ok-Nothing-clause-exact : goal.returns-in-Ok-Nothing-clause-exact
returns-in-Ok-Nothing-clause-exact g c = λ honest.
    let tells = g.met.H.Host.honest_tells honest in
    let a = asked c.args.doc.now c.args.opts.now c.args.now in
    let old = g.H.Host.told c.args.host.now in
    let mid = g.H.Host.told c.take_back.new.host in
    let nothing = c.in-Ok-Nothing.is ∙ ap (λ r. Ok r) c.in-Ok-Nothing.field-0-is in
    exact_from (change a (standing mid.state) mid.state.net) (apply a (standing old.state)) (nothing_is a old.state mid.state (c.take_back.ensures.nothing tells nothing) ((nothing_begun g (goal.at.returns-in-Ok-Nothing-clause-exact g c).In-Ok-Nothing).same tells))
    old.faults mid.faults (g.H.Host.told c.change.new.host) c.take_back.ensures.later c.change.result (c.change.ensures.exact honest)

pub returns-in-Ok-Restored-clause-exact : goal.returns-in-Ok-Restored-clause-exact
returns-in-Ok-Restored-clause-exact g c = λ honest.
    let tells = g.met.H.Host.honest_tells honest in
    let a = asked c.args.doc.now c.args.opts.now c.args.now in
    let old = g.H.Host.told c.args.host.now in
    let mid = g.H.Host.told c.take_back.new.host in
    let restored = c.in-Ok-Restored.is ∙ ap (λ r. Ok r) c.in-Ok-Restored.field-0-is in
    let t = c.take_back.ensures.restored tells restored in
    let found : Finds {A = Recovered} (saved_on t.checkpoint.net old.state.net) (Ok Restored) = subst (λ (r : Result Recovered BackFault). Finds (saved_on t.checkpoint.net old.state.net) r) restored (c.take_back.ensures.exact honest t) in
    let has = found_saved t.checkpoint.net old.state.net found.0 found.1 in
    exact_from (change a (standing mid.state) mid.state.net) (apply a (standing old.state)) (restored_is a old.state mid.state t found.0 found.1 (c.take_back.ensures.restored_reads honest t found.0 has restored))
    old.faults mid.faults (g.H.Host.told c.change-in-Ok-Restored.new.host) c.take_back.ensures.later c.change-in-Ok-Restored.result (c.change-in-Ok-Restored.ensures.exact honest)

pub returns-in-Err-clause-exact : goal.returns-in-Err-clause-exact
returns-in-Err-clause-exact g c = λ honest.
    let tells = g.met.H.Host.honest_tells honest in
    let a = asked c.args.doc.now c.args.opts.now c.args.now in
    let old = g.H.Host.told c.args.host.now in
    let new = g.H.Host.told c.take_back.new.host in
    subst (λ (f : ApplyFault). ApplyExact (Rose old.faults new.faults) (apply a (standing old.state)) new (Err f)) (sym c.unsettled.ensures)
    (unsettled_exact a old.state g.H.Host.tells tells old new refl c.in-Err.fault c.in-Err.ensures.fails
    (recover_exact c.args.now old.state (cell_of old.state.cell) refl Recovered c.in-Err.fault (λ t. c.in-Err.ensures.exact honest t) (c.in-Err.ensures.untaken tells)))

-- ---- what was tried, dumped and taken back

abbrev Taken : (g : _) (c : After-take_back g) → Type 0
Taken g c = g.H.Host.tells → HasTaken c.args.now (standing (g.H.Host.told c.args.host.now).state).cell

pub returns-in-Ok-Nothing-clause-tries : goal.returns-in-Ok-Nothing-clause-tries
returns-in-Ok-Nothing-clause-tries g c =
    let old = g.H.Host.told c.args.host.now in
    let at = (goal.at.returns-in-Ok-Nothing-clause-tries g c).After-take_back in
    tries_more (Taken g at) (c.args.opts.now.no_verify ≡ false) old.faults old.kernel.refusals (g.H.Host.told c.change.new.host) c.change.result
    (c.change.ensures.tries (start_of old) (begun g at c.in-Ok-Nothing.ensures.quiet))

pub returns-in-Ok-Restored-clause-tries : goal.returns-in-Ok-Restored-clause-tries
returns-in-Ok-Restored-clause-tries g c =
    let old = g.H.Host.told c.args.host.now in
    let at = (goal.at.returns-in-Ok-Restored-clause-tries g c).After-take_back in
    tries_more (Taken g at) (c.args.opts.now.no_verify ≡ false) old.faults old.kernel.refusals (g.H.Host.told c.change-in-Ok-Restored.new.host) c.change-in-Ok-Restored.result
    (c.change-in-Ok-Restored.ensures.tries (start_of old) (begun g at c.in-Ok-Restored.ensures.quiet))

pub returns-in-Err-clause-tries : goal.returns-in-Err-clause-tries
returns-in-Err-clause-tries g c =
    let old = g.H.Host.told c.args.host.now in
    let new = g.H.Host.told c.take_back.new.host in
    let taken = Taken g (goal.at.returns-in-Err-clause-tries g c).After-take_back in
    subst (λ (a : ApplyFault). Tries (taken ⊎ (c.args.opts.now.no_verify ≡ false)) old.faults old.kernel.refusals new (Err a)) (sym c.unsettled.ensures)
    (unsettled_tries taken (c.args.opts.now.no_verify ≡ false) old.faults old.kernel.refusals new c.in-Err.fault
    (λ is tells. has_taken c.args.now (cell_of old.state.cell) (c.in-Err.ensures.pending tells (ap (λ e. Err e) is))) (λ k n left is tells. has_taken c.args.now (cell_of old.state.cell) (c.in-Err.ensures.unaccepted tells k n left (ap (λ e. Err e) is))))

pub returns-in-Ok-Nothing-clause-twice : goal.returns-in-Ok-Nothing-clause-twice
returns-in-Ok-Nothing-clause-twice g c = λ honest.
    let old = g.H.Host.told c.args.host.now in
    twice_before (HasTaken c.args.now (standing old.state).cell) old.faults (g.H.Host.told c.take_back.new.host).faults (g.H.Host.told c.change.new.host) c.change.result c.take_back.ensures.later (c.change.ensures.twice honest)

pub returns-in-Ok-Restored-clause-twice : goal.returns-in-Ok-Restored-clause-twice
returns-in-Ok-Restored-clause-twice g c = λ honest.
    let old = g.H.Host.told c.args.host.now in
    twice_before (HasTaken c.args.now (standing old.state).cell) old.faults (g.H.Host.told c.take_back.new.host).faults (g.H.Host.told c.change-in-Ok-Restored.new.host) c.change-in-Ok-Restored.result c.take_back.ensures.later
    (c.change-in-Ok-Restored.ensures.twice honest)

pub returns-in-Err-clause-twice : goal.returns-in-Err-clause-twice
returns-in-Err-clause-twice g c = λ honest.
    let old = g.H.Host.told c.args.host.now in
    let new = g.H.Host.told c.take_back.new.host in
    let taken = HasTaken c.args.now (standing old.state).cell in
    subst (λ (a : ApplyFault). FailsTwice taken old.faults new (Err a)) (sym c.unsettled.ensures)
    (unsettled_twice taken old.faults new c.in-Err.fault (λ is. has_taken c.args.now (cell_of old.state.cell) (c.in-Err.ensures.pending (g.met.H.Host.honest_tells honest) (ap (λ e. Err e) is))))

pub returns-in-Err-clause-dumps : goal.returns-in-Err-clause-dumps
returns-in-Err-clause-dumps g c =
    let new = g.H.Host.told c.take_back.new.host in
    subst (λ (a : ApplyFault). Dumps g.H.Host.tells c.args.opts.now.no_verify new (Err a)) (sym c.unsettled.ensures) (unsettled_dumps g.H.Host.tells c.args.opts.now.no_verify new c.in-Err.fault)

pub returns-in-Ok-Nothing-clause-backs : goal.returns-in-Ok-Nothing-clause-backs
returns-in-Ok-Nothing-clause-backs g c = λ honest.
    let tells = g.met.H.Host.honest_tells honest in
    let old = g.H.Host.told c.args.host.now in
    let nothing = c.in-Ok-Nothing.is ∙ ap (λ r. Ok r) c.in-Ok-Nothing.field-0-is in
    let net = ap (λ (s : State). s.net) ((nothing_begun g (goal.at.returns-in-Ok-Nothing-clause-backs g c).In-Ok-Nothing).same tells) ∙ sym (nothing_after (asked c.args.doc.now c.args.opts.now c.args.now) old.state (c.take_back.ensures.nothing tells nothing)) in
    subst (λ (n : Option NetData). Backs n (g.H.Host.told c.change.new.host) c.change.result) net (c.change.ensures.backs honest)

pub returns-in-Ok-Restored-clause-backs : goal.returns-in-Ok-Restored-clause-backs
returns-in-Ok-Restored-clause-backs g c = λ honest.
    let tells = g.met.H.Host.honest_tells honest in
    let a = asked c.args.doc.now c.args.opts.now c.args.now in
    let old = g.H.Host.told c.args.host.now in
    let restored = c.in-Ok-Restored.is ∙ ap (λ r. Ok r) c.in-Ok-Restored.field-0-is in
    let t = c.take_back.ensures.restored tells restored in
    let found : Finds {A = Recovered} (saved_on t.checkpoint.net old.state.net) (Ok Restored) = subst (λ (r : Result Recovered BackFault). Finds (saved_on t.checkpoint.net old.state.net) r) restored (c.take_back.ensures.exact honest t) in
    let has = found_saved t.checkpoint.net old.state.net found.0 found.1 in
    let net = ap (λ (x : Standing). x.net) (c.take_back.ensures.restored_reads honest t found.0 has restored ∙ sym (restored_after a old.state t found.0 found.1)) in
    subst (λ (n : Option NetData). Backs n (g.H.Host.told c.change-in-Ok-Restored.new.host) c.change-in-Ok-Restored.result) net (c.change-in-Ok-Restored.ensures.backs honest)

pub returns-in-Err-clause-backs : goal.returns-in-Err-clause-backs
returns-in-Err-clause-backs g c = λ honest.
    let before = (recover c.args.now (standing (g.H.Host.told c.args.host.now).state)).after.net in
    subst (λ (a : ApplyFault). Backs before (g.H.Host.told c.take_back.new.host) (Err a)) (sym c.unsettled.ensures)
    (unsettled_backs g.H.Host.tells before (g.H.Host.told c.args.host.now) (g.H.Host.told c.take_back.new.host) c.in-Err.fault c.in-Err.ensures.fails)

-- ---- a change is left to wait only once it is compared

pub returns-in-Ok-Waiting-clause-seen : goal.returns-in-Ok-Waiting-clause-seen
returns-in-Ok-Waiting-clause-seen g c = λ honest sound is s left waits. inl (c.take_back.ensures.waits (g.met.H.Host.honest_tells honest) s left waits)

pub returns-in-Err-clause-seen : goal.returns-in-Err-clause-seen
returns-in-Err-clause-seen g c = λ honest sound is s left waits. inl (c.take_back.ensures.waits (g.met.H.Host.honest_tells honest) s left waits)

pub returns-in-Ok-Nothing-clause-seen : goal.returns-in-Ok-Nothing-clause-seen
returns-in-Ok-Nothing-clause-seen g c = λ honest sound.
    let tells = g.met.H.Host.honest_tells honest in
    let old = g.H.Host.told c.args.host.now in
    let mid = g.H.Host.told c.take_back.new.host in
    let here = (g.met.H.Host.lawful c.take_back.new.host).reads tells in
    let ends = c.in-Ok-Nothing.ensures.ends honest sound in
    compared_from c.args.doc.now c.args.opts.now c.args.now old mid (g.H.Host.told c.change.new.host) (sound.fit old.state ((g.met.H.Host.lawful c.args.host.now).reads tells)) here ends
    (c.change.ensures.seen honest (c.take_back.ensures.kept honest sound).sound (now_ends ends.0 mid here ends.2))

pub returns-in-Ok-Restored-clause-seen : goal.returns-in-Ok-Restored-clause-seen
returns-in-Ok-Restored-clause-seen g c = λ honest sound.
    let tells = g.met.H.Host.honest_tells honest in
    let old = g.H.Host.told c.args.host.now in
    let mid = g.H.Host.told c.take_back.new.host in
    let here = (g.met.H.Host.lawful c.take_back.new.host).reads tells in
    let ends = c.in-Ok-Restored.ensures.ends honest sound in
    compared_from c.args.doc.now c.args.opts.now c.args.now old mid (g.H.Host.told c.change-in-Ok-Restored.new.host) (sound.fit old.state ((g.met.H.Host.lawful c.args.host.now).reads tells)) here ends
    (c.change-in-Ok-Restored.ensures.seen honest (c.take_back.ensures.kept honest sound).sound (now_ends ends.0 mid here ends.2))

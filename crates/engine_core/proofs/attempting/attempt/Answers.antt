use Rattle.std.proofs.lemmas.Result.{on_ok_weaker}
use Rattle.engine_core.proofs.Calms.{calm_on}
use Rattle.std.proofs.Common.{arith, inl, refl}
use Rattle.engine_model.specs.Stations.{Only}
use Rattle.checkpoint_cell.specs.Settled.{restored_to}
use Rattle.engine_core.specs.Attempts.{IsOnWay}
use Rattle.checkpoint_cell.specs.Cell.{applying}
use Rattle.checkpoint_cell.proofs.lemmas.Saved.{saved_is}
use Rattle.engine_model.proofs.lemmas.Refusals.{quiet_on}
use Rattle.engine_core.proofs.Says.{follows_on}
use Rattle.engine_model.proofs.lemmas.Leading.{kept_on, kept_wider, near_kept, near_ends, kept_stays}
use Rattle.engine_core.proofs.Tries.{fresh_on, ok_any, err_any}
use Rattle.engine_core.proofs.attempting.attempt.Goals as goal

pub returns-in-Err-clause-kept : goal.returns-in-Err-clause-kept
returns-in-Err-clause-kept g c = λ honest sound ends is runs.
    let from = c.args.from.now in
    kept_wider (Only (restored_to from)) (IsOnWay c.args.opts.now.no_commit c.args.made c.args.deadline from c.args.to.now) (λ a same. inl same) (g.H.Host.told c.args.host.now) (g.H.Host.told c.begin.new.host) (c.begin.ensures.kept honest sound ends)

pub returns-in-Err-clause-memory : goal.returns-in-Err-clause-memory
returns-in-Err-clause-memory g c = λ honest sound ends is runs memory.
    near_kept (Only (restored_to c.args.from.now)) (g.H.Host.told c.args.host.now) (g.H.Host.told c.begin.new.host) (near_ends (Only (restored_to c.args.from.now)) (restored_to c.args.from.now) (g.H.Host.told c.args.host.now) refl ends) (c.begin.ensures.kept honest sound ends)

pub seal-requires : goal.seal-requires
seal-requires g c = λ tells. (c.args.made, c.args.deadline, c.args.from.now, c.in-Ok.ensures.set tells)

pub returns-clause-kept : goal.returns-clause-kept
returns-clause-kept g c = λ honest sound ends is runs.
    let tells = g.met.H.Host.honest_tells honest in
    let old = g.H.Host.told c.args.host.now in
    let mid = g.H.Host.told c.begin.new.host in
    let from = c.args.from.now in
    let first = c.begin.ensures.kept honest sound ends in
    kept_on (IsOnWay c.args.opts.now.no_commit c.args.made c.args.deadline from c.args.to.now) old mid _
    (kept_wider (Only (restored_to from)) (IsOnWay c.args.opts.now.no_commit c.args.made c.args.deadline from c.args.to.now) (λ a same. inl same) old mid first)
    (c.seal.ensures.kept honest first.sound c.args.made c.args.deadline from (c.in-Ok.ensures.set tells) (c.in-Ok.ensures.reached honest c.args.to.now is runs).1)

pub returns-clause-memory : goal.returns-clause-memory
returns-clause-memory g c = λ honest sound ends is runs memory.
    let old = g.H.Host.told c.args.host.now in
    let mid = g.H.Host.told c.begin.new.host in
    let new = g.H.Host.told c.seal.new.host in
    let first = c.begin.ensures.kept honest sound ends in
    let near = near_kept (Only (restored_to c.args.from.now)) old mid (near_ends (Only (restored_to c.args.from.now)) (restored_to c.args.from.now) old refl ends) first in
    near_kept (Only (restored_to c.args.from.now)) mid new near (kept_stays (Only (restored_to c.args.from.now)) mid new first.sound (c.seal.ensures.memory memory))

pub returns-clause-says : goal.returns-clause-says
returns-clause-says g c = λ doc start follows calls merges.
    let old = g.H.Host.told c.args.host.now in
    let mid = g.H.Host.told c.begin.new.host in
    c.seal.ensures.says doc start c.args.from.now (follows_on start old mid follows c.begin.ensures.later c.begin.ensures.moment c.in-Ok.ensures.quiet) merges
    (λ tells. saved_is (applying c.args.made c.args.deadline c.args.from.now) mid.state.cell (c.in-Ok.ensures.set tells).cell)

pub returns-clause-quiet : goal.returns-clause-quiet
returns-clause-quiet g c =
    on_ok_weaker c.seal.result (λ quiet. quiet_on (g.H.Host.told c.args.host.now).kernel (g.H.Host.told c.begin.new.host).kernel (g.H.Host.told c.seal.new.host).kernel c.in-Ok.ensures.quiet quiet) c.seal.ensures.quiet

pub returns-clause-calm : goal.returns-clause-calm
returns-clause-calm g c = λ honest t le is plan calm.
    let mid = g.H.Host.told c.begin.new.host in
    let new = g.H.Host.told c.seal.new.host in
    let here = c.in-Ok.ensures.calm honest c.args.to.now t le is plan calm in
    on_ok_weaker c.seal.result (λ steps. calm_on c.args.from.now c.args.to.now t mid new (g.met.H.Host.lawful c.begin.new.host).stops (omega (arith, le, c.begin.ensures.moment)) here steps) c.seal.ensures.nets

-- ---- what is dumped, and what stands where it fails

pub returns-clause-fresh : goal.returns-clause-fresh
returns-clause-fresh g c = λ tells.
    on_ok_weaker c.seal.result (λ fresh skipped. fresh_on (g.H.Host.told c.args.host.now).fresh (g.H.Host.told c.begin.new.host).fresh (g.H.Host.told c.seal.new.host).fresh (c.in-Ok.ensures.fresh tells) (fresh skipped)) (ok_any c.seal.result (c.seal.ensures.fresh tells))

pub returns-clause-unset : goal.returns-clause-unset
returns-clause-unset g c = λ tells. err_any c.seal.result (λ none. absurd (c.seal.ensures.stands tells none))

-- ---- a change is left to wait only once it is compared

pub returns-in-Err-clause-seen : goal.returns-in-Err-clause-seen
returns-in-Err-clause-seen g c = λ honest sound ends is s left waits. absurd (c.begin.ensures.unmarked honest sound ends s left waits)

pub returns-clause-seen : goal.returns-clause-seen
returns-clause-seen g c = λ honest sound ends is. c.seal.ensures.seen honest (c.begin.ensures.unmarked honest sound ends) is

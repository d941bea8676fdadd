use Rattle.std.proofs.Common.{◌≡◌, ◌∙◌, Some, None, sym, arith, ap}
use Rattle.checkpoint_cell.specs.Cell.{applying, cell_of}
use Rattle.host_core.specs.HostView.{State}
use Rattle.engine_core.specs.Attempts.{IsOnWay}
use Rattle.engine_core.proofs.Calms.{stays_nets}
use Rattle.engine_model.proofs.lemmas.Refusals.{quiet_same, quiet_on}
use Rattle.host_core.proofs.lemmas.Counts.{rose_after}
use Rattle.engine_core.proofs.Says.{open_as}
use Rattle.engine_model.proofs.lemmas.Comparing.{waits_stays, none_on, seen_same}
use Rattle.engine_model.proofs.lemmas.Leading.{kept_stays, kept_on, ends_stays, sound_stays}
use Rattle.engine_model.proofs.lemmas.Restores.{held_stays}
use Rattle.engine_core.proofs.attempting.seal.Goals as goal

pub returns-in-Err-clause-kept : goal.returns-in-Err-clause-kept
returns-in-Err-clause-kept g c = λ honest sound made deadline from holds ends.
    kept_stays (IsOnWay c.args.no_commit made deadline from c.args.to.now) (g.H.Host.told c.args.host.now) (g.H.Host.told c.verify.new.host) sound c.verify.ensures.stops

pub mark-requires : goal.mark-requires
mark-requires g c = λ tells.
    let was = c.requires tells in
    (was.0, was.1, was.2, held_stays _ (g.H.Host.told c.args.host.now) (g.H.Host.told c.verify.new.host) was.3 c.verify.ensures.stops (ap (λ (s : State). s.cell) (c.verify.ensures.state tells)))

pub returns-in-Ok-mark-clause-kept : goal.returns-in-Ok-mark-clause-kept
returns-in-Ok-mark-clause-kept g c = λ honest sound made deadline from holds ends.
    let tells = g.met.H.Host.honest_tells honest in
    let old = g.H.Host.told c.args.host.now in
    let mid = g.H.Host.told c.verify.new.host in
    let there = held_stays _ old mid holds c.verify.ensures.stops (ap (λ (s : State). s.cell) (c.verify.ensures.state tells)) in
    kept_on (IsOnWay c.args.no_commit made deadline from c.args.to.now) old mid _ (kept_stays (IsOnWay c.args.no_commit made deadline from c.args.to.now) old mid sound c.verify.ensures.stops)
    (c.mark.ensures.kept tells (sound_stays old mid sound c.verify.ensures.stops) made deadline from c.args.to.now there (ends_stays _ old mid ends c.verify.ensures.stops))

pub returns-in-Ok-mark-clause-ends : goal.returns-in-Ok-mark-clause-ends
returns-in-Ok-mark-clause-ends g c = λ honest made deadline from holds ends.
    let tells = g.met.H.Host.honest_tells honest in
    let old = g.H.Host.told c.args.host.now in
    let mid = g.H.Host.told c.verify.new.host in
    let there = held_stays _ old mid holds c.verify.ensures.stops (ap (λ (s : State). s.cell) (c.verify.ensures.state tells)) in
    c.in-Ok-mark.ensures.ends tells made deadline from c.args.to.now there (ends_stays _ old mid ends c.verify.ensures.stops)

pub returns-in-Ok-mark-clause-set : goal.returns-in-Ok-mark-clause-set
returns-in-Ok-mark-clause-set g c = λ tells made deadline from holds.
    let old = g.H.Host.told c.args.host.now in
    let mid = g.H.Host.told c.verify.new.host in
    c.in-Ok-mark.ensures.marked tells made deadline from (held_stays _ old mid holds c.verify.ensures.stops (ap (λ (s : State). s.cell) (c.verify.ensures.state tells)))

pub returns-in-Err-mark-clause-kept : goal.returns-in-Err-mark-clause-kept
returns-in-Err-mark-clause-kept g c = λ honest sound made deadline from holds ends.
    let tells = g.met.H.Host.honest_tells honest in
    let old = g.H.Host.told c.args.host.now in
    let mid = g.H.Host.told c.verify.new.host in
    let there = held_stays _ old mid holds c.verify.ensures.stops (ap (λ (s : State). s.cell) (c.verify.ensures.state tells)) in
    kept_on (IsOnWay c.args.no_commit made deadline from c.args.to.now) old mid _ (kept_stays (IsOnWay c.args.no_commit made deadline from c.args.to.now) old mid sound c.verify.ensures.stops)
    (c.mark.ensures.kept tells (sound_stays old mid sound c.verify.ensures.stops) made deadline from c.args.to.now there (ends_stays _ old mid ends c.verify.ensures.stops))

pub returns-in-Err-clause-says : goal.returns-in-Err-clause-says
returns-in-Err-clause-says g c = λ doc start from follows merges saved.
    c.in-Err.ensures.says doc start from follows merges saved (λ tells. let was = c.requires tells in open_as (g.H.Host.told c.args.host.now) was.0 was.1 was.2 was.3.cell)

pub returns-in-Err-mark-clause-says : goal.returns-in-Err-mark-clause-says
returns-in-Err-mark-clause-says g c = λ doc start from follows merges saved.
    let old = g.H.Host.told c.args.host.now in
    let mid = g.H.Host.told c.verify.new.host in
    let new = g.H.Host.told c.mark.new.host in (
      quiet_on start.kernel old.kernel new.kernel follows.quiet (quiet_on old.kernel mid.kernel new.kernel c.verify.ensures.quiet (quiet_same mid.kernel new.kernel c.mark.ensures.kernel.kernel)),
      rose_after start.faults mid.faults new.faults (omega (arith, follows.faults, c.verify.ensures.later)) c.in-Err-mark.ensures.cause.failed,
    )

pub returns-in-Ok-mark-clause-quiet : goal.returns-in-Ok-mark-clause-quiet
returns-in-Ok-mark-clause-quiet g c =
    let old = g.H.Host.told c.args.host.now in
    let mid = g.H.Host.told c.verify.new.host in
    let new = g.H.Host.told c.mark.new.host in
    quiet_on old.kernel mid.kernel new.kernel c.verify.ensures.quiet (quiet_same mid.kernel new.kernel c.mark.ensures.kernel.kernel)

pub returns-in-Ok-mark-clause-nets : goal.returns-in-Ok-mark-clause-nets
returns-in-Ok-mark-clause-nets g c = stays_nets (g.H.Host.told c.args.host.now).stops (g.H.Host.told c.verify.new.host).stops (g.H.Host.told c.mark.new.host).stops c.verify.ensures.stops c.mark.ensures.nets

pub returns-in-Err-clause-stands : goal.returns-in-Err-clause-stands
returns-in-Err-clause-stands g c = λ tells none.
    let was = c.requires tells in
    let e : Some (applying was.0 was.1 was.2) ≡ None = sym was.3.cell ∙ ap (λ (s : State). cell_of s.cell) (sym (c.verify.ensures.state tells)) ∙ none in
    absurd (cc)

-- ---- a change is left to wait only once it is compared

pub returns-in-Err-clause-seen : goal.returns-in-Err-clause-seen
returns-in-Err-clause-seen g c = λ honest none is s left waits.
    let old = g.H.Host.told c.args.host.now in
    let new = g.H.Host.told c.verify.new.host in
    absurd (none_on old new (waits_stays old new c.verify.ensures.stops) none s left waits)

pub returns-in-Ok-mark-clause-seen : goal.returns-in-Ok-mark-clause-seen
returns-in-Ok-mark-clause-seen g c = λ honest none is s left waits.
    seen_same g.H.Host.tells c.args.to.now (g.H.Host.told c.verify.new.host) (g.H.Host.told c.mark.new.host) (g.met.H.Host.honest_tells honest) c.mark.ensures.kernel (c.in-Ok.ensures.checked honest is)

pub returns-in-Err-mark-clause-seen : goal.returns-in-Err-mark-clause-seen
returns-in-Err-mark-clause-seen g c = λ honest none is s left waits.
    seen_same g.H.Host.tells c.args.to.now (g.H.Host.told c.verify.new.host) (g.H.Host.told c.mark.new.host) (g.met.H.Host.honest_tells honest) c.mark.ensures.kernel (c.in-Ok.ensures.checked honest is)

pub returns-in-Ok-mark-clause-checked : goal.returns-in-Ok-mark-clause-checked
returns-in-Ok-mark-clause-checked g c = λ honest is.
    seen_same g.H.Host.tells c.args.to.now (g.H.Host.told c.verify.new.host) (g.H.Host.told c.mark.new.host) (g.met.H.Host.honest_tells honest) c.mark.ensures.kernel (c.in-Ok.ensures.checked honest is)

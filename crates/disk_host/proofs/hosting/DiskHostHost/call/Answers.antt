use Rattle.std.proofs.Common.{refl, ap}
use Rattle.host_core.specs.HostView.{MaybeCalled, SameCell}
use Rattle.host_core.specs.Stops.{Stays}
use Rattle.host_core.proofs.lemmas.Moments.{seen_steps}
use Rattle.disk_host.specs.Slots.{state_of, KeepsCell, AreasCalled}
use Rattle.disk_host.proofs.Keeping.{known_of}
use Rattle.disk_host.proofs.hosting.DiskHostHost.call.Goals as goal

pub returns-in-Err-Refused-clause-counted : goal.returns-in-Err-Refused-clause-counted
returns-in-Err-Refused-clause-counted g c = λ none. absurd (none _ refl)

pub returns-in-Ok-clause-stops_cell : goal.returns-in-Ok-clause-stops_cell
returns-in-Ok-clause-stops_cell g c = seen_steps state_of KeepsCell SameCell _ _ c.change.ensures.stops_cell (λ r s left same. same)

pub returns-in-Err-Refused-clause-stops_cell : goal.returns-in-Err-Refused-clause-stops_cell
returns-in-Err-Refused-clause-stops_cell g c = seen_steps state_of KeepsCell SameCell _ _ c.change.ensures.stops_cell (λ r s left same. same)

pub returns-in-Err-Failed-clause-stops_cell : goal.returns-in-Err-Failed-clause-stops_cell
returns-in-Err-Failed-clause-stops_cell g c = seen_steps state_of KeepsCell SameCell _ _ c.change.ensures.stops_cell (λ r s left same. same)

pub returns-in-Err-Damaged-clause-stops_cell : goal.returns-in-Err-Damaged-clause-stops_cell
returns-in-Err-Damaged-clause-stops_cell g c = seen_steps state_of KeepsCell SameCell _ _ c.change.ensures.stops_cell (λ r s left same. same)

pub returns-in-Err-OutOfMemory-clause-stops_cell : goal.returns-in-Err-OutOfMemory-clause-stops_cell
returns-in-Err-OutOfMemory-clause-stops_cell g c = seen_steps state_of KeepsCell SameCell _ _ c.change.ensures.stops_cell (λ r s left same. same)

pub change-requires-clause-known : goal.change-requires-clause-known
change-requires-clause-known g c = known_of c.args.self.now.kept (g.D.Disk.told c.args.self.now.disk).areas.kernel g.D.Disk.tells c.args.self.now.known

pub returns-in-Ok-clause-stops : goal.returns-in-Ok-clause-stops
returns-in-Ok-clause-stops g c = λ t. seen_steps state_of (AreasCalled c.args.call.now) (MaybeCalled c.args.call.now) _ _ (c.change.ensures.stops t) (λ r s left called. called)

pub returns-in-Err-Failed-clause-stops : goal.returns-in-Err-Failed-clause-stops
returns-in-Err-Failed-clause-stops g c = λ t. seen_steps state_of (AreasCalled c.args.call.now) (MaybeCalled c.args.call.now) _ _ (c.change.ensures.stops t) (λ r s left called. called)

pub returns-in-Ok-clause-maybe : goal.returns-in-Ok-clause-maybe
returns-in-Ok-clause-maybe g c = c.change.ensures.maybe

pub returns-in-Ok-clause-cell : goal.returns-in-Ok-clause-cell
returns-in-Ok-clause-cell g c = λ tells. (c.change.ensures.maybe tells).cell

pub returns-in-Err-Refused-clause-maybe : goal.returns-in-Err-Refused-clause-maybe
returns-in-Err-Refused-clause-maybe g c = c.change.ensures.maybe

pub returns-in-Err-Refused-clause-cell : goal.returns-in-Err-Refused-clause-cell
returns-in-Err-Refused-clause-cell g c = λ tells. (c.change.ensures.maybe tells).cell

pub returns-in-Err-Failed-clause-maybe : goal.returns-in-Err-Failed-clause-maybe
returns-in-Err-Failed-clause-maybe g c = c.change.ensures.maybe

pub returns-in-Err-Failed-clause-cell : goal.returns-in-Err-Failed-clause-cell
returns-in-Err-Failed-clause-cell g c = λ tells. (c.change.ensures.maybe tells).cell

pub returns-in-Err-Damaged-clause-maybe : goal.returns-in-Err-Damaged-clause-maybe
returns-in-Err-Damaged-clause-maybe g c = c.change.ensures.maybe

pub returns-in-Err-Damaged-clause-cell : goal.returns-in-Err-Damaged-clause-cell
returns-in-Err-Damaged-clause-cell g c = λ tells. (c.change.ensures.maybe tells).cell

pub returns-in-Err-OutOfMemory-clause-maybe : goal.returns-in-Err-OutOfMemory-clause-maybe
returns-in-Err-OutOfMemory-clause-maybe g c = c.change.ensures.maybe

pub returns-in-Err-OutOfMemory-clause-cell : goal.returns-in-Err-OutOfMemory-clause-cell
returns-in-Err-OutOfMemory-clause-cell g c = λ tells. (c.change.ensures.maybe tells).cell

pub returns-in-Err-Refused-clause-stops : goal.returns-in-Err-Refused-clause-stops
returns-in-Err-Refused-clause-stops g c = λ t. seen_steps state_of (AreasCalled c.args.call.now) (MaybeCalled c.args.call.now) _ _ (c.change.ensures.stops t) (λ r s left called. called)

pub returns-in-Err-Damaged-clause-stops : goal.returns-in-Err-Damaged-clause-stops
returns-in-Err-Damaged-clause-stops g c = λ t. seen_steps state_of (AreasCalled c.args.call.now) (MaybeCalled c.args.call.now) _ _ (c.change.ensures.stops t) (λ r s left called. called)

pub returns-in-Err-OutOfMemory-clause-stops : goal.returns-in-Err-OutOfMemory-clause-stops
returns-in-Err-OutOfMemory-clause-stops g c = λ t. seen_steps state_of (AreasCalled c.args.call.now) (MaybeCalled c.args.call.now) _ _ (c.change.ensures.stops t) (λ r s left called. called)

pub returns-in-Err-Refused-clause-same : goal.returns-in-Err-Refused-clause-same
returns-in-Err-Refused-clause-same g c =
    let same = c.in-Err-Refused.ensures.same (λ is. absurd (cc)) in
    λ k which. (λ tells. ap state_of (same.0 tells), seen_steps state_of Stays Stays _ _ same.1 (λ r s left is. ap state_of is))

pub returns-in-Err-OutOfMemory-clause-same : goal.returns-in-Err-OutOfMemory-clause-same
returns-in-Err-OutOfMemory-clause-same g c =
    let same = c.in-Err-OutOfMemory.ensures.same (λ is. absurd (cc)) in
    λ k which. (λ tells. ap state_of (same.0 tells), seen_steps state_of Stays Stays _ _ same.1 (λ r s left is. ap state_of is))

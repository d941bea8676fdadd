-- Which changes a stop leaves to wait, from call to call.
use Rattle.std.proofs.Common.{◌≡◌, inl, inr, sym, ap, ◌∙◌, subst, Option, Some}
use Rattle.net_model.specs.NetData.{NetData}
use Rattle.host_core.specs.HostView.{State, HostView, SameKernel, SameCell}
use Rattle.host_core.specs.Stops.{Steps, Stays}
use Rattle.checkpoint_cell.specs.declared.Phase.{Phase}
use Rattle.checkpoint_cell.specs.declared.Phase.TheVariants.{Applying, Waiting}
use Rattle.checkpoint_cell.specs.Cell.{Checkpoint, cell_of}
use Rattle.checkpoint_cell.specs.Settled.{Standing, standing}
use Rattle.checkpoint_cell.specs.Steps.{CellIn, Holds, NoneOr, EitherPhase}
use Rattle.engine_model.specs.Compared.{IsWaiting, NoneWaits, WaitsAsBefore, IsSeen, WaitsSeen}
use Rattle.engine_model.proofs.lemmas.Restores.{in_own_phase}

-- a change that is being made doesn't wait
pub made_waits : (phase : Phase) → phase ≡ Applying → phase ≡ Waiting → ⊥
made_waits phase one two = let e : Applying ≡ Waiting = sym one ∙ two in cc

-- where nothing changes, what waits could be left before
pub waits_stays : (old new : HostView) → Steps Stays old.stops new.stops → WaitsAsBefore old new
waits_stays old new steps = λ s left waits. let from = steps.now s left in (from.0, from.1, ap standing (sym from.2))

-- what reads the same waits as well
pub waits_as : (r s : State) → standing r ≡ standing s → IsWaiting (cell_of s.cell) → IsWaiting (cell_of r.cell)
waits_as r s same waits = subst IsWaiting (ap (λ (p : Standing). p.cell) (sym same)) waits

-- one call after another
pub waits_on : (old mid new : HostView) → WaitsAsBefore old mid → WaitsAsBefore mid new → WaitsAsBefore old new
waits_on old mid new one two = λ s left waits.
    let was = two s left waits in
    let first = one was.0 was.1 (waits_as was.0 s was.2 waits) in (first.0, first.1, first.2 ∙ was.2)

-- where what waits could be left before, none does if none did
pub none_on : (old new : HostView) → WaitsAsBefore old new → NoneWaits old → NoneWaits new
none_on old new before none = λ s left waits. let was = before s left waits in none was.0 was.1 (waits_as was.0 s was.2 waits)

-- and the network was seen, if that is kept
pub seen_on : (net : NetData) (old new : HostView) → WaitsAsBefore old new → WaitsSeen net old → (IsSeen net old → WaitsSeen net new) → WaitsSeen net new
seen_on net old new before seen keeps = λ s left waits. let was = before s left waits in keeps (seen was.0 was.1 (waits_as was.0 s was.2 waits)) s left waits

-- a checkpoint that is held and doesn't wait
pub held_waits : (cell : Option Checkpoint) (host : HostView) → Holds cell host → (IsWaiting cell → ⊥) → NoneWaits host
held_waits cell host holds not = λ s left waits. not (subst IsWaiting (ap cell_of (holds.sure s left) ∙ holds.cell) waits)

-- a call that leaves the checkpoint area alone
pub same_cell_waits : (old new : HostView) → Steps SameCell old.stops new.stops → NoneWaits old → NoneWaits new
same_cell_waits old new steps none = λ s left waits. let from = steps.now s left in none from.0 from.1 (subst IsWaiting (ap cell_of from.2) waits)

-- a clearing, and a putting, of a change that is being made
pub none_or_waits : (checkpoint : Checkpoint) → checkpoint.phase ≡ Applying → (old new : HostView) → Steps (CellIn (NoneOr checkpoint)) old.stops new.stops → NoneWaits new
none_or_waits checkpoint made old new steps = λ s left waits.
    let from = steps.now s left in
    elim from.2.cell as (λ v. ⊥) [
      | inl none ↦ subst IsWaiting none waits
      | inr is ↦ made_waits checkpoint.phase made (subst IsWaiting is waits)
    ]

-- a change that waits is taken up: it waits as before, or is being made
pub taking_waits : (checkpoint : Checkpoint) → checkpoint.phase ≡ Waiting → (old new : HostView) → Holds (Some checkpoint) old → Steps (CellIn (EitherPhase checkpoint)) old.stops new.stops → WaitsAsBefore old new
taking_waits checkpoint was old new holds steps = λ s left waits.
    let from = steps.now s left in
    elim from.2.cell as (λ v. (r : State) × old.stops.may_leave r × (standing r ≡ standing s)) [
      | inl applies ↦ absurd (made_waits Applying (λ i. Applying) (subst IsWaiting applies waits))
      | inr is ↦
          let cell : cell_of from.0.cell ≡ cell_of s.cell = ap cell_of (holds.sure from.0 from.1) ∙ holds.cell ∙ ap (λ (c : Checkpoint). Some c) (sym (in_own_phase Waiting checkpoint was)) ∙ sym is in
          (from.0, from.1, λ i. record { net = sym from.2.net i; cell = cell i })
    ]

-- a call that touches nothing of the kernel
pub seen_same : (tells : Type 0) (net : NetData) (old new : HostView) → tells → SameKernel tells old new → IsSeen net old → IsSeen net new
seen_same tells net old new told same seen = record { fresh = same.fresh told ∙ seen.fresh; stands = same.net told ∙ seen.stands }

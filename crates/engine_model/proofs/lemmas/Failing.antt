-- Faults of restorings, over two steps, and what follows of each.
use Rattle.std.proofs.Common.{◌≡◌, ◌⊎◌, ◌≤◌, ◌∙◌, inl, inr, ℕ, sym, subst, Err}
use Rattle.host_core.specs.Faults.{Rose}
use Rattle.host_core.specs.HostView.{State, HostView, WasRefused, NoneRefused, Untouched}
use Rattle.host_core.proofs.lemmas.Counts.{rose_after}
use Rattle.engine_model.specs.Refusals.{NoCallMade, FewRefused, BackCounts}
use Rattle.engine_model.specs.Answers.{IsBefore}
use Rattle.checkpoint_cell.specs.Cell.{cell_of}
use Rattle.engine_model.specs.Faults.{IsDamaged, HasOpen, StillOpen}
use Rattle.engine_model.specs.Failing.{IsUnbegun, Fails}
use Rattle.engine_model.specs.declared.answers.Left.{Left}
use Rattle.engine_model.specs.declared.answers.Left.TheVariants.{NotBegun, RolledBack, Pending}
use Rattle.engine_model.specs.declared.answers.BackFault.{BackFault}
use Rattle.engine_model.specs.declared.answers.BackFault.TheVariants.{NoCheckpoint, HostFault, KernelRefused, Damaged, HardwareDiffers, OutOfMemory}
use Rattle.engine_model.proofs.lemmas.Leading.{both, same_state}
use Rattle.engine_model.proofs.lemmas.Refusals.{quiet_on, unmade_quiet, unmade_on, refused_after, once_after}

-- a look begins nothing
pub looked : (tells : Type 0) (a b : HostView) → Untouched tells a b → IsUnbegun tells a b
looked tells a b same = record { stops = same.stops; same = same_state tells a b same; unmade = inl same.kernel.kernel }

-- nothing was begun, and then again nothing
pub unbegun_on : (tells : Type 0) (a b c : HostView) → IsUnbegun tells a b → IsUnbegun tells b c → IsUnbegun tells a c
unbegun_on tells a b c one two = record {
  stops = both a.stops b.stops c.stops one.stops two.stops;
  same = λ told. two.same told ∙ one.same told;
  unmade = unmade_on a.kernel b.kernel c.kernel one.unmade two.unmade;
}

-- no call was refused then
pub unbegun_quiet : (tells : Type 0) (a b : HostView) → IsUnbegun tells a b → NoneRefused a.kernel b.kernel
unbegun_quiet tells a b one = unmade_quiet a.kernel b.kernel one.unmade

-- a change that is being made still is where the host reads as before
pub open_same : (a b : HostView) → b.state ≡ a.state → HasOpen (cell_of a.state.cell) → HasOpen (cell_of b.state.cell)
open_same a b same stands = subst (λ (s : State). HasOpen (cell_of s.cell)) (sym same) stands

pub open_on : (a b : HostView) → (b.state ≡ a.state) ⊎ HasOpen (cell_of b.state.cell) → HasOpen (cell_of a.state.cell) → HasOpen (cell_of b.state.cell)
open_on a b (inl same) stands = open_same a b same stands
open_on a b (inr still) stands = still

wants_after : (a b c : HostView) → b.state ≡ a.state → (c.state ≡ b.state) ⊎ HasOpen (cell_of c.state.cell) → (c.state ≡ a.state) ⊎ HasOpen (cell_of c.state.cell)
wants_after a b c same (inl is) = inl (is ∙ same)
wants_after a b c same (inr stands) = inr stands

module _ (tells : Type 0) (a b c : HostView) (later : a.faults ≤ b.faults) where
  refused_on : (k n : ℕ) → NoneRefused a.kernel b.kernel → WasRefused k n b.kernel c.kernel → WasRefused k n a.kernel c.kernel
  refused_on k n one two = refused_after k n a.kernel b.kernel c.kernel one two

  -- a fault of a restoring before which nothing was begun
  pub fails_after : IsUnbegun tells a b → (fault : BackFault) → Fails tells b c fault → Fails tells a c fault
  fails_after one NoCheckpoint f = absurd f
  fails_after one (HostFault NotBegun) f = (rose_after a.faults b.faults c.faults later f.0, unbegun_on tells a b c one f.1)
  fails_after one (HostFault RolledBack) f = absurd f
  fails_after one (HostFault Pending) f = (rose_after a.faults b.faults c.faults later f.0, quiet_on a.kernel b.kernel c.kernel (unbegun_quiet tells a b one) f.1)
  fails_after one (KernelRefused k n left) f = (f.0, refused_on k n (unbegun_quiet tells a b one) f.1, once_after a.kernel b.kernel c.kernel (unbegun_quiet tells a b one) f.2, f.3)
  fails_after one (Damaged area) f = (unbegun_on tells a b c one f.0, λ told. subst (λ (s : State). IsDamaged area s) (one.same told) (f.1 told))
  fails_after one (HardwareDiffers names) f = (unbegun_on tells a b c one f.0, f.1)
  fails_after one OutOfMemory f = (quiet_on a.kernel b.kernel c.kernel (unbegun_quiet tells a b one) f.0, λ told. wants_after a b c (one.same told) (f.1 told))

  -- one that tells that something was begun, before which the change was taken up and no call was made
  pub fails_late : NoCallMade a.kernel b.kernel → StillOpen tells b → (fault : BackFault) → (IsBefore fault → ⊥) → Fails tells b c fault → Fails tells a c fault
  fails_late one stands NoCheckpoint begun f = absurd f
  fails_late one stands (HostFault NotBegun) begun f = absurd (begun tt)
  fails_late one stands (HostFault RolledBack) begun f = absurd f
  fails_late one stands (HostFault Pending) begun f = (rose_after a.faults b.faults c.faults later f.0, quiet_on a.kernel b.kernel c.kernel (unmade_quiet a.kernel b.kernel one) f.1)
  fails_late one stands (KernelRefused k n left) begun f = (f.0, refused_on k n (unmade_quiet a.kernel b.kernel one) f.1, once_after a.kernel b.kernel c.kernel (unmade_quiet a.kernel b.kernel one) f.2, f.3)
  fails_late one stands (Damaged area) begun f = absurd (begun tt)
  fails_late one stands (HardwareDiffers names) begun f = absurd (begun tt)
  fails_late one stands OutOfMemory begun f = (quiet_on a.kernel b.kernel c.kernel (unmade_quiet a.kernel b.kernel one) f.0, λ told. inr (open_on b c (f.1 told) (stands told)))

module _ (tells : Type 0) (a b : HostView) where
  -- nothing was begun where the fault says so
  pub fails_before : (fault : BackFault) → Fails tells a b fault → IsBefore fault → IsUnbegun tells a b
  fails_before NoCheckpoint f before = absurd f
  fails_before (HostFault NotBegun) f before = f.1
  fails_before (HostFault RolledBack) f before = absurd f
  fails_before (HostFault Pending) f before = absurd before
  fails_before (KernelRefused k n left) f before = absurd before
  fails_before (Damaged area) f before = f.0
  fails_before (HardwareDiffers names) f before = f.0
  fails_before OutOfMemory f before = absurd before

  -- it never tells that there is no checkpoint
  pub fails_set : (fault : BackFault) → Fails tells a b fault → fault ≡ NoCheckpoint → ⊥
  fails_set fault f is = subst (λ (x : BackFault). Fails tells a b x) is f

  -- what every host counts
  pub fails_counts : (A : Type 0) (fault : BackFault) → Fails tells a b fault → BackCounts {A = A} a.kernel b.kernel (Err fault)
  fails_counts A NoCheckpoint f = absurd f
  fails_counts A (HostFault NotBegun) f = f.1.unmade
  fails_counts A (HostFault RolledBack) f = absurd f
  fails_counts A (HostFault Pending) f = f.1
  fails_counts A (KernelRefused k n left) f = (f.1, f.2)
  fails_counts A (Damaged area) f = f.0.unmade
  fails_counts A (HardwareDiffers names) f = f.0.unmade
  fails_counts A OutOfMemory f = f.0

  -- at most one call was refused, and none unless the fault tells of it
  pub fails_few : (fault : BackFault) → Fails tells a b fault → FewRefused a.kernel b.kernel
  fails_few NoCheckpoint f = absurd f
  fails_few (HostFault NotBegun) f = inl (unbegun_quiet tells a b f.1)
  fails_few (HostFault RolledBack) f = absurd f
  fails_few (HostFault Pending) f = inl f.1
  fails_few (KernelRefused k n left) f = inr f.2
  fails_few (Damaged area) f = inl (unbegun_quiet tells a b f.0)
  fails_few (HardwareDiffers names) f = inl (unbegun_quiet tells a b f.0)
  fails_few OutOfMemory f = inl f.0

  -- where it tells of a host fault, that count rose and no call was refused
  pub fails_rose : (left : Left) → Fails tells a b (HostFault left) → Rose a.faults b.faults
  fails_rose NotBegun f = f.0
  fails_rose RolledBack f = absurd f
  fails_rose Pending f = f.0

  pub fails_quiet : (left : Left) → Fails tells a b (HostFault left) → NoneRefused a.kernel b.kernel
  fails_quiet NotBegun f = unbegun_quiet tells a b f.1
  fails_quiet RolledBack f = absurd f
  fails_quiet Pending f = f.1

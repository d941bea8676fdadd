-- What an apply leaves that ends before its change.
use Rattle.std.proofs.Common.{◌≡◌, ◌⊎◌, ◌≤◌, ◌∙◌, inl, inr, ℕ, refl, sym, subst, Some, None, Result, Ok, Err}
use Rattle.std.specs.Prelude.{IfErr}
use Rattle.net_model.specs.NetData.{NetData}
use Rattle.host_core.specs.Faults.{Rose}
use Rattle.host_core.specs.HostView.{HostView}
use Rattle.host_core.specs.Stops.{Steps, Stays}
use Rattle.host_core.proofs.lemmas.Counts.{rose_after}
use Rattle.checkpoint_cell.specs.Cell.{cell_of}
use Rattle.engine_model.specs.Machine.{apply_fault}
use Rattle.engine_model.specs.Failing.{IsUnbegun, Fails, ApplyIdle, ApplyIntact}
use Rattle.engine_model.specs.Faults.{HasTaken}
use Rattle.engine_model.proofs.lemmas.Failing.{unbegun_on}
use Rattle.engine_model.specs.declared.answers.Left.{Left}
use Rattle.engine_model.specs.declared.answers.Left.TheVariants.{NotBegun, RolledBack, Pending}
use Rattle.engine_model.specs.declared.answers.Applied.{Applied}
use Rattle.engine_model.specs.declared.answers.BackFault.{BackFault}
use Rattle.engine_model.specs.declared.answers.BackFault.TheVariants as ba
use Rattle.engine_model.specs.declared.answers.ApplyFault.{ApplyFault}
use Rattle.engine_model.specs.declared.answers.ApplyFault.TheVariants as ap_
use Rattle.engine_core.specs.Applying.{Hurt}
use Rattle.engine_core.specs.Saying.{IsGivenUp, ChangeIdle, ChangeIntact}

-- ---- of a change

given_idle : (tells : Type 0) (left : Left) (old new : HostView) (fault : ApplyFault) → IsGivenUp fault → ChangeIdle tells left old new (Err fault)
given_idle tells left old new (ap_.Pending until) given = absurd given
given_idle tells left old new (ap_.MergeRefused refused) given = absurd given
given_idle tells left old new (ap_.HostFault NotBegun) given = absurd given
given_idle tells left old new (ap_.HostFault RolledBack) given = tt
given_idle tells left old new (ap_.HostFault Pending) given = tt
given_idle tells left old new ap_.InDoubt given = tt
given_idle tells left old new (ap_.KernelRefused k n side) given = tt
given_idle tells left old new (ap_.NotVerified found side) given = tt
given_idle tells left old new (ap_.Damaged area) given = tt
given_idle tells left old new (ap_.HardwareDiffers names) given = tt
given_idle tells left old new ap_.OutOfMemory given = tt

-- it was begun
pub begun_idle : (tells : Type 0) (left : Left) (old new : HostView) (result : Result Applied ApplyFault) → IfErr result (λ fault. IsGivenUp fault ⊎ (fault ≡ ap_.InDoubt)) → ChangeIdle tells left old new result
begun_idle tells left old new (Ok done) begun = tt
begun_idle tells left old new (Err fault) (inl given) = given_idle tells left old new fault given
begun_idle tells left old new (Err fault) (inr doubt) = subst (λ (f : ApplyFault). ChangeIdle tells left old new (Err f)) (sym doubt) tt

-- a dump failed before anything was changed
pub left_idle : (tells : Type 0) (old new : HostView) (left : Left) → IsUnbegun tells old new → ChangeIdle tells left old new (Err (ap_.HostFault left))
left_idle tells old new NotBegun one = (refl, one)
left_idle tells old new RolledBack one = tt
left_idle tells old new Pending one = tt

-- ---- of the whole

-- behind a settling that began nothing, or by which a change was taken back
pub settled_idle : (tells : Type 0) (now : ℕ) (left : Left) (old mid new : HostView) (result : Result Applied ApplyFault) → (left ≡ NotBegun → IsUnbegun tells old mid) → (tells → HasTaken now (cell_of old.state.cell)) ⊎ IsUnbegun tells old mid
    → ChangeIdle tells left mid new result → ApplyIdle tells now old new result
settled_idle tells now left old mid new (Ok done) first settled idle = tt
settled_idle tells now left old mid new (Err (ap_.Pending until)) first settled idle = absurd idle
settled_idle tells now left old mid new (Err (ap_.MergeRefused refused)) first (inl taken) idle = inl taken
settled_idle tells now left old mid new (Err (ap_.MergeRefused refused)) first (inr one) idle = inr (unbegun_on tells old mid new one idle)
settled_idle tells now left old mid new (Err (ap_.HostFault NotBegun)) first settled idle = unbegun_on tells old mid new (first idle.0) idle.1
settled_idle tells now left old mid new (Err (ap_.HostFault RolledBack)) first settled idle = tt
settled_idle tells now left old mid new (Err (ap_.HostFault Pending)) first settled idle = tt
settled_idle tells now left old mid new (Err ap_.InDoubt) first settled idle = tt
settled_idle tells now left old mid new (Err (ap_.KernelRefused k n side)) first settled idle = tt
settled_idle tells now left old mid new (Err (ap_.NotVerified found side)) first settled idle = tt
settled_idle tells now left old mid new (Err (ap_.Damaged area)) first settled idle = tt
settled_idle tells now left old mid new (Err (ap_.HardwareDiffers names)) first settled idle = tt
settled_idle tells now left old mid new (Err ap_.OutOfMemory) first settled idle = tt

-- the settling didn't come to its end
pub unsettled_idle : (tells : Type 0) (now : ℕ) (old new : HostView) (fault : BackFault) → Fails tells old new fault → ApplyIdle tells now old new (Err (apply_fault fault))
unsettled_idle tells now old new ba.NoCheckpoint fails = tt
unsettled_idle tells now old new (ba.HostFault NotBegun) fails = fails.1
unsettled_idle tells now old new (ba.HostFault RolledBack) fails = tt
unsettled_idle tells now old new (ba.HostFault Pending) fails = tt
unsettled_idle tells now old new (ba.KernelRefused k n left) fails = tt
unsettled_idle tells now old new (ba.Damaged area) fails = tt
unsettled_idle tells now old new (ba.HardwareDiffers names) fails = tt
unsettled_idle tells now old new ba.OutOfMemory fails = tt

-- where it says that nothing was begun, no stop leaves more than before
pub idle_stops : (tells : Type 0) (now : ℕ) (old new : HostView) (result : Result Applied ApplyFault) → ApplyIdle tells now old new result → result ≡ Err (ap_.HostFault NotBegun) → Steps Stays old.stops new.stops
idle_stops tells now old new result idle is = (subst (λ (r : Result Applied ApplyFault). ApplyIdle tells now old new r) is idle).stops

-- ---- where it tells damage or other devices, on an honest host

-- a change that was begun tells them only where the count rose
pub hurt_intact : (tells : Type 0) (to : NetData) (start mid : ℕ) (old new : HostView) → start ≤ mid → (Rose start new.faults → ⊥) → (result : Result Applied ApplyFault) → IfErr result (λ fault. Hurt (Rose mid new.faults) to new fault)
    → ChangeIntact tells old new result
hurt_intact tells to start mid old new le calm (Ok done) hurt = tt
hurt_intact tells to start mid old new le calm (Err (ap_.Pending until)) hurt = tt
hurt_intact tells to start mid old new le calm (Err (ap_.MergeRefused refused)) hurt = tt
hurt_intact tells to start mid old new le calm (Err (ap_.HostFault side)) hurt = tt
hurt_intact tells to start mid old new le calm (Err ap_.InDoubt) hurt = tt
hurt_intact tells to start mid old new le calm (Err (ap_.KernelRefused k n side)) hurt = tt
hurt_intact tells to start mid old new le calm (Err (ap_.NotVerified found side)) hurt = tt
hurt_intact tells to start mid old new le calm (Err (ap_.Damaged area)) hurt = absurd (calm (rose_after start mid new.faults le hurt))
hurt_intact tells to start mid old new le calm (Err (ap_.HardwareDiffers names)) hurt = absurd (calm (rose_after start mid new.faults le hurt))
hurt_intact tells to start mid old new le calm (Err ap_.OutOfMemory) hurt = tt

-- a settling that began nothing came first
pub settled_intact : (tells : Type 0) (old mid new : HostView) (result : Result Applied ApplyFault) → IsUnbegun tells old mid → ChangeIntact tells mid new result → ApplyIntact tells old new result
settled_intact tells old mid new (Ok done) first last = tt
settled_intact tells old mid new (Err (ap_.Pending until)) first last = tt
settled_intact tells old mid new (Err (ap_.MergeRefused refused)) first last = tt
settled_intact tells old mid new (Err (ap_.HostFault side)) first last = tt
settled_intact tells old mid new (Err ap_.InDoubt) first last = tt
settled_intact tells old mid new (Err (ap_.KernelRefused k n side)) first last = tt
settled_intact tells old mid new (Err (ap_.NotVerified found side)) first last = tt
settled_intact tells old mid new (Err (ap_.Damaged area)) first last = unbegun_on tells old mid new first last.1
settled_intact tells old mid new (Err (ap_.HardwareDiffers names)) first last = absurd last
settled_intact tells old mid new (Err ap_.OutOfMemory) first last = tt

-- a network was restored first: it tells neither
pub restored_intact : (tells : Type 0) (old mid new : HostView) (saved : NetData) → mid.state.net ≡ Some saved → (result : Result Applied ApplyFault) → ChangeIntact tells mid new result → ApplyIntact tells old new result
restored_intact tells old mid new saved net (Ok done) last = tt
restored_intact tells old mid new saved net (Err (ap_.Pending until)) last = tt
restored_intact tells old mid new saved net (Err (ap_.MergeRefused refused)) last = tt
restored_intact tells old mid new saved net (Err (ap_.HostFault side)) last = tt
restored_intact tells old mid new saved net (Err ap_.InDoubt) last = tt
restored_intact tells old mid new saved net (Err (ap_.KernelRefused k n side)) last = tt
restored_intact tells old mid new saved net (Err (ap_.NotVerified found side)) last = tt
restored_intact tells old mid new saved net (Err (ap_.Damaged area)) last = let e : None ≡ Some saved = sym last.0 ∙ net in absurd (cc)
restored_intact tells old mid new saved net (Err (ap_.HardwareDiffers names)) last = absurd last
restored_intact tells old mid new saved net (Err ap_.OutOfMemory) last = tt

-- the settling told them
pub unsettled_intact : (tells : Type 0) (old new : HostView) (fault : BackFault) → Fails tells old new fault → ApplyIntact tells old new (Err (apply_fault fault))
unsettled_intact tells old new ba.NoCheckpoint fails = absurd fails
unsettled_intact tells old new (ba.HostFault left) fails = tt
unsettled_intact tells old new (ba.KernelRefused k n left) fails = tt
unsettled_intact tells old new (ba.Damaged area) fails = fails.0
unsettled_intact tells old new (ba.HardwareDiffers names) fails = fails.0
unsettled_intact tells old new ba.OutOfMemory fails = tt

-- Answers that aren't the same.
use Rattle.std.proofs.Common.{◌≡◌, ℕ, Bool, Option, Some, None, Result, Ok, Err, sym, refl, ap, subst}
use Rattle.std.specs.Prelude.{⊤, IsSome}
use Rattle.checkpoint_cell.specs.Cell.{Checkpoint}
use Rattle.engine_model.specs.Answers.{IsBefore}
use Rattle.engine_model.specs.Faults.{HasSet}
use Rattle.engine_model.specs.declared.answers.Left.{Left}
use Rattle.engine_model.specs.declared.answers.Left.TheVariants.{NotBegun, Pending}
use Rattle.engine_model.specs.declared.answers.Recovered.{Recovered}
use Rattle.engine_model.specs.declared.answers.Recovered.TheVariants.{Nothing, Waiting, Restored}
use Rattle.engine_model.specs.declared.answers.BackFault.{BackFault}
use Rattle.engine_model.specs.declared.answers.BackFault.TheVariants.{NoCheckpoint, HostFault, KernelRefused, OutOfMemory}

abbrev Answer : Type 0
Answer = Result Recovered BackFault

abbrev done : Recovered → Answer
done a = Ok a

abbrev failed : BackFault → Answer
failed fault = Err fault

-- what is done is no fault
pub done_failed : {T E : Type 0} (a : T) (fault : E) → Ok a ≡ Err fault → ⊥
done_failed a fault is = let e : Ok a ≡ Err fault = is in cc

pub failed_done : (fault : BackFault) (a : Recovered) → failed fault ≡ done a → ⊥
failed_done fault a is = let e : failed fault ≡ done a = is in cc

-- a fault before anything is begun is no other
pub unbegun_memory : {T : Type 0} (result : Result T BackFault) → result ≡ Err (HostFault NotBegun) → result ≡ Err OutOfMemory → ⊥
unbegun_memory result one two = cc

pub unbegun_pending : failed (HostFault NotBegun) ≡ failed (HostFault Pending) → ⊥
unbegun_pending is = let e : failed (HostFault NotBegun) ≡ failed (HostFault Pending) = is in cc

pub unbegun_refused : (k n : ℕ) (left : Left) → failed (HostFault NotBegun) ≡ failed (KernelRefused k n left) → ⊥
unbegun_refused k n left is = let e : failed (HostFault NotBegun) ≡ failed (KernelRefused k n left) = is in cc

-- of a rollback
abbrev rolled : BackFault → Result ⊤ BackFault
rolled fault = Err fault

pub none_memory : rolled NoCheckpoint ≡ rolled OutOfMemory → ⊥
none_memory is = let e : rolled NoCheckpoint ≡ rolled OutOfMemory = is in cc

pub err_is : (fault : BackFault) → rolled fault ≡ rolled OutOfMemory → fault ≡ OutOfMemory
err_is fault is = let e : rolled fault ≡ rolled OutOfMemory = is in cc

abbrev went_back : BackFault → Result Bool BackFault
went_back fault = Err fault

pub back_memory : (fault : BackFault) → fault ≡ OutOfMemory → went_back fault ≡ went_back OutOfMemory
back_memory fault is = ap went_back is

-- behind its beginning it fails only where one stands
pub begun_set : (cell : Option Checkpoint) (fault : BackFault) → (cell ≡ None → fault ≡ HostFault NotBegun) → (IsBefore fault → ⊥) → HasSet cell
begun_set None fault unset begun = absurd (begun (subst (λ (f : BackFault). IsBefore f) (sym (unset refl)) tt))
begun_set (Some checkpoint) fault unset begun = tt

-- nothing, a change that waits and one that was taken back are three
pub nothing_waits : (deadline : ℕ) → done Nothing ≡ done (Waiting deadline) → ⊥
nothing_waits deadline is = let e : done Nothing ≡ done (Waiting deadline) = is in cc

pub nothing_restored : done Nothing ≡ done Restored → ⊥
nothing_restored is = let e : done Nothing ≡ done Restored = is in cc

pub waits_nothing : (deadline : ℕ) → done (Waiting deadline) ≡ done Nothing → ⊥
waits_nothing deadline is = nothing_waits deadline (sym is)

pub waits_restored : (deadline : ℕ) → done (Waiting deadline) ≡ done Restored → ⊥
waits_restored deadline is = let e : done (Waiting deadline) ≡ done Restored = is in cc

pub restored_nothing : done Restored ≡ done Nothing → ⊥
restored_nothing is = nothing_restored (sym is)

pub restored_waits : (deadline : ℕ) → done Restored ≡ done (Waiting deadline) → ⊥
restored_waits deadline is = waits_restored deadline (sym is)

-- what there is, is there
pub some_is : {A : Type 0} (o : Option A) (x : A) → o ≡ Some x → IsSome o
some_is o x is = subst (λ k. IsSome k) (sym is) refl

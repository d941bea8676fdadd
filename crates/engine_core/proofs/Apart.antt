-- Answers that aren't the same.
use Rattle.std.proofs.Common.{◌≡◌, ◌≤◌, ◌⊎◌, ◌∙◌, inl, inr, ℕ, sym, Result, Ok, Err, arith}
use Rattle.std.specs.Prelude.{⊤}
use Rattle.net_model.specs.NetData.{NetData}
use Rattle.engine_model.specs.declared.answers.Left.TheVariants.{NotBegun, RolledBack}
use Rattle.engine_model.specs.declared.answers.Recovered.{Recovered}
use Rattle.engine_model.specs.declared.answers.Recovered.TheVariants.{Nothing, Waiting, Restored}
use Rattle.engine_model.specs.declared.answers.CommitFault.{CommitFault}
use Rattle.engine_model.specs.declared.answers.CommitFault.TheVariants as co
use Rattle.engine_core.specs.declared.missed.Missed.{Missed}
use Rattle.engine_core.specs.declared.missed.Missed.TheVariants.{Failed, Refused as Refused_call, Damaged, Differs, OutOfMemory}

-- what is done is no fault
pub done_failed : {T E : Type 0} (a : T) (fault : E) → Ok a ≡ Err fault → ⊥
done_failed a fault is = let e : Ok a ≡ Err fault = is in cc

-- counts and moments that never fall don't fall over two steps
pub later_on : (a b c : ℕ) → a ≤ b → b ≤ c → a ≤ c
later_on a b c one two = omega (arith, one, two)

-- ---- of an apply

-- a settling that took nothing back didn't restore
pub waiting_kept : (deadline : ℕ) {done : Recovered} → done ≡ Waiting deadline → done ≡ Restored → ⊥
waiting_kept deadline waits is = let e : Waiting deadline ≡ Restored = sym waits ∙ is in cc

pub nothing_kept : {done : Recovered} → done ≡ Nothing → done ≡ Restored → ⊥
nothing_kept nothing is = let e : Nothing ≡ Restored = sym nothing ∙ is in cc

pub back_begun : RolledBack ≡ NotBegun → ⊥
back_begun is = let e : RolledBack ≡ NotBegun = is in cc

-- ---- why a change missed

abbrev missed : Missed → Result ⊤ Missed
missed why = Err why

pub failed_differs : (found : NetData) → missed Failed ≡ missed (Differs found) → ⊥
failed_differs found is = let e : missed Failed ≡ missed (Differs found) = is in cc

pub refused_differs : (k n : ℕ) (found : NetData) → missed (Refused_call k n) ≡ missed (Differs found) → ⊥
refused_differs k n found is = let e : missed (Refused_call k n) ≡ missed (Differs found) = is in cc

pub memory_differs : (found : NetData) → missed OutOfMemory ≡ missed (Differs found) → ⊥
memory_differs found is = let e : missed OutOfMemory ≡ missed (Differs found) = is in cc

pub refused_failed : (k n : ℕ) → missed (Refused_call k n) ≡ missed Failed → ⊥
refused_failed k n is = let e : missed (Refused_call k n) ≡ missed Failed = is in cc

pub memory_failed : missed OutOfMemory ≡ missed Failed → ⊥
memory_failed is = let e : missed OutOfMemory ≡ missed Failed = is in cc

pub damaged_failed : missed Damaged ≡ missed Failed → ⊥
damaged_failed is = let e : missed Damaged ≡ missed Failed = is in cc

pub differs_failed : (found : NetData) → missed (Differs found) ≡ missed Failed → ⊥
differs_failed found is = let e : missed (Differs found) ≡ missed Failed = is in cc

pub damaged_differs : (found : NetData) → missed Damaged ≡ missed (Differs found) → ⊥
damaged_differs found is = let e : missed Damaged ≡ missed (Differs found) = is in cc

-- ---- why a commit failed

abbrev refusal : CommitFault → Result ⊤ CommitFault
refusal fault = Err fault

abbrev IsFailure : Result ⊤ CommitFault → Type 0
IsFailure result = (result ≡ refusal co.HostFault) ⊎ (result ≡ refusal co.InDoubt)

pub fault_none : refusal co.HostFault ≡ refusal co.NoCheckpoint → ⊥
fault_none is = let e : refusal co.HostFault ≡ refusal co.NoCheckpoint = is in cc

pub fault_unfinished : (made deadline : ℕ) → refusal co.HostFault ≡ refusal (co.Unfinished made deadline) → ⊥
fault_unfinished made deadline is = let e : refusal co.HostFault ≡ refusal (co.Unfinished made deadline) = is in cc

pub fault_expired : (made deadline : ℕ) → refusal co.HostFault ≡ refusal (co.Expired made deadline) → ⊥
fault_expired made deadline is = let e : refusal co.HostFault ≡ refusal (co.Expired made deadline) = is in cc

pub fault_doubt : refusal co.HostFault ≡ refusal co.InDoubt → ⊥
fault_doubt is = let e : refusal co.HostFault ≡ refusal co.InDoubt = is in cc

pub none_unfinished : (made deadline : ℕ) → refusal co.NoCheckpoint ≡ refusal (co.Unfinished made deadline) → ⊥
none_unfinished made deadline is = let e : refusal co.NoCheckpoint ≡ refusal (co.Unfinished made deadline) = is in cc

pub none_expired : (made deadline : ℕ) → refusal co.NoCheckpoint ≡ refusal (co.Expired made deadline) → ⊥
none_expired made deadline is = let e : refusal co.NoCheckpoint ≡ refusal (co.Expired made deadline) = is in cc

pub none_doubt : refusal co.NoCheckpoint ≡ refusal co.InDoubt → ⊥
none_doubt is = let e : refusal co.NoCheckpoint ≡ refusal co.InDoubt = is in cc

pub unfinished_none : (a b : ℕ) → refusal (co.Unfinished a b) ≡ refusal co.NoCheckpoint → ⊥
unfinished_none a b is = let e : refusal (co.Unfinished a b) ≡ refusal co.NoCheckpoint = is in cc

pub unfinished_expired : (a b made deadline : ℕ) → refusal (co.Unfinished a b) ≡ refusal (co.Expired made deadline) → ⊥
unfinished_expired a b made deadline is = let e : refusal (co.Unfinished a b) ≡ refusal (co.Expired made deadline) = is in cc

pub unfinished_doubt : (a b : ℕ) → refusal (co.Unfinished a b) ≡ refusal co.InDoubt → ⊥
unfinished_doubt a b is = let e : refusal (co.Unfinished a b) ≡ refusal co.InDoubt = is in cc

pub expired_none : (a b : ℕ) → refusal (co.Expired a b) ≡ refusal co.NoCheckpoint → ⊥
expired_none a b is = let e : refusal (co.Expired a b) ≡ refusal co.NoCheckpoint = is in cc

pub expired_unfinished : (a b made deadline : ℕ) → refusal (co.Expired a b) ≡ refusal (co.Unfinished made deadline) → ⊥
expired_unfinished a b made deadline is = let e : refusal (co.Expired a b) ≡ refusal (co.Unfinished made deadline) = is in cc

pub expired_doubt : (a b : ℕ) → refusal (co.Expired a b) ≡ refusal co.InDoubt → ⊥
expired_doubt a b is = let e : refusal (co.Expired a b) ≡ refusal co.InDoubt = is in cc

pub doubt_none : refusal co.InDoubt ≡ refusal co.NoCheckpoint → ⊥
doubt_none is = let e : refusal co.InDoubt ≡ refusal co.NoCheckpoint = is in cc

pub doubt_unfinished : (made deadline : ℕ) → refusal co.InDoubt ≡ refusal (co.Unfinished made deadline) → ⊥
doubt_unfinished made deadline is = let e : refusal co.InDoubt ≡ refusal (co.Unfinished made deadline) = is in cc

pub doubt_expired : (made deadline : ℕ) → refusal co.InDoubt ≡ refusal (co.Expired made deadline) → ⊥
doubt_expired made deadline is = let e : refusal co.InDoubt ≡ refusal (co.Expired made deadline) = is in cc

pub none_fault : IsFailure (refusal co.NoCheckpoint) → ⊥
none_fault (inl is) = let e : refusal co.NoCheckpoint ≡ refusal co.HostFault = is in cc
none_fault (inr is) = let e : refusal co.NoCheckpoint ≡ refusal co.InDoubt = is in cc

pub unfinished_fault : (a b : ℕ) → IsFailure (refusal (co.Unfinished a b)) → ⊥
unfinished_fault a b (inl is) = let e : refusal (co.Unfinished a b) ≡ refusal co.HostFault = is in cc
unfinished_fault a b (inr is) = let e : refusal (co.Unfinished a b) ≡ refusal co.InDoubt = is in cc

pub expired_fault : (a b : ℕ) → IsFailure (refusal (co.Expired a b)) → ⊥
expired_fault a b (inl is) = let e : refusal (co.Expired a b) ≡ refusal co.HostFault = is in cc
expired_fault a b (inr is) = let e : refusal (co.Expired a b) ≡ refusal co.InDoubt = is in cc

pub done_fault : IsFailure (Ok tt) → ⊥
done_fault (inl is) = done_failed tt co.HostFault is
done_fault (inr is) = done_failed tt co.InDoubt is

-- which moments an answer tells
pub unfinished_as : (a b made deadline : ℕ) → refusal (co.Unfinished a b) ≡ refusal (co.Unfinished made deadline) → (a ≡ made) × (b ≡ deadline)
unfinished_as a b made deadline is = let e : refusal (co.Unfinished a b) ≡ refusal (co.Unfinished made deadline) = is in (cc, cc)

pub expired_as : (a b made deadline : ℕ) → refusal (co.Expired a b) ≡ refusal (co.Expired made deadline) → (a ≡ made) × (b ≡ deadline)
expired_as a b made deadline is = let e : refusal (co.Expired a b) ≡ refusal (co.Expired made deadline) = is in (cc, cc)

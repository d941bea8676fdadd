-- Counts of calls that were refused, and of calls that were made, over two steps.
use Rattle.std.proofs.Common.{◌≡◌, inl, inr, ◌∙◌, arith, ℕ, sym, ap, subst, Result, Ok, Err}
use Rattle.host_core.specs.Faults.{Rose, one_more}
use Rattle.host_core.specs.HostView.{State, Kernel, WasRefused, NoneRefused, dumped}
use Rattle.engine_model.specs.Faults.{SettlesOnly}
use Rattle.engine_model.specs.Refusals.{NoCallMade, RefusedOnce, FewRefused, ApplyCounts, BackCounts}
use Rattle.engine_model.specs.declared.answers.Left.TheVariants.{NotBegun, RolledBack, Pending}
use Rattle.engine_model.specs.declared.answers.Applied.{Applied}
use Rattle.engine_model.specs.declared.answers.ApplyFault.{ApplyFault}
use Rattle.engine_model.specs.declared.answers.ApplyFault.TheVariants as ap_
use Rattle.engine_model.specs.declared.answers.BackFault.{BackFault}
use Rattle.engine_model.specs.declared.answers.BackFault.TheVariants as ba

-- nothing of the kernel was touched
pub quiet_same : (a b : Kernel) → b ≡ a → NoneRefused a b
quiet_same a b same = record { refusals = ap (λ (k : Kernel). k.refusals) same; last = ap (λ (k : Kernel). k.last) same }

-- it was dumped
pub quiet_dumped : (a b : Kernel) → b ≡ dumped a → NoneRefused a b
quiet_dumped a b same = record { refusals = ap (λ (k : Kernel). k.refusals) same; last = ap (λ (k : Kernel). k.last) same }

pub quiet_on : (a b c : Kernel) → NoneRefused a b → NoneRefused b c → NoneRefused a c
quiet_on a b c one two = record { refusals = two.refusals ∙ one.refusals; last = two.last ∙ one.last }

-- where no call was made, none was refused
pub unmade_quiet : (a b : Kernel) → NoCallMade a b → NoneRefused a b
unmade_quiet a b (inl same) = quiet_same a b same
unmade_quiet a b (inr same) = quiet_dumped a b same

-- no call was made, and then again none
pub unmade_on : (a b c : Kernel) → NoCallMade a b → NoCallMade b c → NoCallMade a c
unmade_on a b c (inl one) (inl two) = inl (two ∙ one)
unmade_on a b c (inl one) (inr two) = inr (two ∙ ap dumped one)
unmade_on a b c (inr one) (inl two) = inr (two ∙ one)
unmade_on a b c (inr one) (inr two) = inr (two ∙ ap dumped one)

-- one call was refused, with none before it
pub refused_after : (k n : ℕ) (a b c : Kernel) → NoneRefused a b → WasRefused k n b c → WasRefused k n a c
refused_after k n a b c one two = record { rose = subst (λ (r : ℕ). Rose r c.refusals) one.refusals two.rose; last = two.last; counted = two.counted }

-- or with none after it
pub refused_before : (k n : ℕ) (a b c : Kernel) → WasRefused k n a b → NoneRefused b c → WasRefused k n a c
refused_before k n a b c one two = record { rose = subst (λ (r : ℕ). Rose a.refusals r) (sym two.refusals) one.rose; last = two.last ∙ one.last; counted = one.counted }

pub once_after : (a b c : Kernel) → NoneRefused a b → RefusedOnce b c → RefusedOnce a c
once_after a b c one two = two ∙ ap one_more one.refusals

pub once_before : (a b c : Kernel) → RefusedOnce a b → NoneRefused b c → RefusedOnce a c
once_before a b c one two = two.refusals ∙ one

-- the count of refusals rose by it
pub once_rose : (a b : Kernel) → RefusedOnce a b → Rose a.refusals b.refusals
once_rose a b once = omega (arith, once)

pub few_after : (a b c : Kernel) → NoneRefused a b → FewRefused b c → FewRefused a c
few_after a b c one (inl two) = inl (quiet_on a b c one two)
few_after a b c one (inr two) = inr (once_after a b c one two)

pub few_before : (a b c : Kernel) → FewRefused a b → NoneRefused b c → FewRefused a c
few_before a b c (inl one) two = inl (quiet_on a b c one two)
few_before a b c (inr one) two = inr (once_before a b c one two)

-- ---- the tables

-- the same fault of another call that takes a change back
pub back_as : (A B : Type 0) (a b : Kernel) (fault : BackFault) → BackCounts {A = A} a b (Err fault) → BackCounts {A = B} a b (Err fault)
back_as A B a b ba.NoCheckpoint is = is
back_as A B a b (ba.HostFault NotBegun) is = is
back_as A B a b (ba.HostFault RolledBack) is = is
back_as A B a b (ba.HostFault Pending) is = is
back_as A B a b (ba.KernelRefused k n left) is = is
back_as A B a b (ba.Damaged area) is = is
back_as A B a b (ba.HardwareDiffers names) is = is
back_as A B a b ba.OutOfMemory is = is

-- what an apply's answer says, from before a step that made no call
pub apply_after : (a b c : Kernel) (result : Result Applied ApplyFault) → NoCallMade a b → ApplyCounts b c result → ApplyCounts a c result
apply_after a b c (Ok done) one two = quiet_on a b c (unmade_quiet a b one) two
apply_after a b c (Err (ap_.Pending deadline)) one two = unmade_on a b c one two
apply_after a b c (Err (ap_.MergeRefused refused)) one two = quiet_on a b c (unmade_quiet a b one) two
apply_after a b c (Err (ap_.HostFault NotBegun)) one two = unmade_on a b c one two
apply_after a b c (Err (ap_.HostFault RolledBack)) one two = quiet_on a b c (unmade_quiet a b one) two
apply_after a b c (Err (ap_.HostFault Pending)) one two = few_after a b c (unmade_quiet a b one) two
apply_after a b c (Err (ap_.KernelRefused k n left)) one two = (refused_after k n a b c (unmade_quiet a b one) two.0, λ back. once_after a b c (unmade_quiet a b one) (two.1 back))
apply_after a b c (Err (ap_.NotVerified found left)) one two = quiet_on a b c (unmade_quiet a b one) two
apply_after a b c (Err ap_.InDoubt) one two = quiet_on a b c (unmade_quiet a b one) two
apply_after a b c (Err (ap_.Damaged area)) one two = few_after a b c (unmade_quiet a b one) two
apply_after a b c (Err (ap_.HardwareDiffers names)) one two = few_after a b c (unmade_quiet a b one) two
apply_after a b c (Err ap_.OutOfMemory) one two = few_after a b c (unmade_quiet a b one) two

-- the settling alone made calls, and then none was made
pub settled_on : (tells : Type 0) (now : ℕ) (state : State) (a b c : Kernel) → SettlesOnly tells now state a b → NoCallMade b c → SettlesOnly tells now state a c
settled_on tells now state a b c (inl taken) two = inl taken
settled_on tells now state a b c (inr one) two = inr (unmade_on a b c one two)

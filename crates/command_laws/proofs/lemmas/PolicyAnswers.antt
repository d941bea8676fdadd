-- What an apply of a policy may answer, and what it leaves, by the answer of the change of its document.
use Rattle.std.proofs.Common.{◌≡◌, ◌⊎◌, inl, inr, refl, sym, subst, Option, None}
use Rattle.std.specs.Prelude.{◌≢◌, Result, Ok, Err}
use Rattle.net_model.specs.NetData.{NetData}
use Rattle.policy_model.specs.Values.{PolicyData}
use Rattle.host_core.specs.HostView.{HostView}
use Rattle.checkpoint_cell.specs.Cell.{Checkpoint}
use Rattle.checkpoint_cell.specs.Settled.{Standing, standing, restored_to}
use Rattle.engine_model.specs.Machine.{Asked, apply}
use Rattle.engine_model.specs.Stations.{Stands, Entry}
use Rattle.engine_model.specs.Exit.{ApplyExit}
use Rattle.engine_model.specs.Failing.{IsUnbegun, ApplyIdle}
use Rattle.engine_model.specs.Faults.{HasTaken, ApplySays, ApplyExact}
use Rattle.engine_model.specs.declared.Left.{Left}
use Rattle.engine_model.specs.declared.Left.TheVariants as sides
use Rattle.engine_model.specs.declared.Applied.{Applied}
use Rattle.engine_model.specs.declared.ApplyFault.{ApplyFault}
use Rattle.engine_model.specs.declared.ApplyFault.TheVariants.{Pending, MergeRefused, HostFault, KernelRefused, NotVerified, InDoubt, Damaged, HardwareDiffers, OutOfMemory}
use Rattle.engine_model.specs.declared.ApplyOpts.{ApplyOpts}
use Rattle.top_model.specs.Orders.{Inputs, applying_policy, committing, rolling_back, recovering, order_of}
use Rattle.top_model.specs.Runs.{Run, HostRose, entry, reads}
use Rattle.top_model.specs.Causes.{MayWant, MayAnswer}
use Rattle.top_model.specs.Exits.{PolicyLeaves}
use Rattle.top_model.specs.Answered.{UnchangedOrTaken, Unbegun}
use Rattle.top_model.specs.declared.report.Cause.TheVariants as cause
use Rattle.top_model.proofs.lemmas.Unbegun.{unchanged, unbegun_on}
use Rattle.top_model.proofs.lemmas.Wanting.{may_want_order}
use Rattle.top_model.proofs.lemmas.Continued as go
use Rattle.command_laws.proofs.lemmas.Applies.{answer_of}

-- where the host tells what it holds, no change waits
abbrev pub Unpending : Type 0 → Result Applied ApplyFault → Type 0
Unpending tells (Err (Pending until)) = tells → ⊥
Unpending tells result = Unit {0}

pub unpending : (tells : Type 0) (a : Asked) (back : Left) (mid new : HostView) → (tells → (standing mid.state).cell ≡ None) → (result : Result Applied ApplyFault) → ApplySays tells a mid new result
    → Unpending tells (go.told_as back result)
unpending tells a back mid new none (Ok done) says = tt
unpending tells a back mid new none (Err (Pending until)) says = λ t. go.none_waits a (standing mid.state) until (none t) (says t).answer
unpending tells a back mid new none (Err (MergeRefused refused)) says = tt
unpending tells a back mid new none (Err (HostFault sides.NotBegun)) says = tt
unpending tells a back mid new none (Err (HostFault sides.RolledBack)) says = tt
unpending tells a back mid new none (Err (HostFault sides.Pending)) says = tt
unpending tells a back mid new none (Err (KernelRefused k n left)) says = tt
unpending tells a back mid new none (Err (NotVerified found left)) says = tt
unpending tells a back mid new none (Err InDoubt) says = tt
unpending tells a back mid new none (Err (Damaged area)) says = tt
unpending tells a back mid new none (Err (HardwareDiffers names)) says = tt
unpending tells a back mid new none (Err OutOfMemory) says = tt

-- it tells neither damage nor other devices
abbrev pub Unhurt : Result Applied ApplyFault → Type 0
Unhurt (Err (Damaged area)) = ⊥
Unhurt (Err (HardwareDiffers names)) = ⊥
Unhurt result = Unit {0}

-- where a network alone stood, and the count didn't rise
pub unhurt : (a : Asked) (from : NetData) (e : Standing) (rose : Type 0) (new : HostView) → e ≡ restored_to from → (rose → ⊥) → (result : Result Applied ApplyFault) → ApplyExact rose (apply a e) new result → Unhurt result
unhurt a from e rose new stood calm (Ok done) exact = tt
unhurt a from e rose new stood calm (Err (Pending until)) exact = tt
unhurt a from e rose new stood calm (Err (MergeRefused refused)) exact = tt
unhurt a from e rose new stood calm (Err (HostFault left)) exact = tt
unhurt a from e rose new stood calm (Err (KernelRefused k n left)) exact = tt
unhurt a from e rose new stood calm (Err (NotVerified found left)) exact = tt
unhurt a from e rose new stood calm (Err InDoubt) exact = tt
unhurt a from e rose new stood calm (Err (Damaged area)) (inl risen) = calm risen
unhurt a from e rose new stood calm (Err (Damaged area)) (inr is) = go.none_damaged a e from area stood is.answer
unhurt a from e rose new stood calm (Err (HardwareDiffers names)) (inl risen) = calm risen
unhurt a from e rose new stood calm (Err (HardwareDiffers names)) (inr is) = go.none_differs a e from names stood is.answer
unhurt a from e rose new stood calm (Err OutOfMemory) exact = tt

pub may : (p : PolicyData) (opts : ApplyOpts) (result : Result Applied ApplyFault) → MayAnswer (Ok (applying_policy p opts)) (answer_of result)
may p opts (Ok done) = tt
may p opts (Err (Pending deadline)) = tt
may p opts (Err (MergeRefused refused)) = tt
may p opts (Err (HostFault side)) = tt
may p opts (Err (KernelRefused k n side)) = tt
may p opts (Err (NotVerified found side)) = tt
may p opts (Err InDoubt) = tt
may p opts (Err (Damaged area)) = tt
may p opts (Err (HardwareDiffers names)) = tt
may p opts (Err OutOfMemory) = tt

-- another order than those of the three single words
other_commit : (p : PolicyData) (opts : ApplyOpts) → applying_policy p opts ≢ committing
other_commit p opts e = cc

other_rollback : (p : PolicyData) (opts : ApplyOpts) → applying_policy p opts ≢ rolling_back
other_rollback p opts e = cc

other_recover : (p : PolicyData) (opts : ApplyOpts) → applying_policy p opts ≢ recovering
other_recover p opts e = cc

-- memory may run out in an apply
pub may_want : (r : Run) (p : PolicyData) (opts : ApplyOpts) (inputs : Inputs) → order_of r.in_script inputs r.words ≡ Ok (applying_policy p opts) → MayWant r
may_want r p opts inputs is = may_want_order r inputs (applying_policy p opts) is (other_commit p opts) (other_rollback p opts) (other_recover p opts)

pub leaves : (a : Asked) (entry : Entry) (left : Stands) (rose twice : Type 0) (result : Result Applied ApplyFault) → ApplyExit a entry left rose twice result
    → PolicyLeaves a.opts a.now (apply a entry.reads).after entry left rose twice (answer_of result)
leaves a entry left rose twice (Ok done) exit = exit
leaves a entry left rose twice (Err (Pending deadline)) exit = exit
leaves a entry left rose twice (Err (MergeRefused refused)) exit = exit
leaves a entry left rose twice (Err (HostFault sides.NotBegun)) exit = exit
leaves a entry left rose twice (Err (HostFault sides.RolledBack)) exit = exit
leaves a entry left rose twice (Err (HostFault sides.Pending)) exit = exit
leaves a entry left rose twice (Err (KernelRefused k n side)) exit = absurd exit
leaves a entry left rose twice (Err (NotVerified found side)) exit = absurd exit
leaves a entry left rose twice (Err InDoubt) exit = record { to = exit.to; near = exit.near; net = exit.net; changed = exit.changed }
leaves a entry left rose twice (Err (Damaged area)) exit = exit
leaves a entry left rose twice (Err (HardwareDiffers names)) exit = absurd exit
leaves a entry left rose twice (Err OutOfMemory) exit = inr exit

-- where the recovery and the dump began nothing, or something was to be taken back first
module _ (r : Run) (p : PolicyData) (opts : ApplyOpts) (back : Left) (mid : HostView) (side : back ≢ sides.Pending) (none : r.host_tells → (standing mid.state).cell ≡ None)
    (idle : back ≡ sides.NotBegun → IsUnbegun r.host_tells r.host mid) (taken : back ≡ sides.RolledBack → r.host_tells → HasTaken r.now (reads r).cell) where
  begun_as : (left : Left) → left ≡ back → IsUnbegun r.host_tells mid r.host_after → Unbegun r (Ok (applying_policy p opts)) (Err (cause.HostFault left))
  begun_as sides.NotBegun is last = unchanged r (unbegun_on r.host_tells r.host mid r.host_after (idle (sym is)) last)
  begun_as sides.RolledBack is last = tt
  begun_as sides.Pending is last = tt

  settled_as : (left : Left) → left ≡ back → IsUnbegun r.host_tells mid r.host_after → UnchangedOrTaken r
  settled_as sides.NotBegun is last = inr (unchanged r (unbegun_on r.host_tells r.host mid r.host_after (idle (sym is)) last))
  settled_as sides.RolledBack is last = inl (taken (sym is))
  settled_as sides.Pending is last = absurd (side (sym is))

  refused_as : (r.host_tells → HasTaken r.now (standing mid.state).cell) ⊎ IsUnbegun r.host_tells mid r.host_after → UnchangedOrTaken r
  refused_as (inl has) = inl (λ t. absurd (subst (λ (c : Option Checkpoint). HasTaken r.now c) (none t) (has t)))
  refused_as (inr last) = settled_as back refl last

  pub unbegun : (result : Result Applied ApplyFault) → ApplyIdle r.host_tells r.now mid r.host_after result → Unpending r.host_tells (go.told_as back result)
      → (r.honest → (HostRose r → ⊥) → Unhurt result) → Unbegun r (Ok (applying_policy p opts)) (answer_of (go.told_as back result))
  unbegun (Ok done) last never clean = tt
  unbegun (Err (Pending until)) last never clean = λ t. absurd (never t)
  unbegun (Err (MergeRefused refused)) last never clean = refused_as last
  unbegun (Err (HostFault sides.NotBegun)) last never clean = begun_as back refl last
  unbegun (Err (HostFault sides.RolledBack)) last never clean = tt
  unbegun (Err (HostFault sides.Pending)) last never clean = tt
  unbegun (Err (KernelRefused k n left)) last never clean = tt
  unbegun (Err (NotVerified found left)) last never clean = tt
  unbegun (Err InDoubt) last never clean = tt
  unbegun (Err (Damaged area)) last never clean = λ honest calm. absurd (clean honest calm)
  unbegun (Err (HardwareDiffers names)) last never clean = λ honest calm. absurd (clean honest calm)
  unbegun (Err OutOfMemory) last never clean = tt

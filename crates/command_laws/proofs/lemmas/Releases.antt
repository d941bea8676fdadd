-- What is said of a command that only looks stays true where the host is let go then.
use Rattle.std.proofs.Common.{◌≡◌, ◌∙◌, sym, ap, subst, arith, ℕ, [], Option}
use Rattle.std.specs.Prelude.{◌≢◌, Result, Ok, Err, OnOk}
use Rattle.std.proofs.lemmas.Result.{on_ok_weaker}
use Rattle.net_model.specs.NetData.{NetData}
use Rattle.host_core.specs.Faults.{Rose}
use Rattle.host_core.specs.HostView.{HostView, Kernel, Untouched}
use Rattle.host_core.specs.Stops.{Stays}
use Rattle.host_core.proofs.lemmas.Moments.{follow}
use Rattle.checkpoint_cell.specs.Cell.{cell_of}
use Rattle.checkpoint_cell.specs.Settled.{standing}
use Rattle.engine_model.specs.Checks.{check, CheckSays, CheckAnswers, CheckExit}
use Rattle.engine_model.specs.Refusals.{NoCallMade}
use Rattle.engine_model.specs.Sound.{Sound}
use Rattle.engine_model.specs.Stations.{Stands, Entry, Within, left_by}
use Rattle.engine_model.specs.declared.Checked.{Checked}
use Rattle.engine_model.specs.declared.CheckFault.{CheckFault}
use Rattle.engine_model.specs.declared.CheckFault.TheVariants as checks
use Rattle.engine_model.specs.declared.Left.TheVariants.{NotBegun}
use Rattle.engine_model.proofs.lemmas.Leading.{sound_stays}
use Rattle.top_model.specs.declared.report.Cause.{Cause}
use Rattle.top_model.specs.declared.report.Cause.TheVariants.{HostFault, Damaged, OutOfMemory}
use Rattle.command_laws.specs.Looked.{ChangesNothing, Finds}

module _ (tells : Type 0) (old mid new : HostView) (same : Untouched tells mid new) (faults : new.faults ≡ mid.faults) where
  -- the same network is found, or none for the same reason
  pub finds_released : (honest : Type 0) (result : Result NetData Cause) → Finds tells honest old mid result → Finds tells honest old new result
  finds_released honest (Ok net) found = record { is = found.is; fresh = λ t. same.kernel.fresh t ∙ found.fresh t }
  finds_released honest (Err (HostFault NotBegun)) found = subst (λ (n : ℕ). Rose old.faults n) (sym faults) found
  finds_released honest (Err (Damaged area)) found = found
  finds_released honest (Err OutOfMemory) found = tt
  finds_released honest (Err cause) found = absurd found

  -- and nothing is changed
  pub looks_released : ChangesNothing tells old mid → ChangesNothing tells old new
  looks_released looks = record {
    state = λ t. same_state t ∙ looks.state t;
    stops = follow Stays Stays Stays old.stops mid.stops new.stops looks.stops same.stops (λ r s left one. one) (λ q r s left there one two. two ∙ one);
    unmade = subst (λ (k : Kernel). NoCallMade old.kernel k) (sym same.kernel.kernel) looks.unmade;
    later = omega (arith, looks.later, faults);
  }
    where
      same_state : tells → new.state ≡ mid.state
      same_state t = λ i. record { net = same.kernel.net t i; cell = same.cell t i }

  -- a check answers what it answered
  pub says_released : (result : Result Checked CheckFault) → CheckSays tells old mid result → CheckSays tells old new result
  says_released (Err checks.HostFault) says = subst (λ (n : ℕ). Rose old.faults n) (sym faults) says
  says_released (Err checks.OutOfMemory) says = tt
  says_released (Err (checks.Damaged area)) says = says
  says_released (Err (checks.HardwareDiffers names)) says = λ t. ((says t).0, ap (λ (net : Option NetData). check (record { net = net; cell = cell_of old.state.cell })) (same.kernel.fresh t) ∙ (says t).1)
  says_released (Ok seen) says = λ t. ((says t).0, ap (λ (net : Option NetData). check (record { net = net; cell = cell_of old.state.cell })) (same.kernel.fresh t) ∙ (says t).1)

  pub answers_released : (machine result : Result Checked CheckFault) → CheckAnswers machine old mid result → CheckAnswers machine old new result
  answers_released machine (Err checks.HostFault) answers = subst (λ (n : ℕ). Rose old.faults n) (sym faults) answers
  answers_released machine (Err checks.OutOfMemory) answers = tt
  answers_released machine (Err (checks.Damaged area)) answers = answers
  answers_released machine (Err (checks.HardwareDiffers names)) answers = answers
  answers_released machine (Ok seen) answers = answers

  -- a host that is sound stays so
  pub sound_released : tells → (result : Result Checked CheckFault) → OnOk result (mid.state.cell ≢ [] → Sound mid) → OnOk result (new.state.cell ≢ [] → Sound new)
  sound_released t result sound = on_ok_weaker result (λ (is : mid.state.cell ≢ [] → Sound mid) filled. sound_stays mid new (is (λ empty. filled (same.cell t ∙ empty))) same.stops) sound

  left_released : (stations : Stands) → Within (left_by mid) stations → Within (left_by new) stations
  left_released stations within stands left =
      let from = same.stops.now left.0 left.1 in within stands (from.0, from.1, ap standing (sym from.2) ∙ left.2)

  -- what stops leave at the exit they left before
  pub exit_released : (entry : Entry) (result : Result Checked CheckFault) → CheckExit entry (left_by mid) result → CheckExit entry (left_by new) result
  exit_released entry (Err checks.HostFault) exit = left_released _ exit
  exit_released entry (Err checks.OutOfMemory) exit = left_released _ exit
  exit_released entry (Err (checks.Damaged area)) exit = left_released _ exit
  exit_released entry (Err (checks.HardwareDiffers names)) exit = left_released _ exit
  exit_released entry (Ok seen) exit = left_released _ exit

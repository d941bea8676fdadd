-- A restoring that came to its end gave the saved network; and what is said of its faults.
use Rattle.std.proofs.Common.{◌≡◌, ◌∙◌, ap, sym, subst, List, [], length, Some, Result, Ok, Err}
use Rattle.std.specs.Prelude.{IfErr}
use Rattle.net_model.specs.NetData.{NetData}
use Rattle.net_model.specs.declared.Call.{Call}
use Rattle.kernel_model.specs.Runs.{Runs}
use Rattle.host_core.specs.HostView.{HostView}
use Rattle.checkpoint_cell.specs.Cell.{saved_net}
use Rattle.engine_model.specs.Faults.{GaveSaved}
use Rattle.engine_restore.specs.Given.{IsGiven}

-- the planned calls were made, and the saved network stayed in its place
pub gave_saved : (calls : List Call) (mid new : HostView) → IsGiven calls mid → new.kernel.calls ≡ length calls → (calls ≡ [] → new.fresh ≡ mid.fresh) → saved_net new.state.cell ≡ saved_net mid.state.cell → GaveSaved new
gave_saved calls mid new given made idle same = record {
  saved = given.saved;
  found = given.found;
  calls = calls;
  is_saved = same ∙ given.is_saved;
  plan = given.plan;
  made = made;
  idle = λ none.
      let stays : given.saved ≡ given.found = subst (λ (l : List Call). Runs l given.found given.saved) none given.plan.run in
      idle none ∙ given.is_found ∙ ap (λ (n : NetData). Some n) (sym stays);
}

-- ---- of a fault

-- what is said of it says another thing
pub if_err_weaker : {A E : Type 0} (result : Result A E) (P Q : E → Type 0) → ((fault : E) → P fault → Q fault) → IfErr result P → IfErr result Q
if_err_weaker (Ok done) P Q f p = tt
if_err_weaker (Err fault) P Q f p = f fault p

-- The calls that a restoring plans.
use Rattle.std.specs.Prelude.{◌≡◌, List, Some}
use Rattle.net_model.specs.NetData.{NetData}
use Rattle.net_model.specs.declared.Call.{Call}
use Rattle.plan_model.specs.Plans.{IsPlan}
use Rattle.host_core.specs.HostView.{HostView}
use Rattle.checkpoint_cell.specs.Cell.{saved_net}

-- these calls are a plan from the network that was dumped last to the saved one
pub record IsGiven (calls : List Call) (host : HostView) : Type 0 where
  pub found : NetData
  pub saved : NetData
  pub is_found : host.fresh ≡ Some found
  pub is_saved : saved_net host.state.cell ≡ Some saved
  pub plan : IsPlan found saved calls

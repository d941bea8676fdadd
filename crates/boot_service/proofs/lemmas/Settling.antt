-- What a pair settles to, and what a recovery makes of it.
use Rattle.std.proofs.Common.{◌≡◌, ℕ, Some, sym}
use Rattle.net_model.specs.NetData.{NetData}
use Rattle.host_core.specs.HostView.{State}
use Rattle.checkpoint_cell.specs.Settled.{standing, restored_to, settled}
use Rattle.engine_model.specs.Sound.{Fit}
use Rattle.engine_model.proofs.lemmas.Backs.{settled_only}
use Rattle.boot_service.specs.Stops.{SettlesTo}

-- where it can be recovered from, a recovery leads to what it settles to
pub settles_to : (net : NetData) (s : State) → Fit s → ((now : ℕ) → settled now (standing s) ≡ Some (restored_to net)) → SettlesTo net s
settles_to net s fit settles = record { fit = fit; settles = settles; recovers = λ now. sym (settled_only now s fit (restored_to net) (settles now)) }

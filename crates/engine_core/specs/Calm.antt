-- What a change leaves as it was.
use Rattle.std.specs.Prelude.{◌≡◌, ◌≤◌, ℕ, Some}
use Rattle.net_model.specs.NetData.{NetData}
use Rattle.host_core.specs.HostView.{State, HostView}
use Rattle.plan_model.specs.Undisturbed.{IsUndisturbed}

-- for each moment up to the host's own
abbrev pub UpToNow : HostView → (ℕ → Type 0) → Type 0
UpToNow host says = (t : ℕ) → t ≤ host.stops.moment → says t

-- Each pair that was left since that moment has a network. In it each link that a plan from the one network to the other
-- needn't touch, its addresses and its routes that stand in both are as in the first.
pub record CalmSince (from to : NetData) (moment : ℕ) (host : HostView) : Type 0 where
  pub pair : (s : State) → host.stops.left_since moment s → (net : NetData) × (s.net ≡ Some net) × IsUndisturbed from to net

-- The tests of a port and a controller that are there and whose attaching makes no cycle.
use Rattle.std.specs.Prelude.{ℕ, Bool, not, ◌&&◌, List, [], ◌∷◌, is_some}
use Rattle.net_model.specs.Words.{is_empty}
use Rattle.net_model.specs.Links.{named_passes, takes, is_bond, is_bond_or_bridge}
use Rattle.net_model.specs.declared.Link.{Link}
use Rattle.kernel_model.specs.Ports.{pair_passes}
use Rattle.kernel_model.specs.declared.refusal.TheConstants.{HAS_CONTROLLER, PORT_KIND, PORT_UP, PORT_ADDRESS}

abbrev pub pair_refusals : List ℕ → List ℕ → List Link → List (ℕ × Bool)
pair_refusals port controller links =
    (HAS_CONTROLLER, named_passes (λ p. is_some p.controller) links port)
    ∷ (PORT_KIND, not (pair_passes (λ c p. takes c.kind p.kind) links controller port))
    ∷ (PORT_UP, pair_passes (λ c p. is_bond c.kind && p.up) links controller port)
    ∷ (PORT_ADDRESS, pair_passes (λ c p. is_bond_or_bridge c.kind && not (is_empty p.addrs)) links controller port) ∷ []

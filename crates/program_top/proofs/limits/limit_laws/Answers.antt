use Rattle.std.proofs.Common.{refl}
use Rattle.program_top.proofs.limits.limit_laws.Goals as goal

pub returns : goal.returns
returns c = record {
  inputs = record { bytes = refl; batch_bytes = refl; levels = refl; captures = refl; nodes = refl };
  parts = record { least_mtu = refl; greatest_mtu = refl; new_mtu = refl; vlan_id = refl; name = refl; domain = refl };
  counts = record { links = refl; link_addresses = refl; addresses = refl; routes = refl; rules = refl; servers = refl; search = refl };
  first_image = record { links = refl; addresses = refl; routes = refl; rules = refl };
  arguments = record { timeout = refl; least_devices = refl; most_devices = refl; least_nodes = refl; most_nodes = refl };
  refusals = record {
    no_link = refl;
    link_exists = refl;
    physical = refl;
    bad_base = refl;
    vlan_twin = refl;
    cycle = refl;
    base_down = refl;
    bad_mtu = refl;
    has_controller = refl;
    port_kind = refl;
    port_up = refl;
    port_address = refl;
    no_controller = refl;
    bad_options = refl;
    address_exists = refl;
    no_address = refl;
    link_down = refl;
    bad_gateway = refl;
    route_exists = refl;
    no_route = refl;
    rule_exists = refl;
    no_rule = refl;
    limit = refl;
  };
  draws = record { modulus = refl; factor = refl; step = refl; vlan_ids = refl; metrics = refl; devices = refl; rule_table = refl; raised_mtu = refl };
  trials = record { timeout = refl; first_at = refl; second_at = refl };
}

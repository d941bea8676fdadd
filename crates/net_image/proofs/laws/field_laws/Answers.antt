use Rattle.net_image.proofs.lemmas.FieldLaws.{maybe_name_exact, mac_exact, prefix_exact}
use Rattle.net_image.proofs.lemmas.LinkLaws.{kind_exact, bond_options_exact, bridge_options_exact, port_options_exact}
use Rattle.net_image.proofs.lemmas.RouteLaws.{route_exact}
use Rattle.net_image.proofs.lemmas.NetLaws.{rule_exact, settings_exact}
use Rattle.net_image.proofs.laws.field_laws.Goals as goal

pub returns : goal.returns
returns c = record { names = maybe_name_exact; macs = mac_exact; kinds = kind_exact; bonds = bond_options_exact; bridges = bridge_options_exact; ports = port_options_exact; prefixes = prefix_exact; routes = route_exact; rules = rule_exact; dns = settings_exact }

use Rattle.std.proofs.Common.{◌≡◌, ◌||◌, false, [], drop, find}
use Rattle.std.specs.List.{list_any}
use Rattle.std.specs.Option.{option_map_or, unwrap_or}
use Rattle.merge_model.specs.Controllers.{stated_ports, own_claim}
use Rattle.merge_model.specs.Places.{at_member}
use Rattle.merge_model.specs.BrokenPorts.{port_missing, is_missing, claims_missing}
use Rattle.link_rules.proofs.ports.port_missing.Given as goal

-- what is left decides
abbrev pub invariant-loop-at : goal.invariant-loop-at
invariant-loop-at l = at_member (find (λ m. list_any (is_missing l.members) (unwrap_or (stated_ports m) []) || option_map_or (claims_missing l.members) (own_claim m) false) (drop l.at l.list)) ≡ port_missing l.members

use Rattle.std.proofs.Common.{◌≡◌, not, [], drop, find}
use Rattle.std.specs.Option.{unwrap_or}
use Rattle.net_model.specs.Name.{same_bytes}
use Rattle.net_model.specs.Words.{apart}
use Rattle.merge_model.specs.Controllers.{stated_ports}
use Rattle.merge_model.specs.Places.{at_member}
use Rattle.merge_model.specs.BrokenPorts.{port_twice}
use Rattle.link_rules.proofs.ports.port_twice.Given as goal

-- what is left decides
abbrev pub invariant-loop-at : goal.invariant-loop-at
invariant-loop-at l = at_member (find (λ m. not (apart same_bytes (unwrap_or (stated_ports m) []))) (drop l.at l.list)) ≡ port_twice l.members

-- The merged ports of each controller.
use Rattle.std.specs.Prelude.{◌≡◌, ℕ, List, []}
use Rattle.std.specs.Option.{unwrap_or}
use Rattle.std.specs.BTreeMap.{BTreeMap, get}
use Rattle.net_model.specs.Order.{name_cmp}
use Rattle.merge_model.specs.Members.{Member}
use Rattle.merge_model.specs.LinkOptions.{merged_ports}

-- what the map has under a name, else nothing, are the names of its merged ports
abbrev pub HasPorts : List Member → BTreeMap (List ℕ) (List (List ℕ)) → Type 0
HasPorts ms ports = (q : List ℕ) → unwrap_or (get name_cmp ports q) [] ≡ merged_ports ms q

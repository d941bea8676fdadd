-- A link before its fields.
use Rattle.std.specs.Prelude.{false, []}
use Rattle.net_model.specs.Hardware.{virtual_mac}
use Rattle.net_model.specs.Options.{default_bond, default_bridge, default_port}
use Rattle.net_model.specs.declared.limits.TheConstants.{DEFAULT_MTU}
use Rattle.net_model.specs.declared.Link.{Link}

-- its name, kind and controller, and the defaults for all else
abbrev pub outline : Link → Link
outline l = record { name = l.name; kind = l.kind; up = false; mtu = DEFAULT_MTU; mac = virtual_mac l.name; controller = l.controller; bond = default_bond; bridge = default_bridge; port = default_port; addrs = [] }

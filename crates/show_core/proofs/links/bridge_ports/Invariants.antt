use Rattle.std.proofs.Common.{◌≡◌, map, take}
use Rattle.std.specs.List.{filter}
use Rattle.doc_tree.specs.Shape.{shape}
use Rattle.net_model.specs.Links.{is_port_of}
use Rattle.show_core.specs.Links.{bridge_port}
use Rattle.show_core.proofs.links.bridge_ports.Given as goal

abbrev pub invariant-loop-link : goal.invariant-loop-link
invariant-loop-link l = map shape l.trees.items ≡ map bridge_port (filter (is_port_of l.bridge) (take l.link-index l.links))

use Rattle.std.proofs.Common.{◌≡◌, map, take}
use Rattle.std.specs.List.{filter}
use Rattle.doc_tree.specs.Shape.{shape}
use Rattle.net_model.specs.Links.{is_named}
use Rattle.show_core.specs.Links.{link_tree}
use Rattle.show_core.proofs.network.named_links.Given as goal

abbrev pub invariant-loop-link : goal.invariant-loop-link
invariant-loop-link l = map shape l.trees.items ≡ map (link_tree l.links) (filter (is_named l.name) (take l.link-index l.links))

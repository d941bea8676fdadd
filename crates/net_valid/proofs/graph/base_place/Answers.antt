use Rattle.std.proofs.Common.{ap}
use Rattle.net_model.specs.Dependence.{has_base}
use Rattle.net_model.specs.declared.link.Link.{Link}
use Rattle.net_model.specs.declared.link.Kind.{Kind}
use Rattle.net_model.proofs.lemmas.Drawn.{by_name}
use Rattle.net_valid.proofs.graph.base_place.Goals as goal

pub returns-in-Vlan : goal.returns-in-Vlan
returns-in-Vlan c =
    by_name (λ (b : Link). has_base c.args.link.now.kind b.name) c.args.links.now c.in-Vlan.base c.place_of.result c.requires (λ l. ap (λ (k : Kind). has_base k l.name) c.in-Vlan.is) c.place_of.ensures

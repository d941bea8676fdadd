use Rattle.std.proofs.Common.{◌∙◌, ap}
use Rattle.std.specs.List.{list_any}
use Rattle.net_model.specs.Links.{is_twin}
use Rattle.net_model.specs.Lists.{NetData}
use Rattle.net_model.specs.declared.link.Link.{Link}
use Rattle.net_model.proofs.lemmas.VlanKeys.{twin_there}
use Rattle.net_core.proofs.parts.Parts.has_twin.Goals as goal

pub returns : goal.returns
returns c =
    c.has_vlan.ensures ∙ twin_there c.self.inside.links.items c.self.inside.indexes.vlans c.args.kind.now c.self.invariant.lists.vlans
    ∙ ap (λ (n : NetData). list_any (λ (l : Link). is_twin c.args.kind.now l.kind) n.links) c.self.view_is

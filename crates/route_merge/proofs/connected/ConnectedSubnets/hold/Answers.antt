use Rattle.std.proofs.Common.{List, ap, ◌∙◌}
use Rattle.std.specs.List.{list_any}
use Rattle.std.specs.BTreeSet.{contains}
use Rattle.net_model.specs.Links.{named_passes}
use Rattle.net_model.specs.OnLink.{holds}
use Rattle.net_model.specs.declared.Link.{Link}
use Rattle.route_merge.specs.Connected.{Connected, connected_cmp, narrowed}
use Rattle.route_merge.proofs.ConnectedSubnets.{found}
use Rattle.route_merge.proofs.connected.ConnectedSubnets.hold.Goals as goal

pub returns : goal.returns
returns c =
    let in_it = c.self.inside in
    let dev = c.args.dev.now in
    let gateway = c.args.gateway in
    c.holds_any.ensures
    ∙ ap (λ (lengths : List Connected). list_any (λ s. contains connected_cmp in_it.subnets (narrowed s (dev, gateway))) lengths) c.deref.ensures.value
    ∙ found in_it.lengths.items in_it.subnets in_it.links.now dev gateway c.self.invariant.0 c.self.invariant.1
    ∙ ap (λ (links : List Link). named_passes (λ l. list_any (λ b. holds b gateway) l.addrs) links dev) c.self.view_is

use Rattle.std.proofs.Common.{◌≡◌, ℕ, ◌<◌, List, [], ◌∷◌, length, Some, None, sym, subst}
use Rattle.std.specs.Option.{option_map_or}
use Rattle.net_model.specs.Links.{find_link, ports_of}
use Rattle.net_model.specs.NetData.{NetData, IsNet}
use Rattle.kernel_model.specs.Ports.{after_detach}
use Rattle.link_step.specs.Releasing.{Releases}
use Rattle.link_step.proofs.Primaries.{free_but_for}
use Rattle.link_step.proofs.Detached.{fewer_ports}
use Rattle.link_step.proofs.Released.{released_none, released_then, releases_controller, no_last, last_among, port_owned}
use Rattle.link_step.proofs.release.release_ports.Goals as goal

pub loop-port-init : goal.loop-port-init
loop-port-init c = released_none (c.args.name.now ∷ []) c.args.parts.now c.requires

pub detach_from-requires-clause-in_order : goal.detach_from-requires-clause-in_order
detach_from-requires-clause-in_order c = c.loop-port.invariant.net.in_order.links

pub detach_from-requires-clause-alone : goal.detach_from-requires-clause-alone
detach_from-requires-clause-alone c =
    let net : NetData = c.loop-port.parts in
    let is : IsNet net = c.loop-port.invariant.net in
    let name : List ℕ = c.args.name.now in
    let port : List ℕ = c.in-Some.port in
    free_but_for net is port name (port_owned net is name port (last_among (ports_of net.links name) port c.in-Some.ensures))

pub loop-port-preserved : goal.loop-port-preserved
loop-port-preserved c =
    let start : NetData = c.args.parts.now in
    let net : NetData = c.loop-port.parts in
    let is : IsNet net = c.loop-port.invariant.net in
    let name : List ℕ = c.args.name.now in
    let port : List ℕ = c.in-Some.port in
    let owns : option_map_or (λ l. l.controller) (find_link port net.links) None ≡ Some name = port_owned net is name port (last_among (ports_of net.links name) port c.in-Some.ensures) in
    subst (λ (n : NetData). Releases (name ∷ []) start n) (sym {A = NetData} c.detach_from.ensures)
    (released_then (name ∷ []) start net (after_detach port net) c.loop-port.invariant (releases_controller net is port name owns))

pub loop-port-smaller : goal.loop-port-smaller
loop-port-smaller c =
    let net : NetData = c.loop-port.parts in
    let name : List ℕ = c.args.name.now in
    let port : List ℕ = c.in-Some.port in
    subst (λ (n : NetData). length (ports_of n.links name) < length (ports_of net.links name)) (sym {A = NetData} c.detach_from.ensures)
    (fewer_ports port net.links name (last_among (ports_of net.links name) port c.in-Some.ensures))

pub returns-clause-free : goal.returns-clause-free
returns-clause-free c = no_last (ports_of c.loop-port.parts.links c.args.name.now) c.in_default.ensures

use Rattle.std.proofs.Common.{sym, ◌∙◌}
use Rattle.net_model.specs.NetData.{NetData, net_of}
use Rattle.net_model.proofs.lemmas.ValidMoved.{least_broken-sorting}
use Rattle.net_model.proofs.lemmas.Made.{made}
use Rattle.net_core.proofs.net.Net.new.Goals as goal

pub invariant_of-result : goal.invariant_of-result
invariant_of-result c =
    let given : NetData = net_of c.args.links.items c.args.routes.items c.args.rules.items c.args.dns in
    (made given c.in_ok-parts.parts c.in_ok-parts.ensures (sym c.in_ok-part.ensures ∙ c.in-None.is)).closed

pub returns-in-Some : goal.returns-in-Some
returns-in-Some c =
    let given : NetData = net_of c.args.links.items c.args.routes.items c.args.rules.items c.args.dns in
    sym (least_broken-sorting given c.in_ok-parts.parts c.in_ok-parts.ensures) ∙ sym c.in_ok-part.ensures ∙ c.in-Some.is

pub returns-in-None : goal.returns-in-None
returns-in-None c =
    let given : NetData = net_of c.args.links.items c.args.routes.items c.args.rules.items c.args.dns in
    let m = made given c.in_ok-parts.parts c.in_ok-parts.ensures (sym c.in_ok-part.ensures ∙ c.in-None.is) in
    (m.given_valid, m.is)

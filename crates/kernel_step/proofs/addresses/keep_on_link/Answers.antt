use Rattle.std.proofs.Common.{◌∙◌, List, sym, ap}
use Rattle.net_model.specs.Lists.{NetData}
use Rattle.net_model.specs.declared.route.Route.{Route}
use Rattle.kernel_step.proofs.addresses.keep_on_link.Goals as goal

pub returns-else-may_lose_routes : goal.returns-else-may_lose_routes
returns-else-may_lose_routes c =
    let net : NetData = c.args.parts.now in
    ap (λ (rs : List Route). let n : NetData = record net { routes = rs } in n) (sym (c.may_lose_routes.ensures (c.if-may_lose_routes.false)))

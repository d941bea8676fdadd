use Rattle.std.proofs.Common.{◌∙◌, filter, ap, sym, subst}
use Rattle.net_model.specs.Words.{rises}
use Rattle.net_model.specs.Order.{route_cmp}
use Rattle.net_model.specs.Lists.{NetData}
use Rattle.net_model.specs.Edits.{stays_on_link}
use Rattle.kernel_step.specs.Leaning.{Leans}
use Rattle.kernel_step.proofs.OnLink.{all_lean}
use Rattle.kernel_step.proofs.addresses.del_address.Goals as goal

pub keep_on_link-requires-clause-routes : goal.keep_on_link-requires-clause-routes
keep_on_link-requires-clause-routes c = ap (λ (n : NetData). rises route_cmp n.routes) c.remove_address.ensures.edit ∙ c.requires.in_order.routes

pub keep_on_link-requires-clause-leaning : goal.keep_on_link-requires-clause-leaning
keep_on_link-requires-clause-leaning c = subst (λ (n : NetData). Leans c.args.addr.now c.args.name.now n) (sym c.remove_address.ensures.edit) (all_lean c.args.parts.now c.requires c.args.name.now c.args.addr.now)

pub returns : goal.returns
returns c =
    c.keep_on_link.ensures
    ∙ ap (λ (n : NetData). let m : NetData = record n { routes = filter (stays_on_link c.args.name.now n.links) n.routes } in m) c.remove_address.ensures.edit

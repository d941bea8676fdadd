use Rattle.std.proofs.Common.{sym, ◌∙◌}
use Rattle.net_model.specs.Order.{route_cmp}
use Rattle.net_model.specs.Valid.{same_key}
use Rattle.net_model.proofs.lemmas.Orders.{route_cmp_total}
use Rattle.net_model.proofs.lemmas.Rises.{apart-steps, rises-steps}
use Rattle.net_model.proofs.lemmas.Ties.{keys_tie}
use Rattle.net_lists.proofs.valid_routes.keys_differ.Goals as goal

pub returns : goal.returns
returns c = c.routes_in_order.ensures ∙ sym (rises-steps route_cmp route_cmp_total c.args.routes.now) ∙ sym (apart-steps same_key route_cmp route_cmp_total keys_tie c.args.routes.now c.requires)

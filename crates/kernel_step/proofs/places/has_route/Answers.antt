use Rattle.std.proofs.Common.{◌∙◌, sym, ap}
use Rattle.net_model.specs.Edits.{same_route}
use Rattle.net_lists.proofs.lemmas.RouteLists.{no_same_route}
use Rattle.net_model.specs.Order.{route_cmp}
use Rattle.net_model.specs.Valid.{same_key}
use Rattle.kernel_step.proofs.Searching.{one_route, missed_any, key_tie}
use Rattle.kernel_step.proofs.places.has_route.Goals as goal

pub returns-in-Ok : goal.returns-in-Ok
returns-in-Ok c =
    c.same_route.ensures
    ∙ ap (same_route c.args.route.now) c.index-routes-i.is
    ∙ sym (one_route c.args.route.now c.args.routes.now c.in-Ok.i c.index-routes-i.result c.requires c.in-Ok.ensures)

pub returns-in-Err : goal.returns-in-Err
returns-in-Err c =
    sym (no_same_route c.args.route.now c.args.routes.now (missed_any route_cmp same_key key_tie c.args.route.now c.args.routes.now c.in-Err.field-0 c.in-Err.ensures))

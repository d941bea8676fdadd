use Rattle.std.proofs.Common.{List, ap, ◌∙◌}
use Rattle.std.specs.List.{list_any}
use Rattle.std.specs.BTreeSet.{contains}
use Rattle.document_model.specs.declared.RouteEntry.{RouteEntry}
use Rattle.merge_model.specs.Routes.{is_route_absent}
use Rattle.route_merge.specs.declared.absent_routes.StatedRoute.{StatedRoute}
use Rattle.route_merge.specs.AbsentRoutes.{stated_cmp, narrowed}
use Rattle.route_merge.proofs.AbsentRoutes.{found}
use Rattle.route_merge.proofs.absent_routes.AbsentRoutes.has.Goals as goal

pub returns : goal.returns
returns c =
    let in_it = c.self.inside in
    let r = c.args.route.now in
    c.matches_any.ensures
    ∙ ap (λ (shapes : List StatedRoute). list_any (λ s. contains stated_cmp in_it.stated (narrowed s r)) shapes) c.deref.ensures.value
    ∙ found in_it.shapes.items in_it.stated in_it.entries.now r c.self.invariant.0 c.self.invariant.1
    ∙ ap (λ (es : List RouteEntry). is_route_absent es r) c.self.view_is

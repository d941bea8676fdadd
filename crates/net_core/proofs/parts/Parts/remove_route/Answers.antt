use Rattle.std.proofs.Common.{◌≡◌, ◌∙◌, List, true, ap, sym, subst}
use Rattle.net_model.specs.Words.{rises}
use Rattle.net_model.specs.Order.{route_cmp}
use Rattle.net_model.specs.Lists.{NetData}
use Rattle.net_model.specs.KeyOrder.{key_cmp}
use Rattle.net_model.specs.declared.route.Route.{Route}
use Rattle.net_index.specs.Indexed.{AreIndexes}
use Rattle.net_model.specs.RoutePosition.{IsRouteAt}
use Rattle.net_lists.proofs.lemmas.RouteLists.{routes_rise}
use Rattle.net_index.proofs.lemmas.RouteIndexes.{removed_route}
use Rattle.net_core.proofs.parts.Parts.remove_route.Goals as goal

pub leave_out_key-requires : goal.leave_out_key-requires
leave_out_key-requires c =
    let up : rises route_cmp c.self.inside.routes.items ≡ true = ap (λ (n : NetData). rises route_cmp n.routes) c.self.view_is ∙ c.requires in
    ap (rises key_cmp) (c.self.invariant.lists.by_dev c.args.route.now.dev) ∙ routes_rise c.self.inside.routes.items c.args.route.now.dev up

pub invariant_of-self : goal.invariant_of-self
invariant_of-self c =
    record {
      lists = subst (λ (rs : List Route). AreIndexes c.self.inside.links.items rs (record c.self.inside.indexes { routes = c.leave_out_key.new.index })) (sym c.remove.ensures.items)
          (removed_route c.args.route.now c.in-Some.i c.self.inside.links.items c.self.inside.routes.items c.self.inside.indexes c.leave_out_key.new.index
          (subst (λ (rs : List Route). IsRouteAt c.args.route.now rs c.in-Some.i) c.deref.ensures.value c.in-Some.ensures) c.self.invariant.lists c.leave_out_key.ensures);
      count = c.self.invariant.count;
    }

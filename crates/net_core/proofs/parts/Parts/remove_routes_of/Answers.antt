use Rattle.std.proofs.Common.{◌∙◌, List, ap, sym, subst}
use Rattle.net_model.specs.Words.{is_among}
use Rattle.net_model.specs.Lists.{NetData}
use Rattle.net_model.specs.declared.route.Route.{Route}
use Rattle.net_index.specs.Indexed.{AreIndexes}
use Rattle.net_index.proofs.lemmas.RouteIndexes.{cleared_routes}
use Rattle.net_lists.proofs.lemmas.NoRoutes.{routes_stay}
use Rattle.net_core.proofs.parts.Parts.remove_routes_of.Goals as goal

pub invariant_of-self : goal.invariant_of-self
invariant_of-self c =
    record {
      lists = subst (λ (rs : List Route). AreIndexes c.self.inside.links.items rs (record c.self.inside.indexes { routes = c.clear_all.new.self })) (sym c.remove_routes.ensures)
          (cleared_routes (is_among c.args.devs.now) c.self.inside.links.items c.self.inside.routes.items c.self.inside.indexes c.clear_all.new.self c.self.invariant.lists c.clear_all.ensures);
      count = c.self.invariant.count;
    }

pub returns-else-have_routes : goal.returns-else-have_routes
returns-else-have_routes c =
    let net : NetData = c.args.self.now in
    ap (λ (rs : List Route). let n : NetData = record net { routes = rs } in n) (sym (routes_stay c.args.devs.now net.routes (sym c.have_routes.ensures ∙ c.if-have_routes.false)))

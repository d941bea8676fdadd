use Rattle.std.proofs.Common.{◌≡◌, ◌∙◌, List, true, false, ap, sym, subst}
use Rattle.std.specs.List.{list_any}
use Rattle.std.specs.Ordering.{is_eq}
use Rattle.net_model.specs.Words.{rises, put}
use Rattle.net_model.specs.Order.{route_cmp}
use Rattle.net_model.specs.Valid.{same_key}
use Rattle.net_model.specs.Lists.{NetData}
use Rattle.net_model.specs.declared.route.Route.{Route}
use Rattle.net_model.specs.KeyOrder.{key_cmp}
use Rattle.net_model.specs.OfName.{key_of}
use Rattle.net_index.specs.Indexed.{AreIndexes}
use Rattle.net_lists.proofs.lemmas.RouteLists.{routes_rise, new_key}
use Rattle.net_index.proofs.lemmas.RouteIndexes.{put_route}
use Rattle.net_core.proofs.parts.Parts.put_route.Goals as goal

pub put_key-requires-clause-in_order : goal.put_key-requires-clause-in_order
put_key-requires-clause-in_order c =
    let up : rises route_cmp c.self.inside.routes.items ≡ true = ap (λ (n : NetData). rises route_cmp n.routes) c.self.view_is ∙ c.requires.in_order in
    ap (rises key_cmp) (c.self.invariant.lists.by_dev c.args.route.dev) ∙ routes_rise c.self.inside.routes.items c.args.route.dev up

pub put_key-requires-clause-new : goal.put_key-requires-clause-new
put_key-requires-clause-new c =
    let none : list_any (same_key c.args.route) c.self.inside.routes.items ≡ false = ap (λ (n : NetData). list_any (same_key c.args.route) n.routes) c.self.view_is ∙ c.requires.new in
    ap (list_any (λ k. is_eq (key_cmp k (key_of c.args.route)))) (c.self.invariant.lists.by_dev c.args.route.dev) ∙ new_key c.args.route c.self.inside.routes.items c.args.route.dev none

pub invariant_of-self-2 : goal.invariant_of-self-2
invariant_of-self-2 c =
    let routes : List Route = c.self.inside.routes.items in
    let up : rises route_cmp routes ≡ true = ap (λ (n : NetData). rises route_cmp n.routes) c.self.view_is ∙ c.requires.in_order in
    record {
      lists = subst (λ (rs : List Route). AreIndexes c.self.inside.links.items rs (record c.self.inside.indexes { routes = c.put_key.new.index })) (sym (c.insert_route.ensures ∙ ap (put route_cmp c.args.route) c.reserve.ensures.items))
          (put_route c.args.route c.self.inside.links.items routes c.self.inside.indexes c.put_key.new.index up c.self.invariant.lists c.in_ok-put_key.ensures.ok);
      count = c.self.invariant.count;
    }

use Rattle.std.proofs.Common.{arith, ◌∙◌, ◌<◌, ◌++◌, ◌∷◌, [], List, length, take, ap, sym}
use Rattle.net_model.specs.declared.route.Route.{Route}
use Rattle.net_model.specs.Name.{same_bytes}
use Rattle.net_model.specs.OfName.{key_of, routes_of}
use Rattle.net_model.specs.declared.route_key.RouteKey.{RouteKey}
use Rattle.net_model.proofs.lemmas.Listing.{keys_more}
use Rattle.net_index.proofs.build.add_keys.Goals as goal

pub loop-at-preserved : goal.loop-at-preserved
loop-at-preserved c = λ k.
    let inside : c.loop-at.at < length c.args.routes.now = omega (arith, c.loop-at-test.true, c.loop-at.auto.at-end) in
    let x : Route = c.index-routes-at.result in
    c.in_ok-add_key.ensures k ∙ ap (λ (ys : List RouteKey). ys ++ routes_of (x ∷ []) k) (c.loop-at.invariant k)
    ∙ ap (λ (y : Route). routes_of (take c.loop-at.at c.args.routes.now) k ++ routes_of (y ∷ []) k) c.index-routes-at.is
    ∙ sym (keys_more key_of (λ r. same_bytes r.dev k) c.args.routes.now c.loop-at.at x inside)

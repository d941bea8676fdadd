use Rattle.std.proofs.Common.{◌≡◌, ◌∙◌, ℕ, true, false, List, get_or, ap, sym, refl}
use Rattle.std.proofs.lemmas.List.{get_or_default}
use Rattle.net_model.specs.Valid.{same_key}
use Rattle.net_model.specs.declared.route.Route.{Route}
use Rattle.net_model.proofs.lemmas.Places.{none_at}
use Rattle.net_model.specs.Edits.{same_route}
use Rattle.net_lists.proofs.lemmas.RouteLists.{same_route_key, none_removed, no_same_route}
use Rattle.net_edits.proofs.route_edits.position_of.Goals as goal

pub returns-then-same_route : goal.returns-then-same_route
returns-then-same_route c =
    let route : Route = c.args.route.now in
    let l : Route = c.index-routes-i.result in
    record {
      inside = c.in-At.ensures.inside;
      removes = c.in-At.ensures.removes (same_route route) (same_route_key route)
          (λ d. ap (same_route route) (get_or_default c.args.routes.now c.in-At.i d l c.in-At.ensures.inside ∙ sym c.index-routes-i.is) ∙ sym c.same_route.ensures ∙ c.if-same_route.true);
      by_key = c.in-At.ensures.removes (same_key route) (λ y h. h) c.in-At.ensures.same;
    }

pub returns-else-same_route : goal.returns-else-same_route
returns-else-same_route c =
    let route : Route = c.args.route.now in
    let routes : List Route = c.args.routes.now in
    let i : ℕ = c.in-At.i in
    let l : Route = c.index-routes-i.result in
    none_removed (same_route route) routes
    (none_at (same_route route) routes (λ k d lt.
    elim (same_route route (get_or routes k d)) as (λ v. same_route route (get_or routes k d) ≡ v → v ≡ false) [
      | true ↦ λ e.
          let at : k ≡ i = c.in-At.ensures.only k d lt (same_route_key route (get_or routes k d) e) in
          sym e ∙ ap (λ (j : ℕ). same_route route (get_or routes j d)) at ∙ ap (same_route route) (get_or_default routes i d l c.in-At.ensures.inside ∙ sym c.index-routes-i.is) ∙ sym c.same_route.ensures ∙ c.if-same_route.false
      | false ↦ λ e. refl
    ] refl))

pub returns-in-Gap : goal.returns-in-Gap
returns-in-Gap c = none_removed (same_route c.args.route.now) c.args.routes.now (no_same_route c.args.route.now c.args.routes.now c.in-Gap.ensures.none)

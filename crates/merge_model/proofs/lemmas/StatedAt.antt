-- The stated routes with the positions of their entries, one more at a time.
use Rattle.std.proofs.Common.{◌≡◌, ℕ, ◌+◌, List, ◌∷◌, ◌++◌, Some, None, refl, ◌∙◌, append_assoc}
use Rattle.std.specs.Option.{option_map, option_map_or, option_to_list}
use Rattle.net_model.specs.declared.Route.{Route}
use Rattle.document_model.specs.declared.RouteEntry.{RouteEntry}
use Rattle.merge_model.specs.Routes.{stated_route}
use Rattle.merge_model.specs.BrokenRoutes.{stated_at}

-- what an entry states comes next
pub one_stated : (seen : List (ℕ × Route)) (at : ℕ) (e : RouteEntry) (es : List RouteEntry) → (seen ++ option_to_list (option_map (λ (r : Route). (at, r)) (stated_route e))) ++ stated_at (at + 1) es ≡ seen ++ stated_at at (e ∷ es)
one_stated seen at e es = append_assoc seen (option_to_list (option_map (λ (r : Route). (at, r)) (stated_route e))) (stated_at (at + 1) es) ∙ elim (stated_route e) as (λ v. seen ++ (option_to_list (option_map (λ (r : Route). (at, r)) v) ++ stated_at (at + 1) es) ≡ seen ++ option_map_or (λ (r : Route). (at, r) ∷ stated_at (at + 1) es) v (stated_at (at + 1) es)) [
  | None ↦ refl
  | Some r ↦ refl
]

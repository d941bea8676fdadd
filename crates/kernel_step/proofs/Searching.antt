-- What a binary search tells of a strictly sorted list, by the test of what is the same.
use Rattle.std.proofs.Common.{◌≡◌, ℕ, Bool, true, false, List, get_or, Ordering, refl, sym, ap, ◌∙◌, arith}
use Rattle.std.specs.Prelude.{Ok, Err, insert}
use Rattle.std.specs.List.{list_any}
use Rattle.std.specs.Ordering.{is_eq}
use Rattle.net_model.specs.Rule.{RuleParts}
use Rattle.net_model.specs.Words.{put, rises}
use Rattle.net_model.specs.Edits.{same_route}
use Rattle.net_model.specs.Order.{route_cmp, rule_cmp}
use Rattle.net_model.specs.OrderLaws.{rule_cmp_total}
use Rattle.net_model.specs.Valid.{same_key, same_rule}
use Rattle.net_model.specs.declared.route.Route.{Route}
use Rattle.net_model.proofs.lemmas.Orders.{route_cmp_total}
use Rattle.net_model.proofs.lemmas.Ties.{keys_tie, rules_tie}
use Rattle.net_model.proofs.lemmas.Rises.{apart-rises}
use Rattle.net_model.proofs.lemmas.Places.{any_at, none_at, stands}
use Rattle.net_lists.proofs.lemmas.RouteLists.{same_route_key}
use Rattle.reach.proofs.lemmas.Marks.{any_default}
use Rattle.kernel_laws.proofs.lemmas.InPlace.{insert_is_put}
use Rattle.kernel_laws.proofs.lemmas.Searched.{met, missed, tied_both}
use Rattle.kernel_step.specs.Searches.{Searches}

module _ {X : Type 0} (R : X → X → Ordering) (same : X → X → Bool) (tie : (x y : X) → same x y ≡ is_eq (R y x)) (x : X) (xs : List X) where
  pub met_any : (i : ℕ) → Searches R x xs (Ok i) → list_any (same x) xs ≡ true
  met_any i s = met (λ y. R y x) (same x) (tie x) xs i x s.0 (s.1 x)

  pub missed_any : (i : ℕ) → Searches R x xs (Err i) → list_any (same x) xs ≡ false
  missed_any i s = missed (λ y. R y x) (same x) (tie x) xs i s.1

  pub met_puts : (i : ℕ) → Searches R x xs (Ok i) → list_any (same x) xs ≡ false → insert xs i x ≡ put R x xs
  met_puts i s none = let no : true ≡ false = sym (met_any i s) ∙ none in absurd cc

  pub missed_puts : (i : ℕ) → Searches R x xs (Err i) → insert xs i x ≡ put R x xs
  missed_puts i s = insert_is_put R x xs i s.0 (λ k d lt. s.1.0 k d (omega (arith, s.0, lt)) lt) (λ k d above lt. s.1.1 k d above lt)

pub key_tie : (a b : Route) → same_key a b ≡ is_eq (route_cmp b a)
key_tie a b = keys_tie a b ∙ tied_both route_cmp route_cmp_total a b

pub rule_tie : (a b : RuleParts) → same_rule a b ≡ is_eq (rule_cmp b a)
rule_tie a b = rules_tie a b ∙ tied_both rule_cmp rule_cmp_total a b

-- a route of all these fields is there where that of its key has them
pub one_route : (route : Route) (routes : List Route) (i : ℕ) (d : Route) → rises route_cmp routes ≡ true → Searches route_cmp route routes (Ok i) → list_any (same_route route) routes ≡ same_route route (get_or routes i d)
one_route route routes i d up s = elim (same_route route (get_or routes i d)) as (λ v. same_route route (get_or routes i d) ≡ v → list_any (same_route route) routes ≡ v) [
  | true ↦ λ e. any_at (same_route route) routes i d s.0 e
  | false ↦ λ e. none_at (same_route route) routes (λ k q lt.
      elim (same_route route (get_or routes k q)) as (λ v. same_route route (get_or routes k q) ≡ v → v ≡ false) [
        | true ↦ λ h.
            let there = stands same_key route_cmp route_cmp_total keys_tie route routes (apart-rises same_key route_cmp keys_tie routes up) i s.0 s.1 in
            let at : k ≡ i = there.only k q lt (same_route_key route (get_or routes k q) h) in
            sym h ∙ ap (λ j. same_route route (get_or routes j q)) at ∙ ap (same_route route) (any_default routes i q d s.0) ∙ e
        | false ↦ λ h. refl
      ] refl)
] refl

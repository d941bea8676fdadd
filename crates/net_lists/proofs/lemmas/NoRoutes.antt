-- The routes of devices that have none.
use Rattle.std.proofs.Common.{◌≡◌, ◌∙◌, ℕ, Bool, true, false, not, ◌||◌, cond, List, [], ◌∷◌, map, filter, refl, sym}
use Rattle.std.specs.List.{list_any}
use Rattle.std.proofs.lemmas.Cmp.{nat_list_eq_equiv}
use Rattle.net_model.specs.Name.{same_bytes}
use Rattle.net_model.specs.Words.{is_among, is_empty}
use Rattle.net_model.specs.OfName.{routes_of, key_of}
use Rattle.net_model.specs.declared.route.Route.{Route}
use Rattle.net_model.proofs.lemmas.Truth.{or_left_false, or_right_false}
use Rattle.net_model.proofs.lemmas.Places.{none_at}
use Rattle.net_model.proofs.lemmas.Listing.{any_agree}
use Rattle.net_lists.proofs.lemmas.RouteLists.{none_removed}

-- the device has a route
abbrev has_route : List Route → List ℕ → Bool
has_route routes dev = not (is_empty (routes_of routes dev))

-- where none passes one test or the other, none passes either
neither : {X : Type 0} (p q : X → Bool) (xs : List X) → list_any p xs ≡ false → list_any q xs ≡ false → list_any (λ x. p x || q x) xs ≡ false
neither p q [] left right = refl
neither p q (x ∷ xs) left right =
    rw (or_left_false (p x) (list_any p xs) left, or_left_false (q x) (list_any q xs) right)
    (neither p q xs (or_right_false (p x) (list_any p xs) left) (or_right_false (q x) (list_any q xs) right))

-- the index has keys of a device where a route is of it
has_keys : (routes : List Route) (dev : List ℕ) → has_route routes dev ≡ list_any (λ (r : Route). same_bytes r.dev dev) routes
has_keys [] dev = refl
has_keys (r ∷ rs) dev =
    elim (same_bytes r.dev dev) as (λ v. not (is_empty (map key_of (cond v (r ∷ filter (λ q. same_bytes q.dev dev) rs) (filter (λ q. same_bytes q.dev dev) rs)))) ≡ (v || list_any (λ (q : Route). same_bytes q.dev dev) rs)) [
      | true ↦ refl
      | false ↦ has_keys rs dev
    ]

-- where none of the devices has one, no route is of one of them
none_goes : (devs : List (List ℕ)) (routes : List Route) → list_any (has_route routes) devs ≡ false → list_any (λ (r : Route). is_among devs r.dev) routes ≡ false
none_goes [] routes none = none_at (λ (r : Route). false) routes (λ k d lt. refl)
none_goes (dev ∷ devs) routes none =
    let here : list_any (λ (r : Route). same_bytes dev r.dev) routes ≡ false =
    any_agree (λ (r : Route). same_bytes dev r.dev) (λ (r : Route). same_bytes r.dev dev) (λ r. nat_list_eq_equiv.symm dev r.dev) routes
    ∙ sym (has_keys routes dev) ∙ or_left_false (has_route routes dev) (list_any (has_route routes) devs) none in
    neither (λ (r : Route). same_bytes dev r.dev) (λ (r : Route). is_among devs r.dev) routes here
    (none_goes devs routes (or_right_false (has_route routes dev) (list_any (has_route routes) devs) none))

-- and all stay
pub routes_stay : (devs : List (List ℕ)) (routes : List Route) → list_any (has_route routes) devs ≡ false → filter (λ r. not (is_among devs r.dev)) routes ≡ routes
routes_stay devs routes none = sym (none_removed (λ (r : Route). is_among devs r.dev) routes (none_goes devs routes none))

-- What is known of the keys of routes that are strictly sorted, and of routes that aren't there.
use Rattle.std.proofs.Common.{◌≡◌, ◌∙◌, ℕ, Bool, true, false, not, ◌&&◌, List, [], ◌∷◌, None, filter, refl, sym, ap}
use Rattle.std.specs.List.{list_any, find}
use Rattle.std.specs.Option.{option_eq}
use Rattle.std.specs.Ordering.{is_eq}
use Rattle.net_model.specs.Name.{same_bytes}
use Rattle.net_model.specs.Words.{rises}
use Rattle.net_model.specs.Order.{route_cmp}
use Rattle.net_model.specs.Valid.{same_address, same_key}
use Rattle.net_model.specs.declared.route.Route.{Route}
use Rattle.net_model.proofs.lemmas.Ties.{keys_tie}
use Rattle.net_model.proofs.lemmas.Truth.{and_left, or_left_false, or_right_false}
use Rattle.net_model.specs.KeyOrder.{key_cmp, key_cmp_total}
use Rattle.net_model.specs.Edits.{same_route}
use Rattle.net_model.specs.OfName.{key_of, routes_of}
use Rattle.net_model.proofs.lemmas.Listing.{keys_rise, keys_new, any_agree, ties_turned}

-- the keys of a device's routes are strictly sorted where the routes are
pub routes_rise : (routes : List Route) (k : List ℕ) → rises route_cmp routes ≡ true → rises key_cmp (routes_of routes k) ≡ true
routes_rise routes k up = keys_rise key_of (λ r. same_bytes r.dev k) key_cmp routes up

-- the key of a route that isn't there is listed under no device
pub new_key : (route : Route) (routes : List Route) (dev : List ℕ) → list_any (same_key route) routes ≡ false → list_any (λ k. is_eq (key_cmp k (key_of route))) (routes_of routes dev) ≡ false
new_key route routes dev none =
    keys_new key_of (λ r. same_bytes r.dev dev) key_cmp (λ k. is_eq (key_cmp k (key_of route))) routes
    (any_agree (λ r. is_eq (key_cmp (key_of r) (key_of route))) (same_key route) (λ r. ties_turned key_cmp key_cmp_total (key_of r) (key_of route) ∙ sym (keys_tie route r)) routes ∙ none)

-- a route with all fields has the key
pub same_route_key : (route r : Route) → same_route route r ≡ true → same_key route r ≡ true
same_route_key route r h = and_left (same_key route r) (option_eq same_address route.gateway r.gateway) (and_left (same_key route r && option_eq same_address route.gateway r.gateway) (same_bytes route.dev r.dev) h)

-- where none passes, nothing is taken out
pub none_removed : {X : Type 0} (p : X → Bool) (xs : List X) → list_any p xs ≡ false → xs ≡ filter (λ x. not (p x)) xs
none_removed p [] none = refl
none_removed {X} p (x ∷ xs) none = rw (or_left_false (p x) (list_any p xs) none) (ap (λ (ys : List X). x ∷ ys) (none_removed p xs (or_right_false (p x) (list_any p xs) none)))

-- and nothing is found
pub none_found : {X : Type 0} (p : X → Bool) (xs : List X) → list_any p xs ≡ false → find p xs ≡ None
none_found p [] none = refl
none_found p (x ∷ xs) none = rw (or_left_false (p x) (list_any p xs) none) (none_found p xs (or_right_false (p x) (list_any p xs) none))

-- where none has the key, none has all fields
pub no_same_route : (route : Route) (routes : List Route) → list_any (same_key route) routes ≡ false → list_any (same_route route) routes ≡ false
no_same_route route [] none = refl
no_same_route route (r ∷ rs) none =
    let off : same_route route r ≡ false = elim (same_route route r) as (λ v. same_route route r ≡ v → v ≡ false) [
      | true ↦ λ e. sym (same_route_key route r e) ∙ or_left_false (same_key route r) (list_any (same_key route) rs) none
      | false ↦ λ e. refl
    ] refl in
    rw off (no_same_route route rs (or_right_false (same_key route r) (list_any (same_key route) rs) none))

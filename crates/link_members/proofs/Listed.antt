-- The places of ports in stated lists.
use Rattle.std.proofs.Common.{◌≡◌, ℕ, ◌+◌, ◌<◌, suc, Bool, true, false, not, ◌||◌, cond, List, [], ◌∷◌, map, length, get_or, Option, Some, None, is_some, nat_lt, refl, sym, ap, ◌∙◌, arith}
use Rattle.std.specs.List.{find, position, position_or_len, list_any}
use Rattle.std.specs.Option.{option_map, option_map_or, option_and_then, unwrap_or}
use Rattle.std.proofs.lemmas.Bool.Decides.{nat_tests}
use Rattle.std.proofs.lemmas.List.{get_or-map, length-map, get_or_default}
use Rattle.std.proofs.lemmas.List.Quantifiers.{position-Some}
use Rattle.reach.proofs.lemmas.Marks.{any_default}
use Rattle.net_model.specs.Name.{same_bytes}
use Rattle.merge_model.specs.Members.{Member}
use Rattle.merge_model.specs.Controllers.{stated_ports, lists}
use Rattle.link_members.specs.Listers.{port_names, port_place}
use Rattle.link_members.specs.Positions.{FindsAt}
use Rattle.link_members.proofs.Firsts.{listed}
use Rattle.link_order.proofs.lemmas.Placed.{placed, unplaced}

none_within : nat_lt 0 0 ≡ false
none_within = grind (arith, nat_tests)

first_within : (n : ℕ) → nat_lt 0 (suc n) ≡ true
first_within n = grind (arith, nat_tests)

one_within : (m n : ℕ) → nat_lt (1 + m) (suc n) ≡ nat_lt m n
one_within m n = grind (arith, nat_tests)

any_within : {X : Type 0} (p : X → Bool) (xs : List X) → nat_lt (position_or_len p xs) (length xs) ≡ list_any p xs
any_within p [] = none_within
any_within p (x ∷ xs) = elim (p x) as (λ v. nat_lt (cond (not v) (1 + position_or_len p xs) 0) (suc (length xs)) ≡ (v || list_any p xs)) [
  | true ↦ first_within (length xs)
  | false ↦ one_within (position_or_len p xs) (length xs) ∙ any_within p xs
]

-- what passes has a place where one passes
pub has_place : {X : Type 0} (p : X → Bool) (xs : List X) → is_some (position p xs) ≡ list_any p xs
has_place p xs = told (nat_lt (position_or_len p xs) (length xs)) (position_or_len p xs) ∙ any_within p xs
  where
    told : (b : Bool) (n : ℕ) → is_some (cond b (Some n) None) ≡ b
    told true n = refl
    told false n = refl

-- the list of the link that is found names the port where the port has a place in it
pub place_lists : (q : List ℕ) (o : Option Member) → is_some (option_and_then (port_place q) o) ≡ option_map_or (λ (c : Member). lists c q) o false
place_lists q None = refl
place_lists q (Some c) = has_place (λ n. same_bytes n q) (port_names c) ∙ listed (stated_ports c) q

-- what another list gives of the first that passes
pub placed_beside : {X Y Z : Type 0} (f : X → Y) (q : Y → Bool) (g : X → Z) (xs : List X) (zs : List Z) (i : ℕ) (z : Z) (e : Y) → position q (map f xs) ≡ Some i → zs ≡ map g xs → z ≡ get_or zs i z → Some z ≡ option_map g (find (λ x. q (f x)) xs)
placed_beside f q g [] zs i z e at are is = absurd cc
placed_beside f q g (x ∷ xs) zs i z e at are is =
    let s = position-Some q (map f (x ∷ xs)) i e at in
    let inside : i < length (x ∷ xs) = omega (arith, s.0, length-map (x ∷ xs) f) in
    ap Some (is ∙ ap (λ l. get_or l i z) are ∙ get_or-map g (x ∷ xs) i x z inside)
    ∙ ap (option_map g) (placed f q (x ∷ xs) i (get_or (x ∷ xs) i x) e at (any_default (x ∷ xs) i x (get_or (x ∷ xs) i x) inside))

-- the place in the list of the link that is found
pub found_place : (q : List ℕ) (names : List (List ℕ)) (o : Option Member) → Some names ≡ option_map port_names o → position (λ n. same_bytes n q) names ≡ option_and_then (port_place q) o
found_place q names None e = absurd cc
found_place q names (Some c) e = ap (λ (v : Option (List (List ℕ))). position (λ n. same_bytes n q) (unwrap_or v names)) e

-- the place of a name among those of the links is that of the first link of this name
pub finds_at : (ms : List Member) (q : List ℕ) (o : Option ℕ) → position (λ n. same_bytes n q) (map (λ (m : Member). m.name) ms) ≡ o → FindsAt o q ms
finds_at ms q None is = unplaced (λ (m : Member). m.name) (λ n. same_bytes n q) ms is
finds_at ms q (Some i) is =
    let s = position-Some (λ n. same_bytes n q) (map (λ (m : Member). m.name) ms) i [] is in
    let inside : i < length ms = omega (arith, s.0, length-map ms (λ (m : Member). m.name)) in (
      inside,
      λ d. sym (placed (λ (m : Member). m.name) (λ n. same_bytes n q) ms i (get_or ms i d) [] is (get_or_default ms i d (get_or ms i d) inside)),
    )

-- Strictly sorted lists in which the same is found are equal.
use Rattle.std.proofs.Common.{◌≡◌, Bool, true, false, cond, List, [], ◌∷◌, Option, Some, None, Ordering, Less, Equal, Greater, refl, sym, ap, ◌∙◌}
use Rattle.std.specs.List.{list_all, find}
use Rattle.std.specs.Ordering.{is_lt, is_eq, ordering_reverse}
use Rattle.std.specs.Cmp.{IsTotalOrder}
use Rattle.net_model.specs.Words.{rises}
use Rattle.net_model.specs.Order.{block_cmp, link_cmp, route_cmp, rule_cmp}
use Rattle.net_model.specs.OrderLaws.{block_cmp_total, rule_cmp_total}
use Rattle.net_model.specs.Valid.{same_block, same_key, same_rule}
use Rattle.net_model.specs.Links.{same_name}
use Rattle.net_model.proofs.lemmas.Truth.{and_left, and_right}
use Rattle.net_model.proofs.lemmas.Found.{names_tie}
use Rattle.net_model.proofs.lemmas.Ties.{blocks_tie, keys_tie, rules_tie}
use Rattle.net_model.proofs.lemmas.Orders.{link_cmp_total, route_cmp_total}
use Rattle.std.proofs.lemmas.Cmp.{tied_itself}
use Rattle.net_model.specs.SameLists.{SameLinks, SameAddresses, SameRoutes, SameRules}

module _ {X : Type 0} (R : X → X → Ordering) (E : X → X → Bool) (total : IsTotalOrder R) (tie : (x y : X) → E x y ≡ is_eq (R x y)) where
  itself : (x : X) → E x x ≡ true
  itself x = tie x x ∙ ap is_eq (tied_itself total x)

  is_equal : (r : Ordering) → is_eq r ≡ true → r ≡ Equal
  is_equal Less h = cc
  is_equal Equal h = refl
  is_equal Greater h = cc

  tied : (x y : X) → E x y ≡ true → R x y ≡ Equal
  tied x y h = is_equal (R x y) (sym (tie x y) ∙ h)

  less : (r : Ordering) → is_lt r ≡ true → r ≡ Less
  less Less h = refl
  less Equal h = cc
  less Greater h = cc

  -- what is found behind the head is above it
  found_above : (y z : X) (p : X → Bool) (xs : List X) → list_all (λ x. is_lt (R y x)) xs ≡ true → find p xs ≡ Some z → R y z ≡ Less
  found_above y z p [] above found = absurd cc
  found_above y z p (x ∷ xs) above found =
      elim (p x) as (λ v. cond v (Some x) (find p xs) ≡ Some z → R y z ≡ Less) [
        | true ↦ λ k. let same : x ≡ z = cc in ap (R y) (sym same) ∙ less (R y x) (and_left (is_lt (R y x)) (list_all (λ w. is_lt (R y w)) xs) above)
        | false ↦ λ k. found_above y z p xs (and_right (is_lt (R y x)) (list_all (λ w. is_lt (R y w)) xs) above) k
      ] found

  -- nothing tied with the head is found behind it
  none_behind : (w x : X) (xs : List X) → E w x ≡ true → list_all (λ y. is_lt (R x y)) xs ≡ true → find (E w) xs ≡ None
  none_behind w x [] h above = refl
  none_behind w x (y ∷ ys) h above =
      let low : R x y ≡ Less = less (R x y) (and_left (is_lt (R x y)) (list_all (λ z. is_lt (R x z)) ys) above) in
      let off : E w y ≡ false = tie w y ∙ ap is_eq (total.congr w x y (tied w x h) ∙ low) in
      ap (λ v. cond v (Some y) (find (E w) ys)) off ∙ none_behind w x ys h (and_right (is_lt (R x y)) (list_all (λ z. is_lt (R x z)) ys) above)

  clash : (x y : X) → R x y ≡ Less → R y x ≡ Less → ⊥
  clash x y h k = let wrong : Less ≡ Greater = sym h ∙ total.antisymm x y ∙ ap ordering_reverse k in absurd cc

  -- the heads are one
  same_heads : (x y : X) (xs ys : List X) → list_all (λ z. is_lt (R x z)) xs ≡ true → list_all (λ z. is_lt (R y z)) ys ≡ true → ((w : X) → find (E w) (x ∷ xs) ≡ find (E w) (y ∷ ys)) → x ≡ y
  same_heads x y xs ys ax ay same = of (E x y) refl (E y x) refl
    where
      at_x : cond (E x y) (Some y) (find (E x) ys) ≡ Some x
      at_x = sym (same x) ∙ ap (λ v. cond v (Some x) (find (E x) xs)) (itself x)

      at_y : cond (E y x) (Some x) (find (E y) xs) ≡ Some y
      at_y = same y ∙ ap (λ v. cond v (Some y) (find (E y) ys)) (itself y)

      of : (v : Bool) → E x y ≡ v → (w : Bool) → E y x ≡ w → x ≡ y
      of true e w f = let one : Some y ≡ Some x = sym (ap (λ b. cond b (Some y) (find (E x) ys)) e) ∙ at_x in cc
      of false e true f = let one : Some x ≡ Some y = sym (ap (λ b. cond b (Some x) (find (E y) xs)) f) ∙ at_y in cc
      of false e false f =
          let low : R y x ≡ Less = found_above y x (E x) ys ay (sym (ap (λ b. cond b (Some y) (find (E x) ys)) e) ∙ at_x) in
          let high : R x y ≡ Less = found_above x y (E y) xs ax (sym (ap (λ b. cond b (Some x) (find (E y) xs)) f) ∙ at_y) in
          absurd (clash x y high low)

  -- and so are the lists
  pub one_list : (xs ys : List X) → rises R xs ≡ true → rises R ys ≡ true → ((w : X) → find (E w) xs ≡ find (E w) ys) → xs ≡ ys
  one_list [] [] h k same = refl
  one_list [] (y ∷ ys) h k same =
      let wrong : (let o : Option X = None in o) ≡ Some y = same y ∙ ap (λ v. cond v (Some y) (find (E y) ys)) (itself y) in
      absurd cc
  one_list (x ∷ xs) [] h k same =
      let wrong : Some x ≡ (let o : Option X = None in o) = sym (ap (λ v. cond v (Some x) (find (E x) xs)) (itself x)) ∙ same x in
      absurd cc
  one_list (x ∷ xs) (y ∷ ys) h k same =
      let ax = and_left (list_all (λ z. is_lt (R x z)) xs) (rises R xs) h in
      let ay = and_left (list_all (λ z. is_lt (R y z)) ys) (rises R ys) k in
      let head : x ≡ y = same_heads x y xs ys ax ay same in
      let tails : xs ≡ ys = one_list xs ys (and_right (list_all (λ z. is_lt (R x z)) xs) (rises R xs) h) (and_right (list_all (λ z. is_lt (R y z)) ys) (rises R ys) k) (λ w. later w ax ay head (E w x) refl) in
      cc
    where
      later : (w : X) → list_all (λ z. is_lt (R x z)) xs ≡ true → list_all (λ z. is_lt (R y z)) ys ≡ true → x ≡ y → (v : Bool) → E w x ≡ v → find (E w) xs ≡ find (E w) ys
      later w ax ay head true e = none_behind w x xs e ax ∙ sym (none_behind w y ys (ap (E w) (sym head) ∙ e) ay)
      later w ax ay head false e =
          sym (ap (λ v. cond v (Some x) (find (E w) xs)) e) ∙ same w ∙ ap (λ v. cond v (Some y) (find (E w) ys)) (ap (E w) (sym head) ∙ e)

pub same_links : SameLinks
same_links xs ys h k same = one_list link_cmp same_name link_cmp_total names_tie xs ys h k (λ w. same w.name)

pub same_addresses : SameAddresses
same_addresses = one_list block_cmp same_block block_cmp_total blocks_tie

pub same_routes : SameRoutes
same_routes = one_list route_cmp same_key route_cmp_total keys_tie

pub same_rules : SameRules
same_rules = one_list rule_cmp same_rule rule_cmp_total rules_tie

-- Lists in order are settled by their members.
use Rattle.std.proofs.Common.{◌≡◌, ℕ, ◌<◌, zero, suc, Bool, true, false, cond, if◌then◌else◌, List, [], ◌∷◌, length, get_or, ◌⊎◌, inl, inr, refl, sym, ap, subst, ◌∙◌, arith, Ordering, Less, Equal, Greater, IsPermutation}
use Rattle.std.specs.List.{list_all, sum_by, Contains}
use Rattle.std.specs.Ordering.{is_lt, is_eq, ordering_reverse}
use Rattle.std.specs.Cmp.{IsTotalOrder, IsStrictWeakOrder}
use Rattle.std.proofs.lemmas.Cmp.{tied_itself}
use Rattle.std.proofs.lemmas.List.Sums.{sum_by-cons}
use Rattle.std.proofs.lemmas.List.Sorted.{sum_by-IsPermutation, ranks_by, IsPermutation-refl, IsPermutation-cons, IsPermutation-trans, IsPermutation-sym, IsPermutation-middle, Contains-permutation}
use Rattle.net_model.specs.Words.{apart, rises, put, sorted}
use Rattle.net_model.proofs.lemmas.Truth.{and_left, and_right}
use Rattle.net_model.proofs.lemmas.Rises.{Climbs, NoneBefore, apart-sorted}
use Rattle.net_model.proofs.lemmas.Permute.{apart-IsPermutation}

module _ {X : Type 0} (R : X → X → Ordering) (total : IsTotalOrder R) where
  abbrev lt : X → X → Bool
  lt x y = is_lt (R x y)

  weak : IsStrictWeakOrder (λ x y. is_lt (R x y))
  weak = ranks_by total (λ x. x)

  put_none : (x a : X) (bs : List X) → lt a x ≡ false → NoneBefore R x bs → NoneBefore R x (put R a bs)
  put_none x a [] h k = (h, tt)
  put_none x a (b ∷ bs) h k = elim (lt b a) as (λ v. NoneBefore R x (if v then b ∷ put R a bs else a ∷ b ∷ bs)) [
    | true ↦ (k.0, put_none x a bs h k.1)
    | false ↦ (h, k)
  ]

  none_through : (a b : X) (bs : List X) → lt b a ≡ false → NoneBefore R b bs → NoneBefore R a bs
  none_through a b [] h k = tt
  none_through a b (c ∷ cs) h k = (weak.chain c b a k.0 h, none_through a b cs h k.1)

  put_climbs : (a : X) (bs : List X) → Climbs R bs → Climbs R (put R a bs)
  put_climbs a [] h = (tt, tt)
  put_climbs a (b ∷ bs) h = elim (lt b a) as (λ v. lt b a ≡ v → Climbs R (if v then b ∷ put R a bs else a ∷ b ∷ bs)) [
    | true ↦ λ e. (put_none b a bs (weak.one_way b a e) h.0, put_climbs a bs h.1)
    | false ↦ λ e. ((e, none_through a b bs e h.0), h)
  ] refl

  pub sorted_climbs : (xs : List X) → Climbs R (sorted R xs)
  sorted_climbs [] = tt
  sorted_climbs (x ∷ xs) = put_climbs x (sorted R xs) (sorted_climbs xs)

  put_moves : (a : X) (bs : List X) → IsPermutation (a ∷ bs) (put R a bs)
  put_moves a [] = IsPermutation-refl (a ∷ [])
  put_moves a (b ∷ bs) = elim (lt b a) as (λ v. IsPermutation (a ∷ b ∷ bs) (if v then b ∷ put R a bs else a ∷ b ∷ bs)) [
    | true ↦ IsPermutation-trans (a ∷ b ∷ bs) (b ∷ a ∷ bs) (b ∷ put R a bs) (IsPermutation-middle (a ∷ []) b bs) (IsPermutation-cons b (a ∷ bs) (put R a bs) (put_moves a bs))
    | false ↦ IsPermutation-refl (a ∷ b ∷ bs)
  ]

  pub sorted_moves : (xs : List X) → IsPermutation xs (sorted R xs)
  sorted_moves [] = IsPermutation-refl []
  sorted_moves (x ∷ xs) = IsPermutation-trans (x ∷ xs) (x ∷ sorted R xs) (put R x (sorted R xs)) (IsPermutation-cons x xs (sorted R xs) (sorted_moves xs)) (put_moves x (sorted R xs))

  abbrev before : X → X → ℕ
  before y z = cond (lt z y) 1 0

  none_sum : (y : X) (ys : List X) → NoneBefore R y ys → sum_by (before y) ys ≡ 0
  none_sum y [] h = refl
  none_sum y (z ∷ zs) h =
      let first : before y z ≡ 0 = ap (λ b. cond b 1 0) h.0 in
      omega (arith, sum_by-cons (before y) z zs, first, none_sum y zs h.1)

  no_sum : (y x : X) (xs : List X) → sum_by (before y) (x ∷ xs) ≡ 0 → lt x y ≡ false
  no_sum y x xs h = elim (lt x y) as (λ v. lt x y ≡ v → v ≡ false) [
    | true ↦ λ e. let one : before y x ≡ 1 = ap (λ b. cond b 1 0) e in absurd (omega (arith, one, sum_by-cons (before y) x xs, h))
    | false ↦ λ e. refl
  ] refl

  not_itself : (x : X) → lt x x ≡ false
  not_itself x = ap is_lt (tied_itself total x)

  head_sum : (y : X) (ys : List X) → Climbs R (y ∷ ys) → sum_by (before y) (y ∷ ys) ≡ 0
  head_sum y ys h =
      let first : before y y ≡ 0 = ap (λ b. cond b 1 0) (not_itself y) in
      omega (arith, sum_by-cons (before y) y ys, first, none_sum y ys h.0)

  neither : (r s : Ordering) → r ≡ ordering_reverse s → is_lt r ≡ false → is_lt s ≡ false → r ≡ Equal
  neither Less s e h k = cc
  neither Equal s e h k = refl
  neither Greater Less e h k = cc
  neither Greater Equal e h k = e
  neither Greater Greater e h k = let wrong : Greater ≡ Less = e in absurd cc

  same_climbing : ((x y : X) → R x y ≡ Equal → x ≡ y) → (xs ys : List X) → Climbs R xs → Climbs R ys → ((f : X → ℕ) → sum_by f xs ≡ sum_by f ys) → xs ≡ ys
  same_climbing exact [] [] h k same = refl
  same_climbing exact [] (y ∷ ys) h k same = absurd (omega (arith, same (λ _. 1), sum_by-cons (λ _. 1) y ys))
  same_climbing exact (x ∷ xs) [] h k same = absurd (omega (arith, same (λ _. 1), sum_by-cons (λ _. 1) x xs))
  same_climbing exact (x ∷ xs) (y ∷ ys) h k same =
      let head : x ≡ y = exact x y (neither (R x y) (R y x) (total.antisymm x y) (no_sum y x xs (same (before y) ∙ head_sum y ys k)) (no_sum x y ys (sym (same (before x)) ∙ head_sum x xs h))) in
      let tail : xs ≡ ys = same_climbing exact xs ys h.1 k.1 (λ f. let heads : f x ≡ f y = ap f head in omega (arith, same f, sum_by-cons f x xs, sum_by-cons f y ys, heads)) in
      cc

  -- where what ties is one, a sorted list is the members in order
  pub exact_sorted : ((x y : X) → R x y ≡ Equal → x ≡ y) → (xs ys : List X) → IsPermutation xs ys → Climbs R ys → ys ≡ sorted R xs
  exact_sorted exact xs ys moved up =
      same_climbing exact ys (sorted R xs) up (sorted_climbs xs) (λ f. sum_by-IsPermutation f xs ys moved ∙ sym (sum_by-IsPermutation f xs (sorted R xs) (sorted_moves xs)))

  abbrev In : X → List X → Type 0
  In z [] = ⊥
  In z (x ∷ xs) = (z ≡ x) ⊎ In z xs

  in_at : (xs : List X) (k : ℕ) (d : X) → k < length xs → In (get_or xs k d) xs
  in_at [] k d lt = absurd (omega arith)
  in_at (x ∷ xs) zero d lt = inl refl
  in_at (x ∷ xs) (suc k) d lt = inr (in_at xs k d (omega arith))

  contains_in : (z : X) (xs : List X) → In z xs → Contains xs z
  contains_in z [] within = absurd within
  contains_in z (x ∷ xs) within = elim within [
    | inl e ↦ (0, omega arith, sym e)
    | inr deep ↦ let at = contains_in z xs deep in (suc at.0, omega (arith, at.1), at.2)
  ]

  in_moved : (xs ys : List X) → IsPermutation xs ys → (z : X) → In z xs → In z ys
  in_moved xs ys moved z within =
      let at = Contains-permutation xs ys z moved (contains_in z xs within) in
      subst (λ w. In w ys) at.2 (in_at ys at.0 z at.1)

  all_in : (p : X → Bool) (xs : List X) (z : X) → list_all p xs ≡ true → In z xs → p z ≡ true
  all_in p [] z each within = absurd within
  all_in p (x ∷ xs) z each within = elim within [
    | inl e ↦ ap p e ∙ and_left (p x) (list_all p xs) each
    | inr deep ↦ all_in p xs z (and_right (p x) (list_all p xs) each) deep
  ]

  not_both : (x y : X) → lt x y ≡ true → lt y x ≡ true → ⊥
  not_both x y h k = let wrong : true ≡ false = sym k ∙ weak.one_way x y h in absurd cc

  pub same_members : (xs ys : List X) → rises R xs ≡ true → rises R ys ≡ true → ((z : X) → In z xs → In z ys) → ((z : X) → In z ys → In z xs) → xs ≡ ys
  same_members [] [] up vp to back = refl
  same_members [] (y ∷ ys) up vp to back = absurd (back y (inl refl))
  same_members (x ∷ xs) [] up vp to back = absurd (to x (inl refl))
  same_members (x ∷ xs) (y ∷ ys) up vp to back =
      let u = and_left (list_all (λ z. is_lt (R x z)) xs) (rises R xs) up in
      let v = and_left (list_all (λ z. is_lt (R y z)) ys) (rises R ys) vp in
      let head : x ≡ y = elim (to x (inl refl)) [
        | inl e ↦ e
        | inr deep ↦ elim (back y (inl refl)) [
          | inl e ↦ sym e
          | inr far ↦ absurd (not_both x y (all_in (λ z. is_lt (R x z)) xs y u far) (all_in (λ z. is_lt (R y z)) ys x v deep))
        ]
      ] in
      let forth : (z : X) → In z xs → In z ys = λ z within. elim (to z (inr within)) [
        | inl e ↦ absurd (let below : lt x z ≡ true = all_in (λ w. is_lt (R x w)) xs z u within in
            let self : lt x x ≡ true = ap (lt x) (head ∙ sym e) ∙ below in
            not_both x x self self)
        | inr deep ↦ deep
      ] in
      let hither : (z : X) → In z ys → In z xs = λ z within. elim (back z (inr within)) [
        | inl e ↦ absurd (let below : lt y z ≡ true = all_in (λ w. is_lt (R y w)) ys z v within in
            let self : lt y y ≡ true = ap (lt y) (sym head ∙ sym e) ∙ below in
            not_both y y self self)
        | inr deep ↦ deep
      ] in
      let tail : xs ≡ ys = same_members xs ys (and_right (list_all (λ z. is_lt (R x z)) xs) (rises R xs) up) (and_right (list_all (λ z. is_lt (R y z)) ys) (rises R ys) vp) forth hither in
      cc

  pub turned_eq : (r s : Ordering) → r ≡ ordering_reverse s → is_eq r ≡ is_eq s
  turned_eq r Less e = ap is_eq e
  turned_eq r Equal e = ap is_eq e
  turned_eq r Greater e = ap is_eq e

  -- the members of a strictly sorted list, in any order, are put in order as that list
  pub rising_sorted : (xs ys : List X) → IsPermutation xs ys → rises R ys ≡ true → Climbs R ys → ys ≡ sorted R xs
  rising_sorted xs ys moved up climbs =
      let tie : X → X → Bool = λ x y. is_eq (R x y) in
      let both : IsPermutation ys (sorted R xs) = IsPermutation-trans ys xs (sorted R xs) (IsPermutation-sym xs ys moved) (sorted_moves xs) in
      let differ : apart tie (sorted R xs) ≡ true =
      sym (apart-IsPermutation tie (λ x y. turned_eq (R x y) (R y x) (total.antisymm x y)) ys (sorted R xs) both)
      ∙ apart-sorted tie R total (λ x y. refl) ys climbs ∙ up in
      let rising : rises R (sorted R xs) ≡ true = sym (apart-sorted tie R total (λ x y. refl) (sorted R xs) (sorted_climbs xs)) ∙ differ in
      same_members ys (sorted R xs) up rising (in_moved ys (sorted R xs) both) (in_moved (sorted R xs) ys (IsPermutation-sym ys (sorted R xs) both))

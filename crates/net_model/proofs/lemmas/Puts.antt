-- One that is put into its place in a list.
use Rattle.std.proofs.Common.{◌≡◌, ℕ, ◌+◌, suc, Bool, true, false, not, ◌&&◌, ◌||◌, cond, List, [], ◌∷◌, length, Option, Some, None, Ordering, Less, Equal, Greater, refl, sym, ap, ◌∙◌, arith}
use Rattle.std.specs.Prelude.{if◌then◌else◌}
use Rattle.std.specs.List.{list_any, list_all, find, sum_by, filter_map}
use Rattle.std.specs.Ordering.{is_lt, is_eq, ordering_reverse}
use Rattle.std.specs.Cmp.{IsTotalOrder}
use Rattle.std.proofs.lemmas.List.Sums.{sum_by-cons}
use Rattle.net_model.specs.Words.{apart, rises, put}
use Rattle.net_model.proofs.lemmas.Truth.{and_left, and_right, and_both, or_left_false, or_right_false, not_true}

module _ {X : Type 0} (R : X → X → Ordering) (a : X) where
  pub any_put : (p : X → Bool) (xs : List X) → list_any p (put R a xs) ≡ (p a || list_any p xs)
  any_put p [] = refl
  any_put p (b ∷ bs) =
      elim (is_lt (R b a)) as (λ v. list_any p (if v then b ∷ put R a bs else a ∷ b ∷ bs) ≡ (p a || (p b || list_any p bs))) [
        | true ↦ ap (λ c. p b || c) (any_put p bs) ∙ turn (p b) (p a) (list_any p bs)
        | false ↦ refl
      ]
    where
      turn : (x y z : Bool) → (x || (y || z)) ≡ (y || (x || z))
      turn true true z = refl
      turn true false z = refl
      turn false true z = refl
      turn false false z = refl

  pub all_put : (p : X → Bool) (xs : List X) → list_all p (put R a xs) ≡ (p a && list_all p xs)
  all_put p [] = refl
  all_put p (b ∷ bs) =
      elim (is_lt (R b a)) as (λ v. list_all p (if v then b ∷ put R a bs else a ∷ b ∷ bs) ≡ (p a && (p b && list_all p bs))) [
        | true ↦ ap (λ c. p b && c) (all_put p bs) ∙ turn (p b) (p a) (list_all p bs)
        | false ↦ refl
      ]
    where
      turn : (x y z : Bool) → (x && (y && z)) ≡ (y && (x && z))
      turn true true z = refl
      turn true false z = refl
      turn false true z = refl
      turn false false z = refl

  pub length_put : (xs : List X) → length (put R a xs) ≡ suc (length xs)
  length_put [] = refl
  length_put (b ∷ bs) = elim (is_lt (R b a)) as (λ v. length (if v then b ∷ put R a bs else a ∷ b ∷ bs) ≡ suc (suc (length bs))) [ true ↦ ap suc (length_put bs) | false ↦ refl ]

  pub sum_put : (f : X → ℕ) (xs : List X) → sum_by f (put R a xs) ≡ f a + sum_by f xs
  sum_put f [] = sum_by-cons f a []
  sum_put f (b ∷ bs) =
      elim (is_lt (R b a)) as (λ v. sum_by f (if v then b ∷ put R a bs else a ∷ b ∷ bs) ≡ f a + sum_by f (b ∷ bs)) [
        | true ↦ omega (arith, sum_by-cons f b (put R a bs), sum_put f bs, sum_by-cons f b bs)
        | false ↦ sum_by-cons f a (b ∷ bs)
      ]

  -- what gives nothing changes nothing
  pub mapped_put : {Y : Type 0} (f : X → Option Y) → f a ≡ None → (xs : List X) → filter_map f (put R a xs) ≡ filter_map f xs
  mapped_put f none [] = rw none refl
  mapped_put {Y} f none (b ∷ bs) =
      elim (is_lt (R b a)) as (λ v. filter_map f (if v then b ∷ put R a bs else a ∷ b ∷ bs) ≡ filter_map f (b ∷ bs)) [
        | true ↦ later (f b) refl (mapped_put f none bs)
        | false ↦ rw none refl
      ]
    where
      later : (o : Option Y) → f b ≡ o → filter_map f (put R a bs) ≡ filter_map f bs → filter_map f (b ∷ put R a bs) ≡ filter_map f (b ∷ bs)
      later None e same = rw e same
      later (Some y) e same = rw e (ap (λ (ys : List Y). y ∷ ys) same)

  -- what it isn't is found as before
  pub find_other : (p : X → Bool) → p a ≡ false → (xs : List X) → find p (put R a xs) ≡ find p xs
  find_other p off [] = rw off refl
  find_other p off (b ∷ bs) =
      elim (is_lt (R b a)) as (λ v. find p (if v then b ∷ put R a bs else a ∷ b ∷ bs) ≡ cond (p b) (Some b) (find p bs)) [
        | true ↦ ap (λ o. cond (p b) (Some b) o) (find_other p off bs)
        | false ↦ rw off refl
      ]

  -- and what nothing was before is found as it
  pub find_here : (p : X → Bool) → p a ≡ true → (xs : List X) → list_any p xs ≡ false → find p (put R a xs) ≡ Some a
  find_here p on [] none = rw on refl
  find_here p on (b ∷ bs) none =
      elim (is_lt (R b a)) as (λ v. find p (if v then b ∷ put R a bs else a ∷ b ∷ bs) ≡ Some a) [
        | true ↦ ap (λ v. cond v (Some b) (find p (put R a bs))) (or_left_false (p b) (list_any p bs) none) ∙ find_here p on bs (or_right_false (p b) (list_any p bs) none)
        | false ↦ rw on refl
      ]

  -- one that is related to none stays apart
  pub apart_put : (E : X → X → Bool) → ((x y : X) → E x y ≡ E y x) → (xs : List X) → apart E xs ≡ true → list_any (E a) xs ≡ false → apart E (put R a xs) ≡ true
  apart_put E both [] h none = refl
  apart_put E both (b ∷ bs) h none =
      let first : list_any (E b) bs ≡ false = not_true (list_any (E b) bs) (and_left (not (list_any (E b) bs)) (apart E bs) h) in
      let rest : apart E bs ≡ true = and_right (not (list_any (E b) bs)) (apart E bs) h in
      let away : E b a ≡ false = both b a ∙ or_left_false (E a b) (list_any (E a) bs) none in
      let later : list_any (E a) bs ≡ false = or_right_false (E a b) (list_any (E a) bs) none in
      elim (is_lt (R b a)) as (λ v. apart E (if v then b ∷ put R a bs else a ∷ b ∷ bs) ≡ true) [
        | true ↦ and_both (not (list_any (E b) (put R a bs))) (apart E (put R a bs)) (ap not (any_put (E b) bs ∙ ap (λ v. v || list_any (E b) bs) away ∙ first)) (apart_put E both bs rest later)
        | false ↦ rw (none, first, rest) refl
      ]

  -- and in order
  pub rises_put : (E : X → X → Bool) → IsTotalOrder R → ((x y : X) → E x y ≡ is_eq (R x y)) → (xs : List X) → rises R xs ≡ true → list_any (E a) xs ≡ false → rises R (put R a xs) ≡ true
  rises_put E total tie [] h none = refl
  rises_put E total tie (b ∷ bs) h none =
      let above : list_all (λ y. is_lt (R b y)) bs ≡ true = and_left (list_all (λ y. is_lt (R b y)) bs) (rises R bs) h in
      let rest : rises R bs ≡ true = and_right (list_all (λ y. is_lt (R b y)) bs) (rises R bs) h in
      elim (is_lt (R b a)) as (λ v. is_lt (R b a) ≡ v → rises R (if v then b ∷ put R a bs else a ∷ b ∷ bs) ≡ true) [
        | true ↦ λ e.
            and_both (list_all (λ y. is_lt (R b y)) (put R a bs)) (rises R (put R a bs))
            (all_put (λ y. is_lt (R b y)) bs ∙ and_both (is_lt (R b a)) (list_all (λ y. is_lt (R b y)) bs) e above)
            (rises_put E total tie bs rest (or_right_false (E a b) (list_any (E a) bs) none))
        | false ↦ λ e.
            let below : R a b ≡ Less = other (R a b) (R b a) (total.antisymm a b) (sym (tie a b) ∙ or_left_false (E a b) (list_any (E a) bs) none) e in
            and_both (is_lt (R a b) && list_all (λ y. is_lt (R a y)) bs) (list_all (λ y. is_lt (R b y)) bs && rises R bs)
            (and_both (is_lt (R a b)) (list_all (λ y. is_lt (R a y)) bs) (ap is_lt below) (further below bs above))
            (and_both (list_all (λ y. is_lt (R b y)) bs) (rises R bs) above rest)
      ] refl
    where
      other : (r s : Ordering) → r ≡ ordering_reverse s → is_eq r ≡ false → is_lt s ≡ false → r ≡ Less
      other Less s e n l = refl
      other Equal s e n l = absurd cc
      other Greater Less e n l = absurd cc
      other Greater Equal e n l = absurd cc
      other Greater Greater e n l = absurd cc

      less : (r : Ordering) → is_lt r ≡ true → r ≡ Less
      less Less h = refl
      less Equal h = cc
      less Greater h = cc

      further : R a b ≡ Less → (ys : List X) → list_all (λ y. is_lt (R b y)) ys ≡ true → list_all (λ y. is_lt (R a y)) ys ≡ true
      further low [] h = refl
      further low (y ∷ ys) h =
          and_both (is_lt (R a y)) (list_all (λ z. is_lt (R a z)) ys)
          (ap is_lt (total.trans a b y low (less (R b y) (and_left (is_lt (R b y)) (list_all (λ z. is_lt (R b z)) ys) h)))) (further low ys (and_right (is_lt (R b y)) (list_all (λ z. is_lt (R b z)) ys) h))

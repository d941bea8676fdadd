-- Lists that are put in order: what is left of them, and what is found in them.
use Rattle.std.proofs.Common.{◌≡◌, ℕ, Bool, true, false, cond, if◌then◌else◌, List, [], ◌∷◌, filter, Some, Ordering, Equal, refl, sym, ap, ◌∙◌, IsPermutation}
use Rattle.std.specs.List.{list_any, list_all}
use Rattle.std.specs.Ordering.{is_lt}
use Rattle.std.specs.Cmp.{IsTotalOrder, IsStrictWeakOrder}
use Rattle.std.proofs.lemmas.List.Sorted.{ranks_by, IsPermutation-refl, IsPermutation-trans, IsPermutation-sym, list_any-IsPermutation}
use Rattle.net_model.specs.Name.{same_bytes}
use Rattle.net_model.specs.Words.{rises, put, sorted}
use Rattle.net_model.specs.Order.{link_cmp}
use Rattle.net_model.specs.Links.{is_named, find_link, same_name}
use Rattle.net_model.specs.Valid.{names_differ}
use Rattle.net_model.specs.declared.Link.{Link}
use Rattle.net_model.proofs.lemmas.Truth.{and_left, and_right, and_both, or_left_false, or_right_false}
use Rattle.net_model.proofs.lemmas.Found.{one_name, itself}
use Rattle.net_model.proofs.lemmas.Orders.{link_cmp_total}
use Rattle.net_model.proofs.lemmas.Rises.{NoneBefore, Climbs}
use Rattle.net_model.proofs.lemmas.Sorting.{sorted_moves, sorted_climbs, exact_sorted}
use Rattle.merge_laws.proofs.Each.{Each}
use Rattle.merge_laws.proofs.Searches.{all_filtered, apart_head, apart_tail}

module _ {X : Type 0} (R : X → X → Ordering) (total : IsTotalOrder R) where
  abbrev NotBefore : X → X → Type 0
  NotBefore a c = is_lt (R c a) ≡ false

  weak : IsStrictWeakOrder (λ x y. is_lt (R x y))
  weak = ranks_by total (λ x. x)

  -- what nothing comes before is put first
  put_low : (a : X) (cs : List X) → Each (NotBefore a) cs → put R a cs ≡ a ∷ cs
  put_low a [] h = refl
  put_low a (c ∷ cs) h = rw h.0 refl

  low_filter : (a : X) (p : X → Bool) (cs : List X) → Each (NotBefore a) cs → Each (NotBefore a) (filter p cs)
  low_filter a p [] h = tt
  low_filter a p (c ∷ cs) h = elim (p c) as (λ v. Each (NotBefore a) (cond v (c ∷ filter p cs) (filter p cs))) [
    | true ↦ (h.0, low_filter a p cs h.1)
    | false ↦ low_filter a p cs h.1
  ]

  low_through : (a b : X) (cs : List X) → is_lt (R b a) ≡ false → NoneBefore R b cs → Each (NotBefore a) cs
  low_through a b [] h k = tt
  low_through a b (c ∷ cs) h k = (weak.chain c b a k.0 h, low_through a b cs h k.1)

  put_kept : (p : X → Bool) (a : X) (bs : List X) → p a ≡ true → Climbs R bs → filter p (put R a bs) ≡ put R a (filter p bs)
  put_kept p a [] h up = rw h refl
  put_kept p a (b ∷ bs) h up = elim (is_lt (R b a)) as (λ v. is_lt (R b a) ≡ v → filter p (if v then b ∷ put R a bs else a ∷ b ∷ bs) ≡ put R a (filter p (b ∷ bs))) [
    | true ↦ λ e. elim (p b) as (λ w. cond w (b ∷ filter p (put R a bs)) (filter p (put R a bs)) ≡ put R a (cond w (b ∷ filter p bs) (filter p bs))) [
      | true ↦ rw e (ap (λ xs. b ∷ xs) (put_kept p a bs h up.1))
      | false ↦ put_kept p a bs h up.1
    ]
    | false ↦ λ e.
        let low : Each (NotBefore a) (filter p (b ∷ bs)) = low_filter a p (b ∷ bs) (e, low_through a b bs e up.0) in
        ap (λ v. cond v (a ∷ filter p (b ∷ bs)) (filter p (b ∷ bs))) h ∙ sym (put_low a (filter p (b ∷ bs)) low)
  ] refl

  put_left_out : (p : X → Bool) (a : X) (bs : List X) → p a ≡ false → filter p (put R a bs) ≡ filter p bs
  put_left_out p a [] h = rw h refl
  put_left_out p a (b ∷ bs) h = elim (is_lt (R b a)) as (λ v. filter p (if v then b ∷ put R a bs else a ∷ b ∷ bs) ≡ filter p (b ∷ bs)) [
    | true ↦ elim (p b) as (λ w. cond w (b ∷ filter p (put R a bs)) (filter p (put R a bs)) ≡ cond w (b ∷ filter p bs) (filter p bs)) [
      | true ↦ ap (λ xs. b ∷ xs) (put_left_out p a bs h)
      | false ↦ put_left_out p a bs h
    ]
    | false ↦ ap (λ v. cond v (a ∷ filter p (b ∷ bs)) (filter p (b ∷ bs))) h
  ]

  -- what is left of a list in order is in order what is left
  pub filter_sorted : (p : X → Bool) (xs : List X) → filter p (sorted R xs) ≡ sorted R (filter p xs)
  filter_sorted p [] = refl
  filter_sorted p (x ∷ xs) = elim (p x) as (λ v. p x ≡ v → filter p (put R x (sorted R xs)) ≡ sorted R (cond v (x ∷ filter p xs) (filter p xs))) [
    | true ↦ λ e. put_kept p x (sorted R xs) e (sorted_climbs R total xs) ∙ ap (put R x) (filter_sorted p xs)
    | false ↦ λ e. put_left_out p x (sorted R xs) e ∙ filter_sorted p xs
  ] refl

  -- where what ties is one, the order in which members are given makes no difference
  pub sorted_moved : ((x y : X) → R x y ≡ Equal → x ≡ y) → (xs ys : List X) → IsPermutation xs ys → sorted R xs ≡ sorted R ys
  sorted_moved exact xs ys moved =
      exact_sorted R total exact ys (sorted R xs) (IsPermutation-trans ys xs (sorted R xs) (IsPermutation-sym xs ys moved) (sorted_moves R total xs)) (sorted_climbs R total xs)

  -- so putting in order twice is doing it once
  pub sorted_twice : ((x y : X) → R x y ≡ Equal → x ≡ y) → (xs : List X) → sorted R (sorted R xs) ≡ sorted R xs
  sorted_twice exact xs = sym (exact_sorted R total exact (sorted R xs) (sorted R xs) (IsPermutation-refl (sorted R xs)) (sorted_climbs R total xs))

pub rises_filter : {X : Type 0} (R : X → X → Ordering) (p : X → Bool) (xs : List X) → rises R xs ≡ true → rises R (filter p xs) ≡ true
rises_filter R p [] h = refl
rises_filter R p (x ∷ xs) h = elim (p x) as (λ v. rises R (cond v (x ∷ filter p xs) (filter p xs)) ≡ true) [
  | true ↦ and_both (list_all (λ y. is_lt (R x y)) (filter p xs)) (rises R (filter p xs)) (all_filtered (λ y. is_lt (R x y)) p xs (and_left (list_all (λ y. is_lt (R x y)) xs) (rises R xs) h)) (rises_filter R p xs (and_right (list_all (λ y. is_lt (R x y)) xs) (rises R xs) h))
  | false ↦ rises_filter R p xs (and_right (list_all (λ y. is_lt (R x y)) xs) (rises R xs) h)
]

-- ---- links

-- two of one name aren't both there
not_both : (n : List ℕ) (a b : Link) → same_name a b ≡ false → is_named n a ≡ true → is_named n b ≡ true → ⊥
not_both n a b h ka kb = let wrong : true ≡ false = sym (itself b.name) ∙ ap (same_bytes b.name) (one_name b.name n kb ∙ sym (one_name a.name n ka)) ∙ h in absurd cc

found_put : (n : List ℕ) (a : Link) (bs : List Link) → list_any (same_name a) bs ≡ false → find_link n (put link_cmp a bs) ≡ cond (is_named n a) (Some a) (find_link n bs)
found_put n a [] h = refl
found_put n a (b ∷ bs) h = elim (is_lt (link_cmp b a)) as (λ v. find_link n (if v then b ∷ put link_cmp a bs else a ∷ b ∷ bs) ≡ cond (is_named n a) (Some a) (find_link n (b ∷ bs))) [
  | true ↦ elim (is_named n b) as (λ w. is_named n b ≡ w → cond w (Some b) (find_link n (put link_cmp a bs)) ≡ cond (is_named n a) (Some a) (cond w (Some b) (find_link n bs))) [
    | true ↦ λ e. elim (is_named n a) as (λ u. is_named n a ≡ u → Some b ≡ cond u (Some a) (Some b)) [
      | true ↦ λ k. absurd (not_both n a b (or_left_false (same_name a b) (list_any (same_name a) bs) h) k e)
      | false ↦ λ k. refl
    ] refl
    | false ↦ λ e. found_put n a bs (or_right_false (same_name a b) (list_any (same_name a) bs) h)
  ] refl
  | false ↦ refl
]

-- what is found by its name is found whatever the order
pub found_sorted : (n : List ℕ) (links : List Link) → names_differ links ≡ true → find_link n (sorted link_cmp links) ≡ find_link n links
found_sorted n [] h = refl
found_sorted n (l ∷ ls) h =
    found_put n l (sorted link_cmp ls) (sym (list_any-IsPermutation (same_name l) ls (sorted link_cmp ls) (sorted_moves link_cmp link_cmp_total ls)) ∙ apart_head same_name l ls h)
    ∙ ap (cond (is_named n l) (Some l)) (found_sorted n ls (apart_tail same_name l ls h))

-- What changes of a list do to the keys of those of its members that pass a test.
use Rattle.std.proofs.Common.{◌≡◌, ◌∙◌, ℕ, suc, Bool, true, false, not, ◌&&◌, cond, List, [], ◌∷◌, map, filter, ◌++◌, ◌+◌, ◌<◌, length, take, get_or, Ordering, Less, Equal, Greater, refl, sym, ap, arith}
use Rattle.std.specs.Prelude.{if◌then◌else◌}
use Rattle.std.specs.List.{list_all, list_any}
use Rattle.std.specs.Ordering.{is_lt, is_eq, on, ordering_reverse}
use Rattle.std.specs.Cmp.{IsTotalOrder}
use Rattle.std.proofs.lemmas.List.{take_more}
use Rattle.net_model.specs.Words.{rises, put}
use Rattle.net_model.proofs.lemmas.Truth.{and_left, and_right, and_both, or_left_false, or_right_false}

-- the keys of those that pass
abbrev pub keys_of : {X Y : Type 0} → (X → Y) → (X → Bool) → List X → List Y
keys_of key p xs = map key (filter p xs)

-- what edits of a list do to the keys
module _ {X Y : Type 0} (key : X → Y) (p : X → Bool) where
  -- a change that keeps key and test keeps the keys
  pub keys_map : (f : X → X) → ((x : X) → key (f x) ≡ key x) → ((x : X) → p (f x) ≡ p x) → (xs : List X) → keys_of key p (map f xs) ≡ keys_of key p xs
  keys_map f keeps same [] = refl
  keys_map f keeps same (x ∷ xs) =
      ap (λ b. map key (cond b (f x ∷ filter p (map f xs)) (filter p (map f xs)))) (same x)
      ∙ elim (p x) as (λ b. map key (cond b (f x ∷ filter p (map f xs)) (filter p (map f xs))) ≡ map key (cond b (x ∷ filter p xs) (filter p xs))) [
        | true ↦ ap (λ (ys : List Y). key (f x) ∷ ys) (keys_map f keeps same xs) ∙ ap (λ (y : Y). y ∷ keys_of key p xs) (keeps x)
        | false ↦ keys_map f keeps same xs
      ]

  -- to leave out by the key is to leave out of the keys
  pub keys_filter : (q : Y → Bool) (xs : List X) → keys_of key p (filter (λ x. q (key x)) xs) ≡ filter q (keys_of key p xs)
  keys_filter q [] = refl
  keys_filter q (x ∷ xs) =
      elim (q (key x)) as (λ b. q (key x) ≡ b → keys_of key p (cond b (x ∷ filter (λ y. q (key y)) xs) (filter (λ y. q (key y)) xs)) ≡ filter q (keys_of key p (x ∷ xs))) [
        | true ↦ λ e. elim (p x) as (λ c. map key (cond c (x ∷ filter p (filter (λ y. q (key y)) xs)) (filter p (filter (λ y. q (key y)) xs))) ≡ filter q (map key (cond c (x ∷ filter p xs) (filter p xs)))) [
          | true ↦ ap (λ (ys : List Y). key x ∷ ys) (keys_filter q xs) ∙ sym (ap (λ d. cond d (key x ∷ filter q (keys_of key p xs)) (filter q (keys_of key p xs))) e)
          | false ↦ keys_filter q xs
        ]
        | false ↦ λ e. elim (p x) as (λ c. keys_of key p (filter (λ y. q (key y)) xs) ≡ filter q (map key (cond c (x ∷ filter p xs) (filter p xs)))) [
          | true ↦ keys_filter q xs ∙ sym (ap (λ d. cond d (key x ∷ filter q (keys_of key p xs)) (filter q (keys_of key p xs))) e)
          | false ↦ keys_filter q xs
        ]
      ] refl

  -- one that doesn't pass, put into its place, changes no key
  pub keys_put-other : (R : X → X → Ordering) (a : X) → p a ≡ false → (xs : List X) → keys_of key p (put R a xs) ≡ keys_of key p xs
  keys_put-other R a off [] = rw off refl
  keys_put-other R a off (b ∷ bs) =
      elim (is_lt (R b a)) as (λ v. keys_of key p (if v then b ∷ put R a bs else a ∷ b ∷ bs) ≡ keys_of key p (b ∷ bs)) [
        | true ↦ elim (p b) as (λ c. map key (cond c (b ∷ filter p (put R a bs)) (filter p (put R a bs))) ≡ map key (cond c (b ∷ filter p bs) (filter p bs))) [
          | true ↦ ap (λ (ys : List Y). key b ∷ ys) (keys_put-other R a off bs)
          | false ↦ keys_put-other R a off bs
        ]
        | false ↦ ap (λ c. map key (cond c (a ∷ filter p (b ∷ bs)) (filter p (b ∷ bs)))) off
      ]

  -- one that passes, put into its place in a list that is sorted by the key, puts its key into its place
  module _ (R : Y → Y → Ordering) (total : IsTotalOrder R) (a : X) (on_ : p a ≡ true) where
    -- its key is first where no key is before it
    pub keys_first : (xs : List X) → list_all (λ x. not (is_lt (R (key x) (key a)))) xs ≡ true → put R (key a) (keys_of key p xs) ≡ key a ∷ keys_of key p xs
    keys_first [] h = refl
    keys_first (x ∷ xs) h =
        elim (p x) as (λ c. put R (key a) (map key (cond c (x ∷ filter p xs) (filter p xs))) ≡ key a ∷ map key (cond c (x ∷ filter p xs) (filter p xs))) [
          | true ↦ ap (λ v. if v then key x ∷ put R (key a) (keys_of key p xs) else key a ∷ key x ∷ keys_of key p xs) (off (is_lt (R (key x) (key a))) (and_left (not (is_lt (R (key x) (key a)))) (list_all (λ y. not (is_lt (R (key y) (key a)))) xs) h))
          | false ↦ keys_first xs (and_right (not (is_lt (R (key x) (key a)))) (list_all (λ y. not (is_lt (R (key y) (key a)))) xs) h)
        ]
      where
        off : (b : Bool) → not b ≡ true → b ≡ false
        off false h = refl
        off true h = sym h

    less : (r : Ordering) → is_lt r ≡ true → r ≡ Less
    less Less h = refl
    less Equal h = cc
    less Greater h = cc

    not_below : (b : X) → is_lt (R (key b) (key a)) ≡ false → (xs : List X) → list_all (λ y. is_lt (R (key b) (key y))) xs ≡ true → list_all (λ x. not (is_lt (R (key x) (key a)))) xs ≡ true
    not_below b e [] h = refl
    not_below b e (x ∷ xs) h =
        let low : R (key b) (key x) ≡ Less = less (R (key b) (key x)) (and_left (is_lt (R (key b) (key x))) (list_all (λ y. is_lt (R (key b) (key y))) xs) h) in
        and_both (not (is_lt (R (key x) (key a)))) (list_all (λ y. not (is_lt (R (key y) (key a)))) xs)
        (elim (is_lt (R (key x) (key a))) as (λ v. is_lt (R (key x) (key a)) ≡ v → not v ≡ true) [
          | true ↦ λ l. sym e ∙ ap is_lt (total.trans (key b) (key x) (key a) low (less (R (key x) (key a)) l))
          | false ↦ λ l. refl
        ] refl)
        (not_below b e xs (and_right (is_lt (R (key b) (key x))) (list_all (λ y. is_lt (R (key b) (key y))) xs) h))

    -- its key is put into its place
    pub keys_put : (xs : List X) → rises (on key R) xs ≡ true → keys_of key p (put (on key R) a xs) ≡ put R (key a) (keys_of key p xs)
    keys_put [] h = rw on_ refl
    keys_put (b ∷ bs) h =
        let above : list_all (λ y. is_lt (R (key b) (key y))) bs ≡ true = and_left (list_all (λ y. is_lt (R (key b) (key y))) bs) (rises (on key R) bs) h in
        let rest : rises (on key R) bs ≡ true = and_right (list_all (λ y. is_lt (R (key b) (key y))) bs) (rises (on key R) bs) h in
        elim (is_lt (R (key b) (key a))) as (λ v. is_lt (R (key b) (key a)) ≡ v → keys_of key p (if v then b ∷ put (on key R) a bs else a ∷ b ∷ bs) ≡ put R (key a) (keys_of key p (b ∷ bs))) [
          | true ↦ λ e. elim (p b) as (λ c. map key (cond c (b ∷ filter p (put (on key R) a bs)) (filter p (put (on key R) a bs))) ≡ put R (key a) (map key (cond c (b ∷ filter p bs) (filter p bs)))) [
            | true ↦ ap (λ (ys : List Y). key b ∷ ys) (keys_put bs rest) ∙ sym (ap (λ v. if v then key b ∷ put R (key a) (keys_of key p bs) else key a ∷ key b ∷ keys_of key p bs) e)
            | false ↦ keys_put bs rest
          ]
          | false ↦ λ e. ap (λ c. map key (cond c (a ∷ filter p (b ∷ bs)) (filter p (b ∷ bs)))) on_
              ∙ sym (keys_first (b ∷ bs) (and_both (not (is_lt (R (key b) (key a)))) (list_all (λ y. not (is_lt (R (key y) (key a)))) bs) (ap not e) (not_below b e bs above)))
        ] refl

-- one put into its place in a list that is sorted by the key puts its key into its place where it passes, and else changes none
pub keys_placed : {X Y : Type 0} (key : X → Y) (p : X → Bool) (R : Y → Y → Ordering) (total : IsTotalOrder R) (a : X) (xs : List X) → rises (on key R) xs ≡ true
    → keys_of key p (put (on key R) a xs) ≡ (if p a then put R (key a) (keys_of key p xs) else keys_of key p xs)
keys_placed key p R total a xs h =
    elim (p a) as (λ v. p a ≡ v → keys_of key p (put (on key R) a xs) ≡ (if v then put R (key a) (keys_of key p xs) else keys_of key p xs)) [
      | true ↦ λ e. keys_put key p R total a e xs h
      | false ↦ λ e. keys_put-other key p (on key R) a e xs
    ] refl

-- what holds of the members holds of the keys
module _ {X Y : Type 0} (key : X → Y) (p : X → Bool) (R : Y → Y → Ordering) where
  -- what all members pass by their keys, the keys pass
  pub keys_all : (q : Y → Bool) (xs : List X) → list_all (λ x. q (key x)) xs ≡ true → list_all q (keys_of key p xs) ≡ true
  keys_all q [] h = refl
  keys_all q (x ∷ xs) h =
      let rest : list_all q (keys_of key p xs) ≡ true = keys_all q xs (and_right (q (key x)) (list_all (λ y. q (key y)) xs) h) in
      elim (p x) as (λ c. list_all q (map key (cond c (x ∷ filter p xs) (filter p xs))) ≡ true) [
        | true ↦ and_both (q (key x)) (list_all q (keys_of key p xs)) (and_left (q (key x)) (list_all (λ y. q (key y)) xs) h) rest
        | false ↦ rest
      ]

  -- where the members are strictly sorted by the key, the keys are
  pub keys_rise : (xs : List X) → rises (on key R) xs ≡ true → rises R (keys_of key p xs) ≡ true
  keys_rise [] h = refl
  keys_rise (x ∷ xs) h =
      let above : list_all (λ y. is_lt (R (key x) (key y))) xs ≡ true = and_left (list_all (λ y. is_lt (R (key x) (key y))) xs) (rises (on key R) xs) h in
      let rest : rises R (keys_of key p xs) ≡ true = keys_rise xs (and_right (list_all (λ y. is_lt (R (key x) (key y))) xs) (rises (on key R) xs) h) in
      elim (p x) as (λ c. rises R (map key (cond c (x ∷ filter p xs) (filter p xs))) ≡ true) [
        | true ↦ and_both (list_all (λ y. is_lt (R (key x) y)) (keys_of key p xs)) (rises R (keys_of key p xs)) (keys_all (λ y. is_lt (R (key x) y)) xs above) rest
        | false ↦ rest
      ]

  -- what no member passes by its key, no key passes
  pub keys_new : (q : Y → Bool) (xs : List X) → list_any (λ x. q (key x)) xs ≡ false → list_any q (keys_of key p xs) ≡ false
  keys_new q [] h = refl
  keys_new q (x ∷ xs) h =
      let rest : list_any q (keys_of key p xs) ≡ false = keys_new q xs (or_right_false (q (key x)) (list_any (λ y. q (key y)) xs) h) in
      elim (p x) as (λ c. list_any q (map key (cond c (x ∷ filter p xs) (filter p xs))) ≡ false) [
        | true ↦ rw (or_left_false (q (key x)) (list_any (λ y. q (key y)) xs) h) rest
        | false ↦ rest
      ]

-- a test that answers the same finds the same
pub any_agree : {X : Type 0} (p q : X → Bool) → ((x : X) → p x ≡ q x) → (xs : List X) → list_any p xs ≡ list_any q xs
any_agree p q same [] = refl
any_agree p q same (x ∷ xs) = rw (same x, any_agree p q same xs) refl

-- two that tie, tie either way
pub ties_turned : {Y : Type 0} (R : Y → Y → Ordering) → IsTotalOrder R → (a b : Y) → is_eq (R a b) ≡ is_eq (R b a)
ties_turned R total a b = ap is_eq (total.antisymm a b) ∙ turned (R b a)
  where
    turned : (r : Ordering) → is_eq (ordering_reverse r) ≡ is_eq r
    turned Less = refl
    turned Equal = refl
    turned Greater = refl

-- the keys of lists that are put together
module _ {X Y : Type 0} (key : X → Y) (p : X → Bool) where
  -- the keys of two lists, one after the other
  pub keys_append : (xs ys : List X) → keys_of key p (xs ++ ys) ≡ keys_of key p xs ++ keys_of key p ys
  keys_append [] ys = refl
  keys_append (x ∷ xs) ys =
      elim (p x) as (λ c. map key (cond c (x ∷ filter p (xs ++ ys)) (filter p (xs ++ ys))) ≡ map key (cond c (x ∷ filter p xs) (filter p xs)) ++ keys_of key p ys) [
        | true ↦ ap (λ (zs : List Y). key x ∷ zs) (keys_append xs ys)
        | false ↦ keys_append xs ys
      ]

  -- the keys of one member more
  pub keys_more : (xs : List X) (i : ℕ) (d : X) → i < length xs → keys_of key p (take (i + 1) xs) ≡ keys_of key p (take i xs) ++ keys_of key p (get_or xs i d ∷ [])
  keys_more xs i d lt = ap (keys_of key p) (take_more xs i d lt) ∙ keys_append (take i xs) (get_or xs i d ∷ [])

  -- one that passes has its key alone
  pub keys_one : (x : X) → p x ≡ true → keys_of key p (x ∷ []) ≡ key x ∷ []
  keys_one x on = ap (λ c. map key (cond c (x ∷ []) [])) on

  -- one that doesn't pass has none
  pub keys_none : (x : X) → p x ≡ false → keys_of key p (x ∷ []) ≡ []
  keys_none x off = ap (λ c. map key (cond c (x ∷ []) [])) off

-- members left out by a test q
module _ {X Y : Type 0} (key : X → Y) (p q : X → Bool) where
  -- where none that passes stays, there is no key
  pub keys_gone : ((x : X) → p x ≡ true → q x ≡ false) → (xs : List X) → keys_of key p (filter q xs) ≡ []
  keys_gone out [] = refl
  keys_gone out (x ∷ xs) =
      elim (q x) as (λ v. q x ≡ v → keys_of key p (cond v (x ∷ filter q xs) (filter q xs)) ≡ []) [
        | true ↦ λ e. elim (p x) as (λ w. p x ≡ w → map key (cond w (x ∷ filter p (filter q xs)) (filter p (filter q xs))) ≡ []) [
          | true ↦ λ on. let wrong : true ≡ false = sym e ∙ out x on in absurd cc
          | false ↦ λ off. keys_gone out xs
        ] refl
        | false ↦ λ e. keys_gone out xs
      ] refl

  -- where each that passes stays, the keys do
  pub keys_stay : ((x : X) → p x ≡ true → q x ≡ true) → (xs : List X) → keys_of key p (filter q xs) ≡ keys_of key p xs
  keys_stay stays [] = refl
  keys_stay stays (x ∷ xs) =
      elim (q x) as (λ v. q x ≡ v → keys_of key p (cond v (x ∷ filter q xs) (filter q xs)) ≡ keys_of key p (x ∷ xs)) [
        | true ↦ λ e. elim (p x) as (λ w. map key (cond w (x ∷ filter p (filter q xs)) (filter p (filter q xs))) ≡ map key (cond w (x ∷ filter p xs) (filter p xs))) [
          | true ↦ ap (λ (ys : List Y). key x ∷ ys) (keys_stay stays xs)
          | false ↦ keys_stay stays xs
        ]
        | false ↦ λ e. elim (p x) as (λ w. p x ≡ w → keys_of key p (filter q xs) ≡ map key (cond w (x ∷ filter p xs) (filter p xs))) [
          | true ↦ λ on. let wrong : true ≡ false = sym (stays x on) ∙ e in absurd cc
          | false ↦ λ off. keys_stay stays xs
        ] refl
      ] refl

-- to keep members by a test that agrees with one of the key at each place is to keep the keys by that one
pub keys_kept : {X Y : Type 0} (key : X → Y) (p s : X → Bool) (q : Y → Bool) (xs : List X) → ((i : ℕ) (d : X) → i < length xs → q (key (get_or xs i d)) ≡ s (get_or xs i d))
    → keys_of key p (filter s xs) ≡ filter q (keys_of key p xs)
keys_kept key p s q [] agree = refl
keys_kept {X} {Y} key p s q (x ∷ xs) agree =
    let here : q (key x) ≡ s x = agree 0 x (omega arith) in
    let rest : keys_of key p (filter s xs) ≡ filter q (keys_of key p xs) = keys_kept key p s q xs (λ i d lt. agree (suc i) d (omega arith)) in
    elim (s x) as (λ v. q (key x) ≡ v → keys_of key p (cond v (x ∷ filter s xs) (filter s xs)) ≡ filter q (keys_of key p (x ∷ xs))) [
      | true ↦ λ e. elim (p x) as (λ w. map key (cond w (x ∷ filter p (filter s xs)) (filter p (filter s xs))) ≡ filter q (map key (cond w (x ∷ filter p xs) (filter p xs)))) [
        | true ↦ ap (λ (ys : List Y). key x ∷ ys) rest ∙ sym (ap (λ v. cond v (key x ∷ filter q (keys_of key p xs)) (filter q (keys_of key p xs))) e)
        | false ↦ rest
      ]
      | false ↦ λ e. elim (p x) as (λ w. keys_of key p (filter s xs) ≡ filter q (map key (cond w (x ∷ filter p xs) (filter p xs)))) [
        | true ↦ rest ∙ sym (ap (λ v. cond v (key x ∷ filter q (keys_of key p xs)) (filter q (keys_of key p xs))) e)
        | false ↦ rest
      ]
    ] here

-- what a change takes out by the key, it takes out of the keys
pub keys_left : {X Y : Type 0} (key : X → Y) (p : X → Bool) (f : X → X) (q : Y → Bool) → ((x : X) → key (f x) ≡ key x) → ((x : X) → p (f x) ≡ (p x && q (key x))) → (xs : List X)
    → keys_of key p (map f xs) ≡ filter q (keys_of key p xs)
keys_left key p f q keeps is [] = refl
keys_left {X} {Y} key p f q keeps is (x ∷ xs) =
    ap (λ b. map key (cond b (f x ∷ filter p (map f xs)) (filter p (map f xs)))) (is x)
    ∙ elim (p x) as (λ b. map key (cond (b && q (key x)) (f x ∷ filter p (map f xs)) (filter p (map f xs))) ≡ filter q (map key (cond b (x ∷ filter p xs) (filter p xs)))) [
      | true ↦ elim (q (key x)) as (λ b. map key (cond b (f x ∷ filter p (map f xs)) (filter p (map f xs))) ≡ cond b (key x ∷ filter q (keys_of key p xs)) (filter q (keys_of key p xs))) [
        | true ↦ ap (λ (ys : List Y). key (f x) ∷ ys) (keys_left key p f q keeps is xs) ∙ ap (λ (y : Y). y ∷ filter q (keys_of key p xs)) (keeps x)
        | false ↦ keys_left key p f q keeps is xs
      ]
      | false ↦ keys_left key p f q keeps is xs
    ]

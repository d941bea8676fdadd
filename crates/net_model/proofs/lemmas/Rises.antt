-- Lists that rise.
use Rattle.std.proofs.Common.{◌≡◌, ℕ, ◌+◌, ◌<◌, ◌≤◌, zero, suc, Bool, true, false, not, ◌&&◌, ◌||◌, List, [], ◌∷◌, length, get_or, refl, sym, ap, ◌∙◌, arith, Ordering, Less, Equal, Greater}
use Rattle.std.specs.List.{list_any, list_all}
use Rattle.std.specs.List.Sorted.{IsSortedBy}
use Rattle.std.specs.Ordering.{is_lt, is_eq, ordering_reverse}
use Rattle.std.specs.Cmp.{IsTotalOrder}
use Rattle.std.proofs.lemmas.List.Sorted.{sorted_far, ranks_by}
use native.Mathlib.Numerals.{unary_clauses}
use Rattle.net_model.specs.Words.{apart, rises, steps_up}
use Rattle.net_model.proofs.lemmas.Truth.{and_left, and_right, and_both}

lt_is_not_eq : (r : Ordering) → is_lt r ≡ true → is_eq r ≡ false
lt_is_not_eq Less h = refl
lt_is_not_eq Equal h = cc
lt_is_not_eq Greater h = cc

pub lt_turned : (r s : Ordering) → r ≡ ordering_reverse s → is_lt r ≡ true → is_lt s ≡ false
lt_turned r Less e h = let g : is_lt Greater ≡ true = ap is_lt (sym e) ∙ h in cc
lt_turned r Equal e h = refl
lt_turned r Greater e h = refl

none_equal : {X : Type 0} (E : X → X → Bool) (R : X → X → Ordering) → ((x y : X) → E x y ≡ is_eq (R x y)) → (x : X) (ys : List X) → list_all (λ y. is_lt (R x y)) ys ≡ true → list_any (E x) ys ≡ false
none_equal E R tie x [] h = refl
none_equal E R tie x (y ∷ ys) h =
    let here : E x y ≡ false = tie x y ∙ lt_is_not_eq (R x y) (and_left (is_lt (R x y)) (list_all (λ z. is_lt (R x z)) ys) h) in
    let later : list_any (E x) ys ≡ false = none_equal E R tie x ys (and_right (is_lt (R x y)) (list_all (λ z. is_lt (R x z)) ys) h) in
    rw (here, later) refl

-- the members of a strictly sorted list differ
pub apart-rises : {X : Type 0} (E : X → X → Bool) (R : X → X → Ordering) → ((x y : X) → E x y ≡ is_eq (R x y)) → (xs : List X) → rises R xs ≡ true → apart E xs ≡ true
apart-rises E R tie [] h = refl
apart-rises E R tie (x ∷ xs) h =
    let none : list_any (E x) xs ≡ false = none_equal E R tie x xs (and_left (list_all (λ y. is_lt (R x y)) xs) (rises R xs) h) in
    let rest : apart E xs ≡ true = apart-rises E R tie xs (and_right (list_all (λ y. is_lt (R x y)) xs) (rises R xs) h) in
    rw (none, rest) refl

-- none of the list is before x
abbrev pub NoneBefore : {X : Type 0} → (X → X → Ordering) → X → List X → Type 0
NoneBefore R x [] = Unit {0}
NoneBefore R x (y ∷ ys) = (is_lt (R y x) ≡ false) × NoneBefore R x ys

-- none is before one that stands earlier
abbrev pub Climbs : {X : Type 0} → (X → X → Ordering) → List X → Type 0
Climbs R [] = Unit {0}
Climbs R (x ∷ xs) = NoneBefore R x xs × Climbs R xs

none_before : {X : Type 0} (R : X → X → Ordering) (x : X) (ys : List X) → ((j : ℕ) (d : X) → j < length ys → is_lt (R (get_or ys j d) x) ≡ false) → NoneBefore R x ys
none_before R x [] h = tt
none_before R x (y ∷ ys) h = (h 0 y (omega arith), none_before R x ys (λ j d lt. h (suc j) d (omega arith)))

climbs_far : {X : Type 0} (R : X → X → Ordering) (xs : List X) → ((i j : ℕ) (d : X) → i ≤ j → j < length xs → is_lt (R (get_or xs j d) (get_or xs i d)) ≡ false) → Climbs R xs
climbs_far R [] far = tt
climbs_far R (x ∷ xs) far =
    (none_before R x xs (λ j d lt. far 0 (suc j) d (omega arith) (omega arith)), climbs_far R xs (λ i j d le lt. far (suc i) (suc j) d (omega arith) (omega arith)))

pub Climbs-sorted : {X : Type 0} (R : X → X → Ordering) → IsTotalOrder R → (xs : List X) → IsSortedBy (λ x y. is_lt (R x y)) xs → Climbs R xs
Climbs-sorted R total xs up = climbs_far R xs (sorted_far (λ x y. is_lt (R x y)) (ranks_by total (λ x. x)) xs up)

step_same : (e : Bool) (r s : Ordering) → r ≡ ordering_reverse s → e ≡ is_eq r → is_lt s ≡ false → not e ≡ is_lt r
step_same e r Less turned tied h = cc
step_same e r Equal turned tied h = ap not (tied ∙ ap is_eq turned) ∙ sym (ap is_lt turned)
step_same e r Greater turned tied h = ap not (tied ∙ ap is_eq turned) ∙ sym (ap is_lt turned)

not_or : (a b c d : Bool) → not a ≡ c → not b ≡ d → not (a || b) ≡ (c && d)
not_or true b c d h k = rw (← h) refl
not_or false b c d h k = rw (← h) k

all_less : {X : Type 0} (E : X → X → Bool) (R : X → X → Ordering) → IsTotalOrder R → ((x y : X) → E x y ≡ is_eq (R x y)) → (x : X) (ys : List X) → NoneBefore R x ys → not (list_any (E x) ys) ≡ list_all (λ y. is_lt (R x y)) ys
all_less E R total tie x [] n = refl
all_less E R total tie x (y ∷ ys) n =
    not_or (E x y) (list_any (E x) ys) (is_lt (R x y)) (list_all (λ z. is_lt (R x z)) ys)
    (step_same (E x y) (R x y) (R y x) (total.antisymm x y) (tie x y) n.0)
    (all_less E R total tie x ys n.1)

-- in a sorted list, that members differ is that it rises
pub apart-sorted : {X : Type 0} (E : X → X → Bool) (R : X → X → Ordering) → IsTotalOrder R → ((x y : X) → E x y ≡ is_eq (R x y)) → (xs : List X) → Climbs R xs → apart E xs ≡ rises R xs
apart-sorted E R total tie [] up = refl
apart-sorted E R total tie (x ∷ xs) up =
    ap (λ b. b && apart E xs) (all_less E R total tie x xs up.0) ∙ ap (λ b. list_all (λ y. is_lt (R x y)) xs && b) (apart-sorted E R total tie xs up.1)

all_at : {X : Type 0} (p : X → Bool) (xs : List X) (i : ℕ) (d : X) → list_all p xs ≡ true → i < length xs → p (get_or xs i d) ≡ true
all_at p [] i d h lt = absurd (omega arith)
all_at p (x ∷ xs) zero d h lt = and_left (p x) (list_all p xs) h
all_at p (x ∷ xs) (suc i) d h lt = all_at p xs i d (and_right (p x) (list_all p xs) h) (omega arith)

sorted_at : {X : Type 0} (R S : X → X → Ordering) → ((x y : X) → is_lt (R x y) ≡ true → is_lt (S y x) ≡ false) → (xs : List X) → rises R xs ≡ true → (k : ℕ) (d : X) → k + 1 < length xs → is_lt (S (get_or xs (k + 1) d) (get_or xs k d)) ≡ false
sorted_at R S back [] h k d lt = absurd (omega arith)
sorted_at R S back (x ∷ xs) h zero d lt =
    back x (get_or xs 0 d) (all_at (λ y. is_lt (R x y)) xs 0 d (and_left (list_all (λ y. is_lt (R x y)) xs) (rises R xs) h) (omega arith))
sorted_at R S back (x ∷ xs) h (suc k) d lt =
    let rest = sorted_at R S back xs (and_right (list_all (λ y. is_lt (R x y)) xs) (rises R xs) h) k d (omega arith) in
    simp unary_clauses (simp unary_clauses at rest)

-- a list is sorted by a second order, where what the first puts before another the second doesn't put after it
pub sorted_by-rises : {X : Type 0} (R S : X → X → Ordering) → ((x y : X) → is_lt (R x y) ≡ true → is_lt (S y x) ≡ false) → (xs : List X) → rises R xs ≡ true → IsSortedBy (λ x y. is_lt (S x y)) xs
sorted_by-rises R S back xs h = λ k d low lt. sorted_at R S back xs h k d lt

-- a strictly sorted list is sorted
pub sorted-rises : {X : Type 0} (R : X → X → Ordering) → IsTotalOrder R → (xs : List X) → rises R xs ≡ true → IsSortedBy (λ x y. is_lt (R x y)) xs
sorted-rises R total = sorted_by-rises R R (λ x y. lt_turned (R x y) (R y x) (total.antisymm x y))

lt_less : (r : Ordering) → is_lt r ≡ true → r ≡ Less
lt_less Less h = refl
lt_less Equal h = cc
lt_less Greater h = cc

all_through : {X : Type 0} (R : X → X → Ordering) → IsTotalOrder R → (x y : X) (zs : List X) → is_lt (R x y) ≡ true → list_all (λ z. is_lt (R y z)) zs ≡ true → list_all (λ z. is_lt (R x z)) zs ≡ true
all_through R total x y [] h k = refl
all_through R total x y (z ∷ zs) h k =
    let first : is_lt (R x z) ≡ true = ap is_lt (total.trans x y z (lt_less (R x y) h) (lt_less (R y z) (and_left (is_lt (R y z)) (list_all (λ w. is_lt (R y w)) zs) k))) in
    and_both (is_lt (R x z)) (list_all (λ w. is_lt (R x w)) zs) first (all_through R total x y zs h (and_right (is_lt (R y z)) (list_all (λ w. is_lt (R y w)) zs) k))

absorb : (a b r : Bool) → (a ≡ true → r ≡ true → b ≡ true) → (a && r) ≡ ((a && b) && r)
absorb true true r f = refl
absorb true false true f = sym (f refl refl)
absorb true false false f = refl
absorb false b r f = refl

-- so a list rises where each is before the next
pub rises-steps : {X : Type 0} (R : X → X → Ordering) → IsTotalOrder R → (xs : List X) → steps_up R xs ≡ rises R xs
rises-steps R total [] = refl
rises-steps R total (x ∷ []) = refl
rises-steps R total (x ∷ y ∷ ys) =
    ap (λ b. is_lt (R x y) && b) (rises-steps R total (y ∷ ys))
    ∙ absorb (is_lt (R x y)) (list_all (λ z. is_lt (R x z)) ys) (rises R (y ∷ ys))
    (λ h k. all_through R total x y ys h (and_left (list_all (λ z. is_lt (R y z)) ys) (rises R ys) k))

-- in a sorted list, that members differ is that each is before the next
pub apart-steps : {X : Type 0} (E : X → X → Bool) (R : X → X → Ordering) → IsTotalOrder R → ((x y : X) → E x y ≡ is_eq (R x y)) → (xs : List X) → IsSortedBy (λ x y. is_lt (R x y)) xs → apart E xs ≡ steps_up R xs
apart-steps E R total tie xs up = apart-sorted E R total tie xs (Climbs-sorted R total xs up) ∙ sym (rises-steps R total xs)

-- Searches that find nothing, and lists that a filter leaves whole.
use Rattle.std.proofs.Common.{◌≡◌, Bool, true, false, not, ◌||◌, ◌&&◌, cond, if◌then◌else◌, List, [], ◌∷◌, map, filter, Option, Some, None, refl, ap, ◌∙◌}
use Rattle.std.specs.List.{list_any, list_all, find, filter_map, cons_option}
use Rattle.net_model.specs.Words.{apart}
use Rattle.net_model.proofs.lemmas.Truth.{and_left, and_right, and_both, or_left_false, or_right_false, or_right, not_true, not_false}
use Rattle.merge_model.specs.Places.{first_second}

pub or_false : (b c : Bool) → b ≡ false → c ≡ false → (b || c) ≡ false
or_false b c h k = rw (h, k) refl

pub and_no : (b : Bool) → (b && false) ≡ false
and_no true = refl
and_no false = refl

-- a test that none passes
pub any_none : {X : Type 0} (p : X → Bool) → ((x : X) → p x ≡ false) → (xs : List X) → list_any p xs ≡ false
any_none p none [] = refl
any_none p none (x ∷ xs) = or_false (p x) (list_any p xs) (none x) (any_none p none xs)

-- a test that each passes
pub all_each : {X : Type 0} (p : X → Bool) → ((x : X) → p x ≡ true) → (xs : List X) → list_all p xs ≡ true
all_each p each [] = refl
all_each p each (x ∷ xs) = and_both (p x) (list_all p xs) (each x) (all_each p each xs)

pub all_weaker : {X : Type 0} (p q : X → Bool) → ((x : X) → p x ≡ true → q x ≡ true) → (xs : List X) → list_all p xs ≡ true → list_all q xs ≡ true
all_weaker p q less [] h = refl
all_weaker p q less (x ∷ xs) h = and_both (q x) (list_all q xs) (less x (and_left (p x) (list_all p xs) h)) (all_weaker p q less xs (and_right (p x) (list_all p xs) h))

pub any_weaker : {X : Type 0} (p q : X → Bool) → ((x : X) → p x ≡ true → q x ≡ true) → (xs : List X) → list_any p xs ≡ true → list_any q xs ≡ true
any_weaker p q less [] h = absurd cc
any_weaker p q less (x ∷ xs) h = elim (p x) as (λ v. p x ≡ v → (v || list_any p xs) ≡ true → (q x || list_any q xs) ≡ true) [
  | true ↦ λ e _. rw (less x e) refl
  | false ↦ λ _ k. or_right (q x) (list_any q xs) (any_weaker p q less xs k)
] refl h

-- where all pass, none is found that doesn't
pub none_fails : {X : Type 0} (p : X → Bool) (xs : List X) → list_all p xs ≡ true → find (λ x. not (p x)) xs ≡ None
none_fails p [] h = refl
none_fails p (x ∷ xs) h =
    ap (λ b. cond (not b) (Some x) (find (λ y. not (p y)) xs)) (and_left (p x) (list_all p xs) h)
    ∙ none_fails p xs (and_right (p x) (list_all p xs) h)

-- what all pass is left whole
pub filter_whole : {X : Type 0} (p : X → Bool) (xs : List X) → list_all p xs ≡ true → filter p xs ≡ xs
filter_whole p [] h = refl
filter_whole p (x ∷ xs) h =
    ap (λ b. cond b (x ∷ filter p xs) (filter p xs)) (and_left (p x) (list_all p xs) h)
    ∙ ap (λ ys. x ∷ ys) (filter_whole p xs (and_right (p x) (list_all p xs) h))

-- where none passes, nothing is left
pub filter_nothing : {X : Type 0} (p : X → Bool) (xs : List X) → list_all (λ x. not (p x)) xs ≡ true → filter p xs ≡ []
filter_nothing p [] h = refl
filter_nothing p (x ∷ xs) h =
    ap (λ b. cond b (x ∷ filter p xs) (filter p xs)) (not_true (p x) (and_left (not (p x)) (list_all (λ y. not (p y)) xs) h))
    ∙ filter_nothing p xs (and_right (not (p x)) (list_all (λ y. not (p y)) xs) h)

pub none_all : {X : Type 0} (p : X → Bool) (xs : List X) → list_any p xs ≡ false → list_all (λ x. not (p x)) xs ≡ true
none_all p [] h = refl
none_all p (x ∷ xs) h = and_both (not (p x)) (list_all (λ y. not (p y)) xs) (not_false (p x) (or_left_false (p x) (list_any p xs) h)) (none_all p xs (or_right_false (p x) (list_any p xs) h))

pub any_map : {X Y : Type 0} (f : X → Y) (p : Y → Bool) (xs : List X) → list_any p (map f xs) ≡ list_any (λ x. p (f x)) xs
any_map f p [] = refl
any_map f p (x ∷ xs) = ap (λ b. p (f x) || b) (any_map f p xs)

pub apart_map : {X Y : Type 0} (f : X → Y) (R : Y → Y → Bool) (xs : List X) → apart R (map f xs) ≡ apart (λ x y. R (f x) (f y)) xs
apart_map f R [] = refl
apart_map f R (x ∷ xs) = rw (any_map f (R (f x)) xs, apart_map f R xs) refl

-- what undoes the map gives the list back
pub undone : {X Y : Type 0} (f : X → Y) (g : Y → Option X) → ((x : X) → g (f x) ≡ Some x) → (xs : List X) → filter_map g (map f xs) ≡ xs
undone f g back [] = refl
undone f g back (x ∷ xs) = ap (λ o. cons_option o (filter_map g (map f xs))) (back x) ∙ ap (λ ys. x ∷ ys) (undone f g back xs)

pub nothing_left : {X Y Z : Type 0} (f : X → Y) (g : Y → Option Z) → ((x : X) → g (f x) ≡ None) → (xs : List X) → filter_map g (map f xs) ≡ []
nothing_left f g none [] = refl
nothing_left f g none (x ∷ xs) = ap (λ o. cons_option o (filter_map g (map f xs))) (none x) ∙ nothing_left f g none xs

-- each member of a list is related to one of it, where each is to itself
pub all_self : {X : Type 0} (R : X → X → Bool) → ((x : X) → R x x ≡ true) → (xs : List X) → list_all (λ y. list_any (R y) xs) xs ≡ true
all_self R itself [] = refl
all_self R itself (x ∷ xs) = and_both (R x x || list_any (R x) xs) (list_all (λ y. R y x || list_any (R y) xs) xs)
    (rw (itself x) refl)
    (all_weaker (λ y. list_any (R y) xs) (λ y. R y x || list_any (R y) xs) (λ y h. or_right (R y x) (list_any (R y) xs) h) xs (all_self R itself xs))

pub apart_head : {X : Type 0} (R : X → X → Bool) (x : X) (xs : List X) → apart R (x ∷ xs) ≡ true → list_any (R x) xs ≡ false
apart_head R x xs h = not_true (list_any (R x) xs) (and_left (not (list_any (R x) xs)) (apart R xs) h)

pub apart_tail : {X : Type 0} (R : X → X → Bool) (x : X) (xs : List X) → apart R (x ∷ xs) ≡ true → apart R xs ≡ true
apart_tail R x xs h = and_right (not (list_any (R x) xs)) (apart R xs) h

pub apart_cons : {X : Type 0} (R : X → X → Bool) (x : X) (xs : List X) → list_any (R x) xs ≡ false → apart R xs ≡ true → apart R (x ∷ xs) ≡ true
apart_cons R x xs h k = and_both (not (list_any (R x) xs)) (apart R xs) (not_false (list_any (R x) xs) h) k

any_fewer : {X : Type 0} (p q : X → Bool) → ((x : X) → p x ≡ false → q x ≡ false) → (xs : List X) → list_any p xs ≡ false → list_any q xs ≡ false
any_fewer p q less [] h = refl
any_fewer p q less (x ∷ xs) h = or_false (q x) (list_any q xs) (less x (or_left_false (p x) (list_any p xs) h)) (any_fewer p q less xs (or_right_false (p x) (list_any p xs) h))

-- a test that relates fewer
pub apart_fewer : {X : Type 0} (R S : X → X → Bool) → ((x y : X) → R x y ≡ false → S x y ≡ false) → (xs : List X) → apart R xs ≡ true → apart S xs ≡ true
apart_fewer R S less [] h = refl
apart_fewer R S less (x ∷ xs) h = apart_cons S x xs (any_fewer (R x) (S x) (less x) xs (apart_head R x xs h)) (apart_fewer R S less xs (apart_tail R x xs h))

pub any_filter : {X : Type 0} (p q : X → Bool) (xs : List X) → list_any p xs ≡ false → list_any p (filter q xs) ≡ false
any_filter p q [] h = refl
any_filter p q (x ∷ xs) h = elim (q x) as (λ v. list_any p (cond v (x ∷ filter q xs) (filter q xs)) ≡ false) [
  | true ↦ or_false (p x) (list_any p (filter q xs)) (or_left_false (p x) (list_any p xs) h) (any_filter p q xs (or_right_false (p x) (list_any p xs) h))
  | false ↦ any_filter p q xs (or_right_false (p x) (list_any p xs) h)
]

pub apart_filter : {X : Type 0} (R : X → X → Bool) (q : X → Bool) (xs : List X) → apart R xs ≡ true → apart R (filter q xs) ≡ true
apart_filter R q [] h = refl
apart_filter R q (x ∷ xs) h = elim (q x) as (λ v. apart R (cond v (x ∷ filter q xs) (filter q xs)) ≡ true) [
  | true ↦ apart_cons R x (filter q xs) (any_filter (R x) q xs (apart_head R x xs h)) (apart_filter R q xs (apart_tail R x xs h))
  | false ↦ apart_filter R q xs (apart_tail R x xs h)
]

-- where no two are related, no second is found
unseen : {X : Type 0} (R : X → X → Bool) (x : X) (seen xs : List X) → list_any (R x) xs ≡ false → list_all (λ y. not (list_any (λ s. R s y) seen)) xs ≡ true → list_all (λ y. not (list_any (λ s. R s y) (x ∷ seen))) xs ≡ true
unseen R x seen [] h k = refl
unseen R x seen (y ∷ ys) h k = and_both (not (R x y || list_any (λ s. R s y) seen)) (list_all (λ z. not (list_any (λ s. R s z) (x ∷ seen))) ys)
    (ap (λ b. not (b || list_any (λ s. R s y) seen)) (or_left_false (R x y) (list_any (R x) ys) h) ∙ and_left (not (list_any (λ s. R s y) seen)) (list_all (λ z. not (list_any (λ s. R s z) seen)) ys) k)
    (unseen R x seen ys (or_right_false (R x y) (list_any (R x) ys) h) (and_right (not (list_any (λ s. R s y) seen)) (list_all (λ z. not (list_any (λ s. R s z) seen)) ys) k))

none_second : {X : Type 0} (R : X → X → Bool) (seen xs : List X) → apart R xs ≡ true → list_all (λ y. not (list_any (λ s. R s y) seen)) xs ≡ true → first_second R seen xs ≡ None
none_second R seen [] h k = refl
none_second R seen (x ∷ xs) h k =
    ap (λ b. if b then Some x else first_second R (x ∷ seen) xs) (not_true (list_any (λ s. R s x) seen) (and_left (not (list_any (λ s. R s x) seen)) (list_all (λ y. not (list_any (λ s. R s y) seen)) xs) k))
    ∙ none_second R (x ∷ seen) xs (apart_tail R x xs h) (unseen R x seen xs (apart_head R x xs h) (and_right (not (list_any (λ s. R s x) seen)) (list_all (λ y. not (list_any (λ s. R s y) seen)) xs) k))

pub no_second : {X : Type 0} (R : X → X → Bool) (xs : List X) → apart R xs ≡ true → first_second R [] xs ≡ None
no_second R xs h = none_second R [] xs h (all_each (λ y. not (list_any (λ s. R s y) [])) (λ y. refl) xs)

-- Readings that are alike, and readings that note the same.
use Rattle.std.proofs.Common.{◌≡◌, ◌∙◌, List, ◌∷◌, ◌++◌, map, Bool, true, false, None, refl, sym, ap, ap₂, subst}
use Rattle.std.specs.Prelude.{Ok, Err, if◌then◌else◌}
use Rattle.std.proofs.lemmas.List.{append-nil, append_assoc}
use Rattle.std.proofs.lemmas.List.Sorted.{IsPermutation-refl, IsPermutation-trans, IsPermutation-map, IsPermutation-append, IsPermutation-append_comm}
use Rattle.std.proofs.lemmas.Option.{same_Some, none-some}
use Rattle.std.specs.List.Sorted.{IsPermutation}
use Rattle.base_model.specs.declared.PathStep.{PathStep}
use Rattle.tree_schema.specs.declared.Reason.{Reason}
use Rattle.tree_schema.specs.Reading.{Steps, Reading, given, below, with_value, after, and_then}
use Rattle.tree_schema.specs.Order.{value_of}
use Rattle.order_laws.specs.Alike.{AreAlike}

-- ---- alike

pub alike_same : {X : Type 0} (r : Reading X) → AreAlike r r
alike_same (Ok (x, notes)) = (refl, IsPermutation-refl notes)
alike_same (Err refusal) = tt

-- equal readings are alike
pub alike_equal : {X : Type 0} (a b : Reading X) → a ≡ b → AreAlike a b
alike_equal a b is = subst (AreAlike a) is (alike_same a)

pub alike_chained : {X : Type 0} (a b c : Reading X) → AreAlike a b → AreAlike b c → AreAlike a c
alike_chained (Ok (x, l)) (Ok (y, m)) (Ok (z, n)) first second = (first.0 ∙ second.0, IsPermutation-trans l m n first.1 second.1)
alike_chained (Ok found) (Ok other) (Err refusal) first second = absurd second
alike_chained (Ok found) (Err refusal) c first second = absurd first
alike_chained (Err refusal) (Ok found) c first second = absurd first
alike_chained (Err refusal) (Err other) (Ok found) first second = absurd second
alike_chained (Err refusal) (Err other) (Err third) first second = tt

pub alike_below : {X : Type 0} (step : PathStep) (a b : Reading X) → AreAlike a b → AreAlike (below step a) (below step b)
alike_below step (Ok (x, l)) (Ok (y, m)) h = (h.0, IsPermutation-map (λ (place : Steps). step ∷ place) l m h.1)
alike_below step (Ok found) (Err refusal) h = absurd h
alike_below step (Err refusal) (Ok found) h = absurd h
alike_below step (Err refusal) (Err other) h = tt

pub alike_value : {X Y : Type 0} (f : X → Y) (a b : Reading X) → AreAlike a b → AreAlike (with_value f a) (with_value f b)
alike_value f (Ok (x, l)) (Ok (y, m)) h = (ap f h.0, h.1)
alike_value f (Ok found) (Err refusal) h = absurd h
alike_value f (Err refusal) (Ok found) h = absurd h
alike_value f (Err refusal) (Err other) h = tt

alike_after : {X : Type 0} (l m : List Steps) (a b : Reading X) → IsPermutation l m → AreAlike a b → AreAlike (after l a) (after m b)
alike_after l m (Ok (x, n)) (Ok (y, o)) p h = (h.0, IsPermutation-append l m n o p h.1)
alike_after l m (Ok found) (Err refusal) p h = absurd h
alike_after l m (Err refusal) (Ok found) p h = absurd h
alike_after l m (Err refusal) (Err other) p h = tt

-- one reading after another
pub alike_then : {X Y : Type 0} (a b : Reading X) (next further : X → Reading Y) → AreAlike a b → ((x : X) → AreAlike (next x) (further x)) → AreAlike (and_then a next) (and_then b further)
alike_then (Ok (x, l)) (Ok (y, m)) next further h each =
    subst (λ z. AreAlike (after l (next x)) (after m (further z))) h.0 (alike_after l m (next x) (further x) h.1 (each x))
alike_then (Ok found) (Err refusal) next further h each = absurd h
alike_then (Err refusal) (Ok found) next further h each = absurd h
alike_then (Err refusal) (Err other) next further h each = tt

-- by one test
pub alike_if : {X : Type 0} (test : Bool) (a b c d : Reading X) → AreAlike a b → AreAlike c d → AreAlike (if test then a else c) (if test then b else d)
alike_if true a b c d here there = here
alike_if false a b c d here there = there

-- ---- notes

-- where both give a value, they note the same
abbrev pub NoteSame : {X Y : Type 0} → Reading X → Reading Y → Type 0
NoteSame (Ok (x, notes)) (Ok (y, others)) = notes ≡ others
NoteSame (Ok found) (Err refusal) = Unit {0}
NoteSame (Err refusal) b = Unit {0}

notes_same : {X : Type 0} (r : Reading X) → NoteSame r r
notes_same (Ok (x, notes)) = refl
notes_same (Err refusal) = tt

pub notes_equal : {X : Type 0} (a b : Reading X) → a ≡ b → NoteSame a b
notes_equal a b is = subst (NoteSame a) is (notes_same a)

pub notes_below : {X Y : Type 0} (step : PathStep) (a : Reading X) (b : Reading Y) → NoteSame a b → NoteSame (below step a) (below step b)
notes_below step (Ok (x, l)) (Ok (y, m)) h = ap (map (λ (place : Steps). step ∷ place)) h
notes_below step (Ok found) (Err refusal) h = tt
notes_below step (Err refusal) b h = tt

-- what is made of a value notes nothing more
pub notes_value : {X Y Z : Type 0} (f : X → Y) (g : X → Z) (r : Reading X) → NoteSame (with_value f r) (with_value g r)
notes_value f g (Ok (x, notes)) = refl
notes_value f g (Err refusal) = tt

notes_after : {X Y : Type 0} (l m : List Steps) (a : Reading X) (b : Reading Y) → l ≡ m → NoteSame a b → NoteSame (after l a) (after m b)
notes_after l m (Ok (x, n)) (Ok (y, o)) is h = ap₂ (λ (p q : List Steps). p ++ q) is h
notes_after l m (Ok found) (Err refusal) is h = tt
notes_after l m (Err refusal) b is h = tt

notes_refused : {X : Type 0} (r : Reading X) (refusal : Reason × Steps) → NoteSame {X = X} {Y = X} r (Err refusal)
notes_refused (Ok found) refusal = tt
notes_refused (Err other) refusal = tt

pub notes_then : {X Y : Type 0} (a b : Reading X) (next : X → Reading Y) → NoteSame a b → ((x y : X) → NoteSame (next x) (next y)) → NoteSame (and_then a next) (and_then b next)
notes_then (Ok (x, l)) (Ok (y, m)) next h each = notes_after l m (next x) (next y) h (each x y)
notes_then (Ok (x, l)) (Err refusal) next h each = notes_refused (after l (next x)) refusal
notes_then (Err refusal) b next h each = tt

pub notes_if : {X Y : Type 0} (test : Bool) (a c : Reading X) (b d : Reading Y) → NoteSame a b → NoteSame c d → NoteSame (if test then a else c) (if test then b else d)
notes_if true a c b d here there = here
notes_if false a c b d here there = there

-- ---- two readings in either order

in_turn : {E : Type 0} (x y : E) (l m : List Steps) (a b : Reading E) → NoteSame (Ok (x, l)) b → NoteSame (Ok (y, m)) a → value_of (after l a) ≡ value_of (after m b) → AreAlike (after l a) (after m b)
in_turn x y l m (Ok (z, n)) (Ok (w, o)) first second is = (same_Some z w is, subst (IsPermutation (l ++ n)) (ap₂ (λ (p q : List Steps). p ++ q) (sym second) first) (IsPermutation-append_comm l n))
in_turn x y l m (Ok (z, n)) (Err refusal) first second is = absurd (none-some z (sym is))
in_turn x y l m (Err refusal) (Ok (w, o)) first second is = absurd (none-some w is)
in_turn x y l m (Err refusal) (Err other) first second is = tt

one_refused : {E : Type 0} (r : Reading E) (refusal : Reason × Steps) → value_of r ≡ None → AreAlike r (Err refusal)
one_refused (Ok (z, n)) refusal is = absurd (none-some z (sym is))
one_refused (Err other) refusal is = tt

other_refused : {E : Type 0} (refusal : Reason × Steps) (r : Reading E) → value_of r ≡ None → AreAlike (Err refusal) r
other_refused refusal (Ok (z, n)) is = absurd (none-some z (sym is))
other_refused refusal (Err other) is = tt

-- two readings that note the same whatever was read before them, and that give the same value in either order
pub either_order : {E : Type 0} (a c : Reading E) (f g : E → Reading E) → ((x : E) → NoteSame a (f x)) → ((x : E) → NoteSame c (g x)) → value_of (and_then a g) ≡ value_of (and_then c f)
    → AreAlike (and_then a g) (and_then c f)
either_order (Ok (x, l)) (Ok (y, m)) f g first second is = in_turn x y l m (g x) (f y) (first y) (second x) is
either_order (Ok (x, l)) (Err refusal) f g first second is = one_refused (after l (g x)) refusal is
either_order (Err refusal) (Ok (y, m)) f g first second is = other_refused refusal (after m (f y)) (sym is)
either_order (Err refusal) (Err other) f g first second is = tt

-- ---- one after another

after_twice : {X : Type 0} (l m : List Steps) (r : Reading X) → after l (after m r) ≡ after (l ++ m) r
after_twice l m (Ok (x, n)) = ap (λ notes. Ok (x, notes)) (sym (append_assoc l m n))
after_twice l m (Err refusal) = refl

grouped_after : {X Y : Type 0} (l : List Steps) (r : Reading X) (g : X → Reading Y) → after l (and_then r g) ≡ and_then (after l r) g
grouped_after l (Ok (x, m)) g = after_twice l m (g x)
grouped_after l (Err refusal) g = refl

-- what follows two readings, seen as one
pub grouped : {X Y Z : Type 0} (a : Reading X) (f : X → Reading Y) (g : Y → Reading Z) → and_then a (λ x. and_then (f x) g) ≡ and_then (and_then a f) g
grouped (Ok (x, l)) f g = grouped_after l (f x) g
grouped (Err refusal) f g = refl

-- a value that is given on
pub given_on : {X : Type 0} (r : Reading X) → and_then r (λ x. given x) ≡ r
given_on (Ok (x, l)) = ap (λ notes. Ok (x, notes)) (append-nil l)
given_on (Err refusal) = refl

-- the same after the same
pub same_then : {X Y : Type 0} (r : Reading X) (f g : X → Reading Y) → ((x : X) → f x ≡ g x) → and_then r f ≡ and_then r g
same_then (Ok (x, l)) f g each = ap (after l) (each x)
same_then (Err refusal) f g each = refl

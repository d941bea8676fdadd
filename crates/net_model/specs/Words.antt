-- Words that many definitions share.
use Rattle.std.specs.Prelude.{ℕ, Bool, true, false, not, ◌&&◌, List, [], ◌∷◌, Option, Some, None, if◌then◌else◌}
use Rattle.std.specs.List.{list_any, list_all}
use Rattle.std.specs.Ordering.{is_lt}
use Rattle.std.specs.declared.cmp.Ordering.{Ordering}
use Rattle.net_model.specs.Name.{same_bytes}

-- no two of the list are related, the earlier to the later
abbrev pub apart : {X : Type 0} → (X → X → Bool) → List X → Bool
apart R [] = true
apart R (x ∷ xs) = not (list_any (R x) xs) && apart R xs

-- each of the list is before all that follow it
abbrev pub rises : {X : Type 0} → (X → X → Ordering) → List X → Bool
rises R [] = true
rises R (x ∷ xs) = list_all (λ y. is_lt (R x y)) xs && rises R xs

-- it is before the head of the list, if there is one
abbrev pub is_before_head : {X : Type 0} → (X → X → Ordering) → X → List X → Bool
is_before_head R x [] = true
is_before_head R x (y ∷ ys) = is_lt (R x y)

-- each of the list is before the next
abbrev pub steps_up : {X : Type 0} → (X → X → Ordering) → List X → Bool
steps_up R [] = true
steps_up R (x ∷ xs) = is_before_head R x xs && steps_up R xs

-- into its place in a strictly sorted list
abbrev pub put : {X : Type 0} → (X → X → Ordering) → X → List X → List X
put R a [] = a ∷ []
put R a (b ∷ bs) = if is_lt (R b a) then b ∷ put R a bs else a ∷ b ∷ bs

-- the same members, in order
abbrev pub sorted : {X : Type 0} → (X → X → Ordering) → List X → List X
sorted R [] = []
sorted R (a ∷ more) = put R a (sorted R more)

abbrev pub bool_eq : Bool → Bool → Bool
bool_eq true b = b
bool_eq false b = not b

abbrev pub is_empty : {X : Type 0} → List X → Bool
is_empty [] = true
is_empty (x ∷ xs) = false

-- the name is one of these
abbrev pub is_among : List (List ℕ) → List ℕ → Bool
is_among names name = list_any (λ n. same_bytes n name) names

-- the number of the first test that fails
abbrev pub first_false : List (ℕ × Bool) → Option ℕ
first_false [] = None
first_false ((n, passes) ∷ tests) = if passes then first_false tests else Some n

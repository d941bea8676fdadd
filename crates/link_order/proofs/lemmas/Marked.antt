-- The marks of what is reached in a list.
use Rattle.std.proofs.Common.{◌≡◌, ℕ, ◌+◌, ◌<◌, Bool, false, ◌||◌, List, [], ◌∷◌, ◌++◌, map, take, length, get_or, refl, sym, ap, ◌∙◌, arith}
use Rattle.std.proofs.lemmas.List.{ext_get_or, get_or-map, length-map, map-append}
use Rattle.reach.specs.Reach.{is_reached, IsGraph, IsLeast, Represents}
use Rattle.reach.proofs.lemmas.Least.{least_is_reached}
use Rattle.reach.specs.Positions.{positions}
use Rattle.reach.proofs.lemmas.Positions.{rows-IsGraph, marked_at, at_some}
use Rattle.reach.proofs.lemmas.Marks.{any_default}
use Rattle.link_order.proofs.lemmas.More.{take_one}

none_marked : (ms : List Bool) → length ms ≡ 0 → ms ≡ []
none_marked [] h = refl
none_marked (m ∷ ms) h = absurd (omega (arith, h))

-- the least marks are what is reached
pub all_marked : {X : Type 0} (leads : X → X → Bool) (starts : X → Bool) (xs : List X) (arrows : List (List ℕ)) (ss marks : List Bool)
    → arrows ≡ map (λ x. positions (leads x) 0 xs) xs → ss ≡ map starts xs → IsLeast arrows ss marks
    → marks ≡ map (is_reached leads starts xs (length xs)) xs
all_marked leads starts [] arrows ss marks e f least = none_marked marks (least.whole ∙ ap length e)
all_marked leads starts (x ∷ xs) arrows ss marks e f least =
    let first = marked_at leads starts (x ∷ xs) x arrows ss marks e f least in
    ext_get_or false marks (map (is_reached leads starts (x ∷ xs) (length (x ∷ xs))) (x ∷ xs))
    ((first 0 (omega arith)).1 ∙ sym (length-map (x ∷ xs) (is_reached leads starts (x ∷ xs) (length (x ∷ xs)))))
    (λ i lt.
    let inside : i < length (x ∷ xs) = omega (arith, lt, (first 0 (omega arith)).1) in
    (first i inside).0 ∙ sym (get_or-map (is_reached leads starts (x ∷ xs) (length (x ∷ xs))) (x ∷ xs) i x false inside))

-- also where the arrows are drawn in another order
pub marks_reached : {X : Type 0} (leads : X → X → Bool) (starts : X → Bool) (xs : List X) (arrows : List (List ℕ)) (ss marks : List Bool)
    → ((d : X) → Represents leads starts xs d arrows ss) → IsGraph arrows → length arrows ≡ length xs → IsLeast arrows ss marks
    → marks ≡ map (is_reached leads starts xs (length xs)) xs
marks_reached leads starts [] arrows ss marks drawn graph whole least = none_marked marks (least.whole ∙ whole)
marks_reached leads starts (x ∷ xs) arrows ss marks drawn graph whole least =
    ext_get_or false marks (map (is_reached leads starts (x ∷ xs) (length (x ∷ xs))) (x ∷ xs))
    (least.whole ∙ whole ∙ sym (length-map (x ∷ xs) (is_reached leads starts (x ∷ xs) (length (x ∷ xs)))))
    (λ i lt.
    let inside : i < length (x ∷ xs) = omega (arith, lt, least.whole, whole) in
    least_is_reached leads starts (x ∷ xs) x arrows ss marks (drawn x) graph least i inside ∙ sym (get_or-map (is_reached leads starts (x ∷ xs) (length (x ∷ xs))) (x ∷ xs) i x false inside))

-- and the places that the arrows lead to are the list's
pub rows_graph : {X : Type 0} (leads : X → X → Bool) (starts : X → Bool) (xs : List X) → IsGraph (map (λ x. positions (leads x) 0 xs) xs)
rows_graph leads starts [] = λ i k lt here. absurd (omega (arith, lt))
rows_graph leads starts (x ∷ xs) = rows-IsGraph leads starts (x ∷ xs) x

at : {X : Type 0} (f : X → Bool) (xs : List X) (i : ℕ) (x : X) (marks : List Bool) (a : Bool) → i < length xs → marks ≡ map f xs → a ≡ get_or marks i a → x ≡ get_or xs i x → a ≡ f x
at f xs i x marks a lt e is here = is ∙ ap (λ ms. get_or ms i a) e ∙ get_or-map f xs i x a lt ∙ ap f (sym here)

-- one more mark of those that have one of two
pub either_more : {X : Type 0} (f g : X → Bool) (xs : List X) (i : ℕ) (fs gs : List Bool) (a b v : Bool) (marks : List Bool) → i < length xs → fs ≡ map f xs → gs ≡ map g xs → a ≡ get_or fs i a → b ≡ get_or gs i b → v ≡ (a || b) → marks ≡ map (λ x. f x || g x) (take i xs) → marks ++ v ∷ [] ≡ map (λ x. f x || g x) (take (i + 1) xs)
either_more f g xs i fs gs a b v marks lt e k is it or so =
    let x = get_or xs i (at_some xs i lt) in
    let here : x ≡ get_or xs i x = any_default xs i (at_some xs i lt) x lt in
    let value : v ≡ (f x || g x) = or ∙ ap (λ c. c || b) (at f xs i x fs a lt e is here) ∙ ap (λ c. f x || c) (at g xs i x gs b lt k it here) in
    ap (λ ms. ms ++ v ∷ []) so ∙ ap (λ c. map (λ x. f x || g x) (take i xs) ++ c ∷ []) value
    ∙ sym (map-append (λ x. f x || g x) (take i xs) (x ∷ []))
    ∙ ap (map (λ x. f x || g x)) (sym (take_one xs i x lt here))

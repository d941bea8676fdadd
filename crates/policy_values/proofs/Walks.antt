-- Loops over a list, step by step, beside those that policy_lang walks: what is gathered, and sizes.
use Rattle.std.proofs.Common.{◌≡◌, ◌∙◌, ◌<◌, ◌+◌, ◌++◌, ℕ, max, true, false, List, [], ◌∷◌, map, flat_map, take, length, get_or, Some, None, sym, ap, arith}
use Rattle.std.specs.Prelude.{nat_le}
use Rattle.std.proofs.lemmas.Bool.Decides.{nat_tests}
use Rattle.std.proofs.lemmas.List.{take_more, map_more, flat_map_more}
use Rattle.policy_values.specs.Sizes.{left_behind}

-- several items more, or none
pub gathered_on : {A B : Type 0} (f : A → List B) (xs : List A) (i : ℕ) (ys new : List B) (x : A) → ys ≡ flat_map f (take i xs) → i < length xs → x ≡ get_or xs i x → new ≡ ys ++ f x → new ≡ flat_map f (take (i + 1) xs)
gathered_on f xs i ys new x h lt is pushed =
    pushed
    ∙ ap (λ zs. zs ++ f x) h
    ∙ flat_map_more f [] (take i xs) x
    ∙ ap (λ y. flat_map f (take i xs ++ y ∷ [])) is
    ∙ ap (flat_map f) (sym (take_more xs i x lt))

-- the same item for each
same_more : {A B : Type 0} (b : B) (xs : List A) (i : ℕ) → i < length xs → map (λ (x : A). b) (take i xs) ++ b ∷ [] ≡ map (λ (x : A). b) (take (i + 1) xs)
same_more b [] i lt = absurd (omega arith)
same_more b (x ∷ xs) i lt = sym (map_more (λ y. b) (x ∷ xs) i x lt)

-- one more of these
pub same_on : {A B : Type 0} (b : B) (xs : List A) (i : ℕ) (ys new : List B) → ys ≡ map (λ (x : A). b) (take i xs) → i < length xs → new ≡ ys ++ b ∷ [] → new ≡ map (λ (x : A). b) (take (i + 1) xs)
same_on b xs i ys new h lt pushed = pushed ∙ ap (λ zs. zs ++ b ∷ []) h ∙ same_more b xs i lt

-- ---- levels and nodes

-- what fits is passed, and what doesn't settles it
pub fits_on : (a b room : ℕ) → nat_le a room ≡ true → nat_le b room ≡ nat_le (max a b) room
fits_on a b room fit = grind (arith, nat_tests)

pub fits_not : (a b room : ℕ) → nat_le a room ≡ false → false ≡ nat_le (max a b) room
fits_not a b room fit = grind (arith, nat_tests)

-- what is counted is passed, and what is too much settles it
pub count_on : (left a b behind : ℕ) → Some behind ≡ left_behind left a → left_behind behind b ≡ left_behind left (a + b)
count_on left a b behind e = grind (arith, nat_tests)

pub count_past : (left a b : ℕ) → None ≡ left_behind left a → None ≡ left_behind left (a + b)
count_past left a b e = grind (arith, nat_tests)

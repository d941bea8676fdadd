-- The steps of a list before a place, at it and behind it, seen as what they ask.
use Rattle.std.proofs.Common.{◌≡◌, ◌∙◌, refl, sym, ap, ℕ, ◌<◌, ◌≤◌, ◌+◌, List, [], ◌∷◌, ◌++◌, map, take, drop, length, get_or}
use Rattle.std.proofs.lemmas.List.{take_all, take_more, drop_more}

mapped : {X Y : Type 0} (f : X → Y) (xs ys : List X) → map f (xs ++ ys) ≡ map f xs ++ map f ys
mapped f [] ys = refl
mapped f (x ∷ xs) ys = ap (λ zs. f x ∷ zs) (mapped f xs ys)

module _ {X Y : Type 0} (f : X → Y) (xs : List X) (i : ℕ) (x : X) (within : i < length xs) (is : x ≡ get_or xs i x) where
  -- one more
  pub one_more : map f (take (i + 1) xs) ≡ map f (take i xs) ++ f x ∷ []
  one_more = ap (map f) (take_more xs i x within ∙ ap (λ y. take i xs ++ y ∷ []) (sym is)) ∙ mapped f (take i xs) (x ∷ [])

  -- all of them
  pub all_steps : take i xs ++ drop i xs ≡ xs → map f xs ≡ map f (take i xs) ++ f x ∷ map f (drop (i + 1) xs)
  all_steps whole = ap (map f) (sym whole ∙ ap (λ ys. take i xs ++ ys) (drop_more xs i x within ∙ ap (λ y. y ∷ drop (i + 1) xs) (sym is))) ∙ mapped f (take i xs) (x ∷ drop (i + 1) xs)

-- those before a place past the end are all
pub all_taken : {X Y : Type 0} (f : X → Y) (xs : List X) (i : ℕ) → length xs ≤ i → map f (take i xs) ≡ map f xs
all_taken f xs i past = ap (map f) (take_all i xs past)

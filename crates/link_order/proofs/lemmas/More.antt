-- One more item of a loop over a list.
use Rattle.std.proofs.Common.{◌≡◌, ℕ, ◌+◌, ◌<◌, Bool, true, false, ◌||◌, cond, List, [], ◌∷◌, ◌++◌, length, get_or, take, map, filter, if◌then◌else◌, refl, sym, ap, ◌∙◌, add-one}
use Rattle.std.specs.List.{list_any}
use Rattle.std.proofs.Math.Seq.{take-suc}
use Rattle.std.proofs.lemmas.List.Elements.{filter-append}
use Rattle.std.proofs.lemmas.List.{map-append}

-- the first so many and the next
pub take_one : {X : Type 0} (xs : List X) (i : ℕ) (x : X) → i < length xs → x ≡ get_or xs i x → take (i + 1) xs ≡ take i xs ++ x ∷ []
take_one xs i x lt is = rw add-one (take-suc xs i x lt ∙ ap (λ y. take i xs ++ y ∷ []) (sym is))

-- what the first so many give, and what the next gives
pub map_one : {X Y : Type 0} (f : X → Y) (xs : List X) (i : ℕ) (x : X) → i < length xs → x ≡ get_or xs i x → map f (take (i + 1) xs) ≡ map f (take i xs) ++ f x ∷ []
map_one f xs i x lt is = ap (map f) (take_one xs i x lt is) ∙ map-append f (take i xs) (x ∷ [])

-- what the first so many that pass give, and what the next gives where it passes
pub map_filter_one : {X Y : Type 0} (f : X → Y) (p : X → Bool) (xs : List X) (i : ℕ) (x : X) → i < length xs → x ≡ get_or xs i x → map f (filter p (take (i + 1) xs)) ≡ map f (filter p (take i xs)) ++ (if p x then f x ∷ [] else [])
map_filter_one f p xs i x lt is =
    ap (λ ys. map f (filter p ys)) (take_one xs i x lt is)
    ∙ ap (map f) (filter-append p (take i xs) (x ∷ []))
    ∙ map-append f (filter p (take i xs)) (filter p (x ∷ []))
    ∙ ap (λ ys. map f (filter p (take i xs)) ++ ys) (elim (p x) as (λ v. p x ≡ v → map f (filter p (x ∷ [])) ≡ (if v then f x ∷ [] else [])) [
      | true ↦ λ e. rw e refl
      | false ↦ λ e. rw e refl
    ] refl)

or_swap : (a b c : Bool) → (a || cond b true c) ≡ cond b true (a || c)
or_swap true true c = refl
or_swap true false c = refl
or_swap false b c = refl

-- whether one passes, with one more
pub any_more : {X : Type 0} (p : X → Bool) (xs : List X) (x : X) → list_any p (xs ++ x ∷ []) ≡ cond (p x) true (list_any p xs)
any_more p [] x = last (p x)
  where
    last : (b : Bool) → (b || false) ≡ cond b true false
    last true = refl
    last false = refl
any_more p (y ∷ ys) x = ap (λ b. p y || b) (any_more p ys x) ∙ or_swap (p y) (p x) (list_any p ys)

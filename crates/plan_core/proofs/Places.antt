-- Whether something stands where it belongs.
use Rattle.std.proofs.Common.{◌≡◌, ℕ, ◌<◌, Bool, true, false, List, [], ◌∷◌, length, get_or, refl, sym, ap, ◌∙◌}
use Rattle.std.specs.List.{list_any}
use Rattle.net_model.specs.Positions.{Stands}
use Rattle.net_model.proofs.lemmas.Places.{any_at, none_at}
use Rattle.net_model.proofs.lemmas.Truth.{or_left_false, or_right_false}

-- where none passes, none passes what is stronger
pub none_less : {X : Type 0} (p q : X → Bool) → ((x : X) → p x ≡ true → q x ≡ true) → (xs : List X) → list_any q xs ≡ false → list_any p xs ≡ false
none_less p q more [] none = refl
none_less p q more (x ∷ xs) none =
    let head : p x ≡ false = elim (p x) as (λ v. p x ≡ v → v ≡ false) [
      | true ↦ λ e. let no : true ≡ false = sym (more x e) ∙ or_left_false (q x) (list_any q xs) none in absurd cc
      | false ↦ λ _. refl
    ] refl in
    rw (head, none_less p q more xs (or_right_false (q x) (list_any q xs) none)) refl

-- where the one with its key stands, it is there if it is that one
pub as_there : {X : Type 0} (K E : X → X → Bool) (x : X) → ((y : X) → E x y ≡ true → K x y ≡ true) → (xs : List X) (i : ℕ) → Stands K x xs i → (y : X) → ((d : X) → get_or xs i d ≡ y) → E x y ≡ list_any (E x) xs
as_there K E x key xs i stands y is = of (E x y) refl
  where
    of : (v : Bool) → E x y ≡ v → v ≡ list_any (E x) xs
    of true e = sym (any_at (E x) xs i y stands.inside (ap (E x) (is y) ∙ e))
    of false e = sym (none_at (E x) xs (λ k d within. elim (E x (get_or xs k d)) as (λ v. E x (get_or xs k d) ≡ v → v ≡ false) [
      | true ↦ λ h.
          let here : k ≡ i = stands.only k d within (key (get_or xs k d) h) in
          let no : true ≡ false = sym h ∙ ap (λ j. E x (get_or xs j d)) here ∙ ap (E x) (is d) ∙ e in
          absurd cc
      | false ↦ λ _. refl
    ] refl))

-- an element of a list is there
pub item_there : {X : Type 0} (E : X → X → Bool) → ((x : X) → E x x ≡ true) → (xs : List X) (i : ℕ) (x : X) → i < length xs → x ≡ get_or xs i x → list_any (E x) xs ≡ true
item_there E itself xs i x within is = any_at (E x) xs i x within (ap (E x) (sym is) ∙ itself x)

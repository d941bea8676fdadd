-- Lists: members that pass two tests, and none at all.
use Rattle.std.proofs.Common.{◌≡◌, ◌==◌, suc, Bool, true, false, ◌||◌, cond, List, [], ◌∷◌, filter, length, refl, sym, ap, ◌∙◌, arith, eqb-true}
use Rattle.std.specs.List.{list_any, list_all}
use Rattle.net_model.proofs.lemmas.Truth.{and_left, and_right}
use Rattle.net_model.proofs.lemmas.Parts.{none_filter}

-- where one passes the first and all the second, one passes both
pub any_of_all : {X : Type 0} (p q : X → Bool) (xs : List X) → list_any p xs ≡ true → list_all q xs ≡ true → (x : X) × (p x ≡ true) × (q x ≡ true)
any_of_all p q [] some each = absurd cc
any_of_all p q (x ∷ xs) some each =
    elim (p x) as (λ v. p x ≡ v → (v || list_any p xs) ≡ true → (y : _) × (p y ≡ true) × (q y ≡ true)) [
      | true ↦ λ e _. (x, e, and_left (q x) (list_all q xs) each)
      | false ↦ λ _ later. any_of_all p q xs later (and_right (q x) (list_all q xs) each)
    ] refl some

-- one that passes is left where all that pass are kept
pub any_kept : {X : Type 0} (p keep : X → Bool) → ((x : X) → p x ≡ true → keep x ≡ true) → (xs : List X) → list_any p xs ≡ true → list_any p (filter keep xs) ≡ true
any_kept p keep all [] some = absurd cc
any_kept p keep all (x ∷ xs) some =
    elim (p x) as (λ v. p x ≡ v → (v || list_any p xs) ≡ true → list_any p (cond (keep x) (x ∷ filter keep xs) (filter keep xs)) ≡ true) [
      | true ↦ λ e _. rw (all x e, e) refl
      | false ↦ λ e later. elim (keep x) as (λ w. list_any p (cond w (x ∷ filter keep xs) (filter keep xs)) ≡ true) [
        | true ↦ rw e (any_kept p keep all xs later)
        | false ↦ any_kept p keep all xs later
      ]
    ] refl some

-- one that is left was there
pub any_was : {X : Type 0} (p keep : X → Bool) (xs : List X) → list_any p (filter keep xs) ≡ true → list_any p xs ≡ true
any_was p keep xs some =
    elim (list_any p xs) as (λ v. list_any p xs ≡ v → v ≡ true) [
      | true ↦ λ _. refl
      | false ↦ λ e. let no : true ≡ false = sym some ∙ none_filter keep p xs e in absurd cc
    ] refl

-- where all pass, all are left
pub filter_all : {X : Type 0} (p : X → Bool) (xs : List X) → list_all p xs ≡ true → filter p xs ≡ xs
filter_all p [] each = refl
filter_all p (x ∷ xs) each = rw (and_left (p x) (list_all p xs) each) (ap (λ (rest : List _). x ∷ rest) (filter_all p xs (and_right (p x) (list_all p xs) each)))

-- a list of no length has no member
pub none_long : {X : Type 0} (xs : List X) → (length xs == 0) ≡ true → xs ≡ []
none_long [] h = refl
none_long (x ∷ xs) h = let e : suc (length xs) ≡ 0 = eqb-true (suc (length xs)) 0 h in absurd (omega (arith, e))

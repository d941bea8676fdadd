-- Lists whose members differ: one member more, and the names of links compared the other way round.
use Rattle.std.proofs.Common.{◌≡◌, ◌∙◌, refl, ap, ap₂, ℕ, Bool, true, false, not, ◌&&◌, ◌||◌, List, [], ◌∷◌, ◌++◌}
use Rattle.std.specs.List.{list_any}
use Rattle.std.proofs.lemmas.Cmp.{nat_list_eq_equiv}
use Rattle.std.proofs.lemmas.List.Folds.{list_any-append}
use Rattle.net_model.specs.Name.{same_bytes}
use Rattle.net_model.specs.Words.{apart}
use Rattle.net_model.specs.Links.{is_named, same_name}
use Rattle.net_model.specs.Valid.{names_differ}
use Rattle.net_model.specs.declared.link.Link.{Link}
use Rattle.net_model.proofs.lemmas.Truth.{and_left, and_right, and_both, not_false}

-- whether the members still differ with one more behind them
pub apart_more : {X : Type 0} (R : X → X → Bool) (xs : List X) (x : X) → apart R (xs ++ x ∷ []) ≡ (apart R xs && not (list_any (λ y. R y x) xs))
apart_more R [] x = refl
apart_more R (y ∷ ys) x =
    ap (λ b. not b && apart R (ys ++ x ∷ [])) (list_any-append (R y) ys (x ∷ []))
    ∙ ap (λ b. not (list_any (R y) ys || (R y x || false)) && b) (apart_more R ys x)
    ∙ swap (R y x) (list_any (R y) ys) (apart R ys) (list_any (λ z. R z x) ys)
  where
    swap : (a b c d : Bool) → (not (b || (a || false)) && (c && not d)) ≡ ((not b && c) && not (a || d))
    swap a true c d = refl
    swap true false true d = refl
    swap true false false d = refl
    swap false false c d = refl

-- they do where it differs from each
pub apart_with : {X : Type 0} (R : X → X → Bool) (xs : List X) (x : X) → apart R xs ≡ true → list_any (λ y. R y x) xs ≡ false → apart R (xs ++ x ∷ []) ≡ true
apart_with R xs x differ new = apart_more R xs x ∙ and_both (apart R xs) (not (list_any (λ y. R y x) xs)) differ (not_false (list_any (λ y. R y x) xs) new)

-- whether a link has the name, asked of the name
pub any_turned : (name : List ℕ) (links : List Link) → list_any (λ (l : Link). same_bytes name l.name) links ≡ list_any (is_named name) links
any_turned name [] = refl
any_turned name (l ∷ ls) = ap₂ (λ (p q : Bool). p || q) (nat_list_eq_equiv.symm name l.name) (any_turned name ls)

-- names that differ do so too where the first one is asked of the second
pub names_turned : (links : List Link) → names_differ links ≡ true → apart (λ a b. same_bytes a.name b.name) links ≡ true
names_turned [] h = refl
names_turned (l ∷ ls) h =
    and_both (not (list_any (λ (k : Link). same_bytes l.name k.name) ls)) (apart (λ a b. same_bytes a.name b.name) ls)
    (ap not (any_turned l.name ls) ∙ and_left (not (list_any (same_name l) ls)) (apart same_name ls) h)
    (names_turned ls (and_right (not (list_any (same_name l) ls)) (apart same_name ls) h))

-- Whether the names of a list differ, one name more.
use Rattle.std.proofs.Common.{◌≡◌, ℕ, ◌+◌, ◌<◌, zero, suc, Bool, true, false, not, ◌&&◌, ◌||◌, cond, List, [], ◌∷◌, length, get_or, take, refl, sym, ap, ◌∙◌}
use Rattle.std.specs.List.{list_any}
use Rattle.std.specs.Ordering.{is_eq}
use Rattle.std.specs.Cmp.Lexicographic.{texts_ties}
use Rattle.net_model.specs.Name.{same_bytes}
use Rattle.net_model.specs.Words.{apart, is_among}
use Rattle.net_model.specs.Order.{name_cmp}
use Rattle.net_model.proofs.lemmas.Differing.{apart_more}
use Rattle.link_order.proofs.lemmas.More.{take_one, any_more}

any_part : {X : Type 0} (p : X → Bool) (xs : List X) (n : ℕ) → list_any p (take n xs) ≡ true → list_any p xs ≡ true
any_part p [] zero h = h
any_part p [] (suc n) h = h
any_part p (x ∷ xs) zero h = absurd cc
any_part p (x ∷ xs) (suc n) h = by (p x) (any_part p xs n) h
  where
    by : (v : Bool) → (list_any p (take n xs) ≡ true → list_any p xs ≡ true) → (v || list_any p (take n xs)) ≡ true → (v || list_any p xs) ≡ true
    by true later h = refl
    by false later h = later h

apart_part : {X : Type 0} (R : X → X → Bool) (xs : List X) (n : ℕ) → apart R (take n xs) ≡ false → apart R xs ≡ false
apart_part R [] zero h = h
apart_part R [] (suc n) h = h
apart_part R (x ∷ xs) zero h = absurd cc
apart_part R (x ∷ xs) (suc n) h = by (list_any (R x) (take n xs)) refl (apart_part R xs n) h
  where
    and_false : (b : Bool) → (b && false) ≡ false
    and_false true = refl
    and_false false = refl

    by : (v : Bool) → list_any (R x) (take n xs) ≡ v → (apart R (take n xs) ≡ false → apart R xs ≡ false) → (not v && apart R (take n xs)) ≡ false → (not (list_any (R x) xs) && apart R xs) ≡ false
    by true e later h = ap (λ b. not b && apart R xs) (any_part (R x) xs n e)
    by false e later h = ap (λ b. not (list_any (R x) xs) && b) (later h) ∙ and_false (not (list_any (R x) xs))

one_apart : (names : List (List ℕ)) (i : ℕ) (name : List ℕ) → i < length names → name ≡ get_or names i name → (seen new : Bool) → seen ≡ is_among (take i names) name → new ≡ not seen
    → apart same_bytes (take i names) ≡ true → apart same_bytes (take (i + 1) names) ≡ new
one_apart names i name lt is seen new told e so =
    ap (apart same_bytes) (take_one names i name lt is)
    ∙ apart_more same_bytes (take i names) name
    ∙ ap (λ b. b && not (is_among (take i names) name)) so
    ∙ ap not (sym told)
    ∙ sym e

-- a name that is seen again
pub again : (names : List (List ℕ)) (i : ℕ) (name : List ℕ) → i < length names → name ≡ get_or names i name → (seen new : Bool) → seen ≡ is_among (take i names) name → new ≡ not seen → new ≡ false
    → apart same_bytes (take i names) ≡ true → false ≡ apart same_bytes names
again names i name lt is seen new told e old so = sym (apart_part same_bytes names (i + 1) (one_apart names i name lt is seen new told e so ∙ old))

-- a new name
pub further : (names : List (List ℕ)) (i : ℕ) (name : List ℕ) → i < length names → name ≡ get_or names i name → (seen new : Bool) → seen ≡ is_among (take i names) name → new ≡ not seen → new ≡ true
    → apart same_bytes (take i names) ≡ true → apart same_bytes (take (i + 1) names) ≡ true
further names i name lt is seen new told e fresh so = one_apart names i name lt is seen new told e so ∙ fresh

-- and the names seen with it
pub seen_more : (names : List (List ℕ)) (i : ℕ) (name : List ℕ) → i < length names → name ≡ get_or names i name → (q : List ℕ) (old new : Bool) → old ≡ is_among (take i names) q → new ≡ cond (is_eq (name_cmp name q)) true old → new ≡ is_among (take (i + 1) names) q
seen_more names i name lt is q old new told e =
    e
    ∙ ap (λ b. cond b true old) (sym (texts_ties name q))
    ∙ ap (cond (same_bytes name q) true) told
    ∙ sym (ap (λ ns. is_among ns q) (take_one names i name lt is) ∙ any_more (λ n. same_bytes n q) (take i names) name)

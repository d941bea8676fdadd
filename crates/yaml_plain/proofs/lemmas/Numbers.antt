-- The whole numbers of 128 bits, as `parse` reads them.
use Rattle.std.proofs.Common.{◌≡◌, ◌∙◌, ℕ, zero, suc, ℤ, pos, ◌<◌, ◌≤◌, ◌^◌, Bool, true, false, cond, eqb, ltb, leb, List, [], ◌∷◌, drop, Option, Some, None, Result, Ok, Err, SFits, refl, sym, ap, subst, arith, inl, inr}
use Rattle.std.specs.Prelude.{◌&&◌, ◌||◌, neg_ℤ, codes}
use Rattle.std.specs.Result.{result_ok}
use Rattle.std.specs.List.{list_all}
use Rattle.std.specs.Char.{is_digit, digit_value}
use Rattle.std.specs.Int.{w128}
use Rattle.std.specs.Str.Parse.{AllDigits, IsNumeral, ParsesSigned, digits_value, signed_digits_value, without_leading_plus}
use Rattle.std.proofs.lemmas.Bool.{false≢true, eqb-true, ltb-true, leb-true, lt-ltb, le-leb, ne_eqb, cases_Bool, and_parts, or_cases}
use Rattle.yaml_plain.specs.Bytes.{tail, is_same}
use Rattle.yaml_plain.specs.Plain.{is_digits, is_whole, is_integer}

all_digits : (ds : List ℕ) → list_all (λ c. is_digit c 10) ds ≡ true → AllDigits 10 ds
all_digits [] is = tt
all_digits (c ∷ cs) is =
    let both = and_parts (is_digit c 10) (list_all (λ c. is_digit c 10) cs) is in
    (ltb-true (digit_value c) 10 both.0, all_digits cs both.1)

is_numeral : (ds : List ℕ) → is_digits ds ≡ true → IsNumeral 10 ds
is_numeral [] is = absurd (false≢true is)
is_numeral (c ∷ cs) is = (omega arith, all_digits (c ∷ cs) (and_parts (list_all (λ c. is_digit c 10) (c ∷ cs)) _ is).0)

-- the same words with the test for a minus apart
abbrev sign : Bool → List ℕ → List ℕ
sign t bs = cond t (drop 1 bs) (without_leading_plus bs)

abbrev value : Bool → List ℕ → ℤ
value t bs = cond t (neg_ℤ (pos (digits_value 10 (sign t bs)))) (pos (digits_value 10 (sign t bs)))

abbrev whole : Bool → List ℕ → Bool
whole t bs = cond t (is_digits (tail bs)) (is_same bs (codes "0") || is_digits bs)

abbrev bound : Bool → List ℕ → Bool
bound t bs = cond t (leb (digits_value 10 (tail bs)) (2 ^ 127)) (ltb (digits_value 10 bs) (2 ^ 127))

plus_not : (rest : List ℕ) → whole false (43 ∷ rest) ≡ true → ⊥
plus_not rest is = false≢true is

no_plus : (b : ℕ) (rest : List ℕ) → whole false (b ∷ rest) ≡ true → without_leading_plus (b ∷ rest) ≡ b ∷ rest
no_plus b rest is = ap (λ t. drop (cond t 1 0) (b ∷ rest)) (ne_eqb b 43 (λ e. plus_not rest (subst (λ (x : ℕ). whole false (x ∷ rest) ≡ true) e is)))

lone_zero : (b : ℕ) (rest : List ℕ) → is_same (b ∷ rest) (48 ∷ []) ≡ true → b ∷ rest ≡ 48 ∷ []
lone_zero b [] is = ap (λ (x : ℕ). x ∷ []) (eqb-true b 48 (and_parts (eqb b 48) true is).0)
lone_zero b (c ∷ cs) is = absurd (false≢true (and_parts (eqb b 48) false is).1)

zero_is : IsNumeral 10 (48 ∷ [])
zero_is = (omega arith, (omega arith, tt))

numeral : (t : Bool) (b : ℕ) (rest : List ℕ) → whole t (b ∷ rest) ≡ true → IsNumeral 10 (sign t (b ∷ rest))
numeral true b rest is = is_numeral rest is
numeral false b rest is =
    subst (IsNumeral 10) (sym (no_plus b rest is))
    (elim (or_cases (is_same (b ∷ rest) (48 ∷ [])) (is_digits (b ∷ rest)) is) as (λ _. IsNumeral 10 (b ∷ rest)) [
      | inl same ↦ subst (IsNumeral 10) (sym (lone_zero b rest same)) zero_is
      | inr digits ↦ is_numeral (b ∷ rest) digits
    ])

neg_bound : (n : ℕ) → SFits w128 (neg_ℤ (pos n)) → leb n (2 ^ 127) ≡ true
neg_bound zero fits = le-leb 0 (2 ^ 127) (omega arith)
neg_bound (suc n) fits = let lt : n < 2 ^ 127 = fits.sfits in le-leb (suc n) (2 ^ 127) (omega arith)

neg_fits : (n : ℕ) → n ≤ 2 ^ 127 → SFits w128 (neg_ℤ (pos n))
neg_fits zero le = record { sfits = omega arith }
neg_fits (suc n) le = record { sfits = omega arith }

fits_bound : (t : Bool) (b : ℕ) (rest : List ℕ) → whole t (b ∷ rest) ≡ true → SFits w128 (value t (b ∷ rest)) → bound t (b ∷ rest) ≡ true
fits_bound true b rest is fits = neg_bound (digits_value 10 rest) fits
fits_bound false b rest is fits =
    let plain : SFits w128 (pos (digits_value 10 (b ∷ rest))) = subst (λ (ds : List ℕ). SFits w128 (pos (digits_value 10 ds))) (no_plus b rest is) fits in
    lt-ltb (digits_value 10 (b ∷ rest)) (2 ^ 127) plain.sfits

bound_fits : (t : Bool) (b : ℕ) (rest : List ℕ) → whole t (b ∷ rest) ≡ true → bound t (b ∷ rest) ≡ true → SFits w128 (value t (b ∷ rest))
bound_fits true b rest is within = neg_fits (digits_value 10 rest) (leb-true (digits_value 10 rest) (2 ^ 127) within)
bound_fits false b rest is within =
    let plain : SFits w128 (pos (digits_value 10 (b ∷ rest))) = record { sfits = ltb-true (digits_value 10 (b ∷ rest)) (2 ^ 127) within } in
    subst (λ (ds : List ℕ). SFits w128 (pos (digits_value 10 ds))) (sym (no_plus b rest is)) plain

pub bound_is : (b : ℕ) (rest : List ℕ) → is_whole (b ∷ rest) ≡ true → is_integer (b ∷ rest) ≡ bound (eqb b 45) (b ∷ rest)
unfolding is_integer
bound_is b rest is = ap (λ w. w && bound (eqb b 45) (b ∷ rest)) is

abbrev some : ℤ → Option ℤ
some z = Some z

parsed : {E : Type 0} (b : ℕ) (rest : List ℕ) → is_whole (b ∷ rest) ≡ true → (r : Result ℤ E) → ParsesSigned w128 10 (b ∷ rest) r
    → result_ok r ≡ cond (bound (eqb b 45) (b ∷ rest)) (some (signed_digits_value 10 (b ∷ rest))) None
parsed b rest is (Ok x) h =
    let within = fits_bound (eqb b 45) b rest is h.0.1 in
    ap some h.1 ∙ sym (ap (λ t. cond t (some (signed_digits_value 10 (b ∷ rest))) None) within)
parsed b rest is (Err e) h = elim (cases_Bool (bound (eqb b 45) (b ∷ rest))) as (λ _. None ≡ cond (bound (eqb b 45) (b ∷ rest)) (some (signed_digits_value 10 (b ∷ rest))) None) [
  | inl within ↦ absurd (h (numeral (eqb b 45) b rest is, bound_fits (eqb b 45) b rest is within))
  | inr beyond ↦ sym (ap (λ t. cond t (some (signed_digits_value 10 (b ∷ rest))) None) beyond)
]

-- what `parse` makes of the form of a whole number
pub number_is : {E : Type 0} (bs : List ℕ) → is_whole bs ≡ true → (r : Result ℤ E) → ParsesSigned w128 10 bs r → result_ok r ≡ cond (is_integer bs) (Some (signed_digits_value 10 bs)) None
number_is [] is r h = absurd (false≢true is)
number_is (b ∷ rest) is r h = parsed b rest is r h ∙ sym (ap (λ t. cond t (some (signed_digits_value 10 (b ∷ rest))) None) (bound_is b rest is))

-- what has not that form is none
pub no_number : (bs : List ℕ) → is_whole bs ≡ false → cond (is_integer bs) (Some (signed_digits_value 10 bs)) None ≡ None
unfolding is_integer
no_number bs is_not = rw is_not refl

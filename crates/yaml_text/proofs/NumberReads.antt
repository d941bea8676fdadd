-- A printed integer is read again.
use Rattle.std.proofs.Common.{◌≡◌, ◌∙◌, ◌++◌, ◌+◌, ◌-◌, ◌/◌, ◌%◌, ◌^◌, ◌<◌, ◌≤◌, ℕ, suc, zero, ℤ, pos, negsuc, List, [], ◌∷◌, Bool, true, false, not, eqb, ltb, leb, length, get_or, refl, sym, ap, subst, arith, None, Ok, decimal, length-append}
use Rattle.std.specs.Prelude.{◌||◌, codes, neg_ℤ}
use Rattle.std.specs.List.{list_all}
use Rattle.std.specs.Char.{is_digit}
use Rattle.std.specs.Int.{is_in_range}
use Rattle.std.specs.Fmt.{signed_decimal}
use Rattle.std.specs.Str.Parse.{digits_value}
use Rattle.std.proofs.lemmas.Bool.{ne_eqb, lt-ltb, le-ltb, le-leb, ltb-true, leb-true, and_parts, and_from, or_right, not_from_false}
use Rattle.std.proofs.lemmas.Fmt.{decimal_is_IsNumeral_wide, decimal_by_steps_wide, decimal_digit}
use Rattle.std.proofs.lemmas.List.Folds.{list_all-append}
use Rattle.doc_tree.specs.Shape.{Shape, whole}
use Rattle.yaml_plain.specs.Bytes.{is_same}
use Rattle.yaml_plain.specs.Plain.{is_digits, is_whole, is_integer, plain_value}
use Rattle.yaml_read.specs.Keys.{key, scalar}
use Rattle.yaml_text.specs.Scalars.{is_plain_byte, ends_with_colon}
use Rattle.doc_tree.specs.Integers.{has_128_bits}
use Rattle.yaml_text.proofs.ByteLaws.{apart, begins_plainly, no_quote}
use Rattle.yaml_text.proofs.PlainReads.{plain_scalar, plain_no_key}
use Rattle.yaml_plain.specs.declared.style.Style.TheVariants.{Block}

abbrev pub is_decimal : ℕ → Bool
is_decimal c = is_in_range 48 57 c

-- the digits of a number
record Digits (n : ℕ) (ds : List ℕ) : Type 0 where
  pub all : list_all is_decimal ds ≡ true
  pub some : 0 < length ds
  pub first : 0 < n → eqb (get_or ds 0 0) 48 ≡ false

digit_is : (d : ℕ) → d < 10 → is_decimal (48 + d) ≡ true
digit_is d lt = and_from (leb 48 (48 + d)) (leb (48 + d) 57) (le-leb 48 (48 + d) (omega arith)) (le-leb (48 + d) 57 (omega arith))

one_digit : (n : ℕ) → n < 10 → Digits n ((48 + n) ∷ [])
one_digit n lt = record {
  all = and_from (is_decimal (48 + n)) true (digit_is n lt) refl;
  some = omega arith;
  first = λ some. ne_eqb (48 + n) 48 (λ e. absurd (omega arith));
}

first_of_more : (ds : List ℕ) (d : ℕ) → 0 < length ds → get_or (ds ++ (d ∷ [])) 0 0 ≡ get_or ds 0 0
first_of_more [] d some = absurd (omega arith)
first_of_more (c ∷ cs) d some = refl

more_digits : (n : ℕ) (ds : List ℕ) → 10 ≤ n → Digits (n / 10) ds → Digits n (ds ++ ((48 + n % 10) ∷ []))
more_digits n ds le before = record {
  all = list_all-append is_decimal ds ((48 + n % 10) ∷ []) ∙ and_from (list_all is_decimal ds) (list_all is_decimal ((48 + n % 10) ∷ [])) before.all (and_from (is_decimal (48 + n % 10)) true (digit_is (n % 10) (omega arith)) refl);
  some = omega (arith, before.some, length-append ds ((48 + n % 10) ∷ []));
  first = λ some. ap (λ (d : ℕ). eqb d 48) (first_of_more ds (48 + n % 10) before.some) ∙ before.first (omega arith);
}

digits : (n : ℕ) → n < 10 ^ 64 → Digits n (decimal n)
digits = decimal_by_steps_wide Digits one_digit more_digits

-- a decimal digit in the words of others
is_digit_10 : (c : ℕ) → is_decimal c ≡ true → is_digit c 10 ≡ true
is_digit_10 c is =
    let both = and_parts (leb 48 c) (leb c 57) is in
    let low : 48 ≤ c = leb-true 48 c both.0 in
    let high : c ≤ 57 = leb-true c 57 both.1 in
    rw (le-ltb c 48 low, lt-ltb c 58 (omega arith)) (lt-ltb (c - 48) 10 (omega arith))

all_digit_10 : (ds : List ℕ) → list_all is_decimal ds ≡ true → list_all (λ c. is_digit c 10) ds ≡ true
all_digit_10 [] all = refl
all_digit_10 (c ∷ cs) all =
    let both = and_parts (is_decimal c) (list_all is_decimal cs) all in
    and_from (is_digit c 10) (list_all (λ c. is_digit c 10) cs) (is_digit_10 c both.0) (all_digit_10 cs both.1)

all_plain : (ds : List ℕ) → list_all is_decimal ds ≡ true → list_all is_plain_byte ds ≡ true
all_plain [] all = refl
all_plain (c ∷ cs) all =
    let both = and_parts (is_decimal c) (list_all is_decimal cs) all in
    let here : is_plain_byte c ≡ true = rw both.0 refl in
    and_from (is_plain_byte c) (list_all is_plain_byte cs) here (all_plain cs both.1)

no_colon : (ds : List ℕ) → list_all is_decimal ds ≡ true → ends_with_colon ds ≡ false
no_colon [] all = refl
no_colon (c ∷ []) all = apart is_decimal c 58 (and_parts (is_decimal c) true all).0 refl
no_colon (c ∷ d ∷ ds) all = no_colon (d ∷ ds) (and_parts (is_decimal c) (list_all is_decimal (d ∷ ds)) all).1

digits_form : (n : ℕ) (d : ℕ) (ds : List ℕ) → 0 < n → Digits n (d ∷ ds) → is_digits (d ∷ ds) ≡ true
digits_form n d ds some is = and_from (list_all (λ c. is_digit c 10) (d ∷ ds)) (not (eqb d 48)) (all_digit_10 (d ∷ ds) is.all) (not_from_false (eqb d 48) (is.first some))

-- what is read of the digits of a number, and of those behind a minus
plus_value : (n : ℕ) (d : ℕ) (ds : List ℕ) → is_decimal d ≡ true → is_whole (d ∷ ds) ≡ true → digits_value 10 (d ∷ ds) ≡ n → n < 2 ^ 127 → plain_value (d ∷ ds) ≡ whole (pos n)
unfolding plain_value is_integer
plus_value n d ds is form value fits =
    let low : ltb (digits_value 10 (d ∷ ds)) (2 ^ 127) ≡ true = lt-ltb (digits_value 10 (d ∷ ds)) (2 ^ 127) (omega (arith, value)) in
    rw (form, apart is_decimal d 45 is refl, apart is_decimal d 43 is refl, low) (ap (λ (k : ℕ). whole (pos k)) value)

minus_value : (n : ℕ) (ds : List ℕ) → is_digits ds ≡ true → digits_value 10 ds ≡ suc n → n < 2 ^ 127 → plain_value (45 ∷ ds) ≡ whole (negsuc n)
unfolding plain_value is_integer
minus_value n ds form value fits =
    let low : leb (digits_value 10 ds) (2 ^ 127) ≡ true = le-leb (digits_value 10 ds) (2 ^ 127) (omega (arith, value)) in
    rw (form, low) (ap (λ (k : ℕ). whole (neg_ℤ (pos k))) value)

whole_form : (n d : ℕ) (ds : List ℕ) → is_decimal d ≡ true → decimal n ≡ d ∷ ds → Digits n (d ∷ ds) → is_whole (d ∷ ds) ≡ true
whole_form zero d ds first is digits_are = subst (λ (x : List ℕ). is_whole x ≡ true) (sym (decimal_digit 0 (omega arith)) ∙ is) refl
whole_form (suc n) d ds first is digits_are =
    rw (apart is_decimal d 45 first refl) (or_right (is_same (d ∷ ds) (codes "0")) (is_digits (d ∷ ds)) (digits_form (suc n) d ds (omega arith) digits_are))

-- ---- what is shown of a scalar on a line, from its first byte on
abbrev pub starts : ℕ → Bool
starts b = is_in_range 48 57 b || (eqb b 45 || (is_in_range 65 90 b || (is_in_range 97 122 b || (eqb b 34 || eqb b 39))))

pub record Shown (x : List ℕ) (t : Shape) : Type 0 where
  pub first : ℕ
  pub others : List ℕ
  pub is : x ≡ first ∷ others
  pub start : starts first ≡ true
  pub reads : scalar Block x ≡ Ok (t, [])
  pub no_key : key Block x ≡ None

plus_shown : (n : ℕ) (x : List ℕ) → decimal n ≡ x → Digits n x → digits_value 10 x ≡ n → n < 2 ^ 127 → Shown x (whole (pos n))
plus_shown n [] same is value fits = absurd (omega (arith, is.some))
plus_shown n (d ∷ ds) same is value fits =
    let first = (and_parts (is_decimal d) (list_all is_decimal ds) is.all).0 in
    let bare = no_quote is_decimal d ds first refl refl in
    let plain = begins_plainly is_decimal d ds first refl refl refl refl in
    record {
      first = d;
      others = ds;
      is = refl;
      start = rw first refl;
      reads = plain_scalar d ds bare plain (all_plain (d ∷ ds) is.all) (no_colon (d ∷ ds) is.all) ∙ ap (λ (t : Shape). Ok (t, [])) (plus_value n d ds first (whole_form n d ds first same is) value fits);
      no_key = plain_no_key d ds bare plain (all_plain (d ∷ ds) is.all) (no_colon (d ∷ ds) is.all);
    }

minus_shown : (n : ℕ) (x : List ℕ) → Digits (suc n) x → digits_value 10 x ≡ suc n → n < 2 ^ 127 → Shown (45 ∷ x) (whole (negsuc n))
minus_shown n [] is value fits = absurd (omega (arith, is.some))
minus_shown n (d ∷ ds) is value fits =
    let first = (and_parts (is_decimal d) (list_all is_decimal ds) is.all).0 in
    let no_gap : eqb d 32 ≡ false = apart is_decimal d 32 first refl in
    let no_eq : not (eqb d 32) ≡ true = rw no_gap refl in
    record {
      first = 45;
      others = d ∷ ds;
      is = refl;
      start = refl;
      reads = plain_scalar 45 (d ∷ ds) refl (rw no_gap refl) (all_plain (d ∷ ds) is.all) (no_colon (d ∷ ds) is.all) ∙ ap (λ (t : Shape). Ok (t, [])) (minus_value n (d ∷ ds) (digits_form (suc n) d ds (omega arith) is) value fits);
      no_key = plain_no_key 45 (d ∷ ds) refl (rw no_gap refl) (all_plain (d ∷ ds) is.all) (no_colon (d ∷ ds) is.all);
    }

pub wide : (n : ℕ) → n ≤ 2 ^ 127 → n < 10 ^ 64
wide n le = omega arith

pub integer_shown : (z : ℤ) → has_128_bits z ≡ true → Shown (signed_decimal z) (whole z)
integer_shown (pos n) fits =
    let lt : n < 2 ^ 127 = ltb-true n (2 ^ 127) fits in
    let w = wide n (omega arith) in
    plus_shown n (decimal n) refl (digits n w) (decimal_is_IsNumeral_wide n w).1 lt
integer_shown (negsuc n) fits =
    let lt : n < 2 ^ 127 = ltb-true n (2 ^ 127) fits in
    let w = wide (suc n) (omega arith) in
    minus_shown n (decimal (suc n)) (digits (suc n) w) (decimal_is_IsNumeral_wide (suc n) w).1 lt

pub decimal_all : (n : ℕ) → n < 10 ^ 64 → list_all is_decimal (decimal n) ≡ true
decimal_all n lt = (digits n lt).all

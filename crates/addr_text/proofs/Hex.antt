-- The text of a field is read as it.
use Rattle.std.proofs.Common.{◌≡◌, ℕ, ◌+◌, ◌/◌, ◌%◌, ◌<◌, ◌≤◌, true, false, List, [], ◌∷◌, length, refl, sym, ◌∙◌, arith, suc}
use Rattle.std.proofs.lemmas.Bool.{lt-ltb, le-leb}
use Rattle.std.proofs.lemmas.Bool.Decides.{nat_tests}
use Rattle.std.proofs.lemmas.Fmt.{digits_is_IsNumeral}
use Rattle.std.specs.Char.{digit_value}
use Rattle.std.specs.Fmt.{digits, digits_onto, digit_glyph}
use Rattle.std.specs.List.{list_all}
use Rattle.std.specs.Str.Parse.{AllDigits, digits_value}
use Rattle.addr_text.specs.Digits.{is_hex_digit, is_field, number}
use Rattle.addr_text.specs.V6.{IsField}
use Rattle.addr_text.specs.V6Text.{hex}

-- how many digits there are at most
one : (k n : ℕ) (acc : List ℕ) → n < 16 → length (digits_onto (suc k) 16 false n acc) ≤ 1 + length acc
one k n acc h = grind (arith, nat_tests)

two : (k n : ℕ) (acc : List ℕ) → n < 256 → length (digits_onto (suc (suc k)) 16 false n acc) ≤ 2 + length acc
two k n acc h = grind (arith, nat_tests, one k (n / 16) (digit_glyph false (n % 16) ∷ acc))

three : (k n : ℕ) (acc : List ℕ) → n < 4096 → length (digits_onto (suc (suc (suc k))) 16 false n acc) ≤ 3 + length acc
three k n acc h = grind (arith, nat_tests, two k (n / 16) (digit_glyph false (n % 16) ∷ acc))

four : (k n : ℕ) (acc : List ℕ) → n < 65536 → length (digits_onto (suc (suc (suc (suc k)))) 16 false n acc) ≤ 4 + length acc
four k n acc h = grind (arith, nat_tests, three k (n / 16) (digit_glyph false (n % 16) ∷ acc))

pub hex_few : (n : ℕ) → n < 65536 → length (hex n) ≤ 4
unfolding digits
hex_few n h = four 60 n [] h

pub all_hex : (ds : List ℕ) → AllDigits 16 ds → list_all is_hex_digit ds ≡ true
all_hex [] h = refl
all_hex (d ∷ ds) h = rw (lt-ltb (digit_value d) 16 h.0) (all_hex ds h.1)

number_is : (ds : List ℕ) → 0 < length ds → length ds ≤ 4 → digits_value 16 ds ≡ number 16 ds
number_is [] h k = absurd (omega arith)
number_is (a ∷ []) h k = omega arith
number_is (a ∷ b ∷ []) h k = omega arith
number_is (a ∷ b ∷ c ∷ []) h k = omega arith
number_is (a ∷ b ∷ c ∷ d ∷ []) h k = omega arith
number_is (a ∷ b ∷ c ∷ d ∷ e ∷ r) h k = absurd (omega arith)

pub hex_field : (v : ℕ) → v < 65536 → IsField (hex v) v
hex_field v h =
    let n = digits_is_IsNumeral 16 false (omega arith) (omega arith) v (omega arith) in
    let few = hex_few v h in
    let e : is_field (hex v) ≡ true = rw (le-leb 1 (length (hex v)) n.0.0, le-leb (length (hex v)) 4 few) (all_hex (hex v) n.0.1) in
    (e, sym n.1 ∙ number_is (hex v) n.0.0 few)

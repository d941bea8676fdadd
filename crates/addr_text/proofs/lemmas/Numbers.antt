-- What a test that computes says of all small numbers.
use Rattle.std.proofs.Common.{◌≡◌, ℕ, ◌<◌, ◌==◌, Bool, true, false, not, ◌&&◌, Option, Some, None, length, ap, refl, arith, suc, zero, eqb-true}
use Rattle.std.proofs.lemmas.Bool.Decides.{nat_tests}
use Rattle.std.specs.Char.{digit_value}
use Rattle.std.specs.Fmt.{decimal, digits, digit_glyph}
use Rattle.addr_text.specs.Digits.{octet_of}
use Rattle.addr_text.proofs.lemmas.Split.{lacks}

-- each number below n passes
abbrev pub all_below : (ℕ → Bool) → ℕ → Bool
all_below p zero = true
all_below p (suc n) = p n && all_below p n

pub each_below : (p : ℕ → Bool) (n k : ℕ) → all_below p n ≡ true → k < n → p k ≡ true
each_below p zero k h l = absurd (omega arith)
each_below p (suc n) k h l = grind (arith, nat_tests, each_below p n k)

abbrev gives : Option ℕ → ℕ → Bool
gives None n = false
gives (Some k) n = k == n

gives-some : (o : Option ℕ) (n : ℕ) → gives o n ≡ true → o ≡ Some n
gives-some None n h = cc
gives-some (Some k) n h = ap Some (eqb-true k n h)

-- the decimal text of an octet is read as it
pub octet_of-decimal : (n : ℕ) → n < 256 → octet_of (decimal n) ≡ Some n
unfolding digits
octet_of-decimal n h = gives-some (octet_of (decimal n)) n (each_below (λ k. gives (octet_of (decimal k)) k) 256 n refl h)

-- the decimal text of an octet isn't empty, and holds no dot, no slash and no colon
pub decimal_not_empty : (n : ℕ) → n < 256 → not (length (decimal n) == 0) ≡ true
unfolding digits
decimal_not_empty n h = each_below (λ k. not (length (decimal k) == 0)) 256 n refl h

pub decimal_lacks_dot : (n : ℕ) → n < 256 → lacks 46 (decimal n) ≡ true
unfolding digits
decimal_lacks_dot n h = each_below (λ k. lacks 46 (decimal k)) 256 n refl h

pub decimal_lacks_slash : (n : ℕ) → n < 256 → lacks 47 (decimal n) ≡ true
unfolding digits
decimal_lacks_slash n h = each_below (λ k. lacks 47 (decimal k)) 256 n refl h

pub decimal_lacks_colon : (n : ℕ) → n < 256 → lacks 58 (decimal n) ≡ true
unfolding digits
decimal_lacks_colon n h = each_below (λ k. lacks 58 (decimal k)) 256 n refl h

-- the digit of a value below sixteen is worth it
pub digit_value-glyph : (upper : Bool) (n : ℕ) → n < 16 → digit_value (digit_glyph upper n) ≡ n
digit_value-glyph true n h = eqb-true (digit_value (digit_glyph true n)) n (each_below (λ k. digit_value (digit_glyph true k) == k) 16 n refl h)
digit_value-glyph false n h = eqb-true (digit_value (digit_glyph false n)) n (each_below (λ k. digit_value (digit_glyph false k) == k) 16 n refl h)

-- MAC addresses as six pairs of hexadecimal digits.
use Rattle.std.specs.Prelude.{◌≡◌, ℕ, ◌/◌, ◌%◌, true, IsTrue, map, List, [], ◌∷◌, length}
use Rattle.std.specs.Fmt.{digit_glyph}
use Rattle.std.specs.List.{list_all}
use Rattle.addr_text.specs.Digits.{is_hex_digit, number}
use Rattle.addr_text.specs.Parts.{joined}

-- two hexadecimal digits of either case
pub record IsPair (text : List ℕ) : Type 0 where
  pub two : length text ≡ 2
  pub digits : IsTrue (list_all is_hex_digit text)

abbrev pub ArePairs : List (List ℕ) → Type 0
ArePairs [] = Unit {0}
ArePairs (p ∷ ps) = IsPair p × ArePairs ps

-- a text of six bytes: six pairs with colons between them
pub record IsMac (text bytes : List ℕ) : Type 0 where
  pub pairs : List (List ℕ)
  pub six : length pairs ≡ 6
  pub each : ArePairs pairs
  pub written : text ≡ joined 58 pairs
  pub values : bytes ≡ map (number 16) pairs

-- two digits in upper case
abbrev pub pair_text : ℕ → List ℕ
pair_text b = digit_glyph true (b / 16) ∷ digit_glyph true (b % 16) ∷ []

-- the text that is written
abbrev pub mac_text : List ℕ → List ℕ
mac_text bytes = joined 58 (map pair_text bytes)

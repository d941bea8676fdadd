-- Digits, and the short numbers that they write.
use Rattle.std.specs.Prelude.{ℕ, ◌+◌, ◌*◌, Bool, not, ◌&&◌, ◌||◌, ◌==◌, nat_lt, nat_le, List, [], ◌∷◌, length, Option, Some, None, if◌then◌else◌, slice_index}
use Rattle.std.specs.Char.{digit_value}
use Rattle.std.specs.List.{list_all}

abbrev pub is_hex_digit : ℕ → Bool
is_hex_digit b = nat_lt (digit_value b) 16

abbrev pub is_decimal_digit : ℕ → Bool
is_decimal_digit b = nat_lt (digit_value b) 10

-- the number that one to four digits write
abbrev pub number : ℕ → List ℕ → ℕ
number base (a ∷ []) = digit_value a
number base (a ∷ b ∷ []) = digit_value a * base + digit_value b
number base (a ∷ b ∷ c ∷ []) = (digit_value a * base + digit_value b) * base + digit_value c
number base (a ∷ b ∷ c ∷ d ∷ []) = ((digit_value a * base + digit_value b) * base + digit_value c) * base + digit_value d
number base _ = 0

-- a field of an IPv6 address: one to four hexadecimal digits of either case
abbrev pub is_field : List ℕ → Bool
is_field t = nat_le 1 (length t) && nat_le (length t) 4 && list_all is_hex_digit t

-- the number of the field, where the text is one
abbrev pub field_of : List ℕ → Option ℕ
field_of t = if is_field t then Some (number 16 t) else None

-- one to three decimal digits without a leading zero that write at most 255
abbrev pub is_octet : List ℕ → Bool
is_octet t = nat_le 1 (length t) && nat_le (length t) 3 && list_all is_decimal_digit t && (nat_le (length t) 1 || not (slice_index t 0 == 48)) && nat_le (number 10 t) 255

abbrev pub octet_of : List ℕ → Option ℕ
octet_of t = if is_octet t then Some (number 10 t) else None

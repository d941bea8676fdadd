-- What the reader of MAC addresses gives; specs/Mac.antt has the grammar that it is shown to meet.
use Rattle.std.specs.Prelude.{ℕ, ◌+◌, ◌*◌, ◌%◌, Bool, false, ◌&&◌, ◌==◌, List, [], ◌∷◌, length, Option, Some, None, if◌then◌else◌, slice_index}
use Rattle.std.specs.Char.{digit_value}
use Rattle.addr_text.specs.Digits.{is_hex_digit}

-- pairs of hexadecimal digits with colons between them
abbrev pub are_pairs : List ℕ → Bool
are_pairs (a ∷ b ∷ []) = is_hex_digit a && is_hex_digit b
are_pairs (a ∷ b ∷ c ∷ rest) = is_hex_digit a && is_hex_digit b && (c == 58) && are_pairs rest
are_pairs _ = false

-- the byte that two digits write
abbrev pub pair_value : ℕ → ℕ → ℕ
pair_value a b = (digit_value a * 16 + digit_value b) % 256

abbrev pub pair_at : ℕ → List ℕ → ℕ
pair_at i t = pair_value (slice_index t i) (slice_index t (i + 1))

abbrev pub mac_of : List ℕ → Option (List ℕ)
mac_of t = if (length t == 17) && are_pairs t then Some (pair_at 0 t ∷ pair_at 3 t ∷ pair_at 6 t ∷ pair_at 9 t ∷ pair_at 12 t ∷ pair_at 15 t ∷ []) else None

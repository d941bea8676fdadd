-- The text of an IPv6 address that is written (RFC 5952 section 4).
use Rattle.std.specs.Prelude.{◌≡◌, ℕ, ◌+◌, ◌/◌, ◌%◌, ◌<◌, ◌≤◌, ◌⊎◌, ◌==◌, false, max, nat_le, map, List, [], ◌∷◌, ◌++◌, length, take, drop, slice_index, suc, zero, if◌then◌else◌}
use Rattle.std.specs.Fmt.{digits}
use Rattle.addr_text.specs.Parts.{joined}

-- the last fields of a number, as many as said, sixteen bits each
abbrev pub fields_of : ℕ → ℕ → List ℕ
fields_of zero n = []
fields_of (suc k) n = fields_of k (n / 65536) ++ n % 65536 ∷ []

-- hexadecimal digits in lower case, without leading zeros (4.1, 4.3)
abbrev pub hex : ℕ → List ℕ
hex field = digits 16 false field

abbrev pub fields_text : List ℕ → List ℕ
fields_text fs = joined 58 (map hex fs)

-- how many fields at the front are zero
abbrev pub zeros : List ℕ → ℕ
zeros [] = 0
zeros (f ∷ fs) = if f == 0 then zeros fs + 1 else 0

-- how many fields the longest run of zeros has
abbrev pub longest : List ℕ → ℕ
longest [] = 0
longest (f ∷ fs) = max (zeros (f ∷ fs)) (longest fs)

-- where zeros of this number begin first
abbrev pub first_run : ℕ → List ℕ → ℕ
first_run n [] = 0
first_run n (f ∷ fs) = if zeros (f ∷ fs) == n then 0 else first_run n fs + 1

-- two colons in the place of n fields
abbrev pub shortened : List ℕ → ℕ → ℕ → List ℕ
shortened fs start n = fields_text (take start fs) ++ 58 ∷ 58 ∷ fields_text (drop (start + n) fs)

-- two colons stand for the longest run of zeros, the first of equals, and never for one field (4.2)
abbrev pub compressed : List ℕ → List ℕ
compressed fs = if nat_le (longest fs) 1 then fields_text fs else shortened fs (first_run (longest fs) fs) (longest fs)

-- the text of the address of this number
abbrev pub v6_text : ℕ → List ℕ
v6_text bits = compressed (fields_of 8 bits)

-- as many fields from a place on are zero
pub record IsZeroRun (fs : List ℕ) (start n : ℕ) : Type 0 where
  pub within : start + n ≤ length fs
  pub zero : (k : ℕ) → k < n → slice_index fs (start + k) ≡ 0

-- a run of zeros is shortened that is the longest, the first of equals, and at least two fields long (4.2.1 to 4.2.3)
pub record IsShortened (fs text : List ℕ) : Type 0 where
  pub start : ℕ
  pub count : ℕ
  pub run : IsZeroRun fs start count
  pub at_least_two : 2 ≤ count
  pub longest_run : (s n : ℕ) → IsZeroRun fs s n → n ≤ count
  pub first_of_equals : (s : ℕ) → IsZeroRun fs s count → start ≤ s
  pub written : text ≡ shortened fs start count

-- what section 4.2 asks of the text of these fields
abbrev pub IsCanonical : List ℕ → List ℕ → Type 0
IsCanonical fs text = IsShortened fs text ⊎ (((s : ℕ) → IsZeroRun fs s 2 → ⊥) × (text ≡ fields_text fs))

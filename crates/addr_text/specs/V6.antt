-- The texts of IPv6 addresses (RFC 4291 section 2.2), as a grammar by cases.
use Rattle.std.specs.Prelude.{◌≡◌, ℕ, ◌+◌, ◌-◌, ◌*◌, ◌/◌, ◌%◌, ◌^◌, ◌≤◌, ◌⊎◌, IsTrue, List, [], ◌∷◌, ◌++◌, length, replicate}
use Rattle.addr_text.specs.Digits.{is_field, number}
use Rattle.addr_text.specs.Dotted.{IsDotted}
use Rattle.addr_text.specs.Parts.{joined}

-- the part is a field of this number: one to four hexadecimal digits of either case
abbrev pub IsField : List ℕ → ℕ → Type 0
IsField part v = IsTrue (is_field part) × (v ≡ number 16 part)

-- the parts are fields of these numbers
abbrev pub AreFields : List (List ℕ) → List ℕ → Type 0
AreFields [] vs = vs ≡ []
AreFields (p ∷ ps) [] = ⊥
AreFields (p ∷ ps) (v ∷ vs) = IsField p v × AreFields ps vs

-- the part is an IPv4 address, which stands for two fields (form 3)
abbrev pub IsTail : List ℕ → List ℕ → Type 0
IsTail part vs = (n : ℕ) × (IsDotted part n × (vs ≡ n / 65536 ∷ n % 65536 ∷ []))

-- the parts are fields of these numbers, or fields and behind them an IPv4 address
abbrev pub IsRun : List (List ℕ) → List ℕ → Type 0
IsRun [] vs = vs ≡ []
IsRun (p ∷ []) vs = AreFields (p ∷ []) vs ⊎ IsTail p vs
IsRun (p ∷ q ∷ ps) [] = ⊥
IsRun (p ∷ q ∷ ps) (v ∷ vs) = IsField p v × IsRun (q ∷ ps) vs

-- the number that fields of sixteen bits make, the first the highest
abbrev pub fields_number : List ℕ → ℕ
fields_number [] = 0
fields_number (v ∷ vs) = v * 65536 ^ length vs + fields_number vs

-- eight fields with colons between them (forms 1 and 3)
pub record IsWhole (text : List ℕ) (bits : ℕ) : Type 0 where
  pub parts : List (List ℕ)
  pub fields : List ℕ
  pub written : text ≡ joined 58 parts
  pub run : IsRun parts fields
  pub eight : length fields ≡ 8
  pub value : bits ≡ fields_number fields

-- two colons in the place of zeros, at least one (forms 2 and 3)
pub record IsShort (text : List ℕ) (bits : ℕ) : Type 0 where
  pub left : List (List ℕ)
  pub right : List (List ℕ)
  pub front : List ℕ
  pub back : List ℕ
  pub written : text ≡ joined 58 left ++ 58 ∷ 58 ∷ joined 58 right
  pub front_fields : AreFields left front
  pub back_run : IsRun right back
  pub stands_for_one : length front + length back ≤ 7
  pub value : bits ≡ fields_number (front ++ replicate (8 - (length front + length back)) 0 ++ back)

-- the text is one of the IPv6 address of this number
abbrev pub IsV6 : List ℕ → ℕ → Type 0
IsV6 text bits = IsWhole text bits ⊎ IsShort text bits

-- What a value may be: strings, integers, booleans and words, and which of them stand for one another.
use Rattle.std.specs.Prelude.{ℕ, zero, ℤ, pos, negsuc, Bool, true, false, ◌&&◌, ◌==◌, nat_lt, if◌then◌else◌, List, [], ◌∷◌, length, drop, Option, Some, None, Result, Ok, Err, ok_or, codes}
use Rattle.std.specs.List.{list_all}
use Rattle.std.specs.Option.{option_map_or}
use Rattle.std.specs.Char.{digit_value}
use Rattle.std.specs.Fmt.{signed_decimal}
use Rattle.std.specs.Str.Parse.{digits_value, signed_digits_value}
use Rattle.net_model.specs.Name.{is_name}
use Rattle.net_model.specs.Options.{is_within}
use Rattle.net_text.specs.Words.{word_in, booleans}
use Rattle.doc_tree.specs.Shape.{Shape, nothing, truth, whole, text}
use Rattle.yaml_plain.specs.Plain.{is_integer}
use Rattle.tree_schema.specs.declared.fault.Reason.{Reason}
use Rattle.tree_schema.specs.declared.fault.Reason.TheVariants.{WrongType, OutOfRange}

-- what a value is read as, or why it can't be
abbrev pub Looked : Type 0 → Type 0
Looked X = Result X Reason

abbrev pub and_if : {X Y : Type 0} → Looked X → (X → Looked Y) → Looked Y
and_if (Ok x) next = next x
and_if (Err reason) next = Err reason

abbrev pub is_null : Shape → Bool
is_null nothing = true
is_null _ = false

-- ---- strings

-- a string; an integer stands for its decimal digits, and a boolean for its word
abbrev pub string_of : Shape → Looked (List ℕ)
string_of (text t) = Ok t
string_of (whole z) = Ok (signed_decimal z)
string_of (truth b) = Ok (if b then codes "true" else codes "false")
string_of _ = Err WrongType

-- a string that passes
abbrev pub is_string : (List ℕ → Bool) → Shape → Bool
is_string test (text t) = test t
is_string test _ = false

-- a string of a form; any other is refused for this reason
abbrev pub formed_or : {X : Type 0} → Reason → (List ℕ → Option X) → Shape → Looked X
formed_or reason form s = and_if (string_of s) (λ t. ok_or (form t) reason)

-- any other is out of range
abbrev pub formed : {X : Type 0} → (List ℕ → Option X) → Shape → Looked X
formed form s = formed_or OutOfRange form s

-- one of these words
abbrev pub one_of : {X : Type 0} → List (List ℕ × X) → Shape → Looked X
one_of words s = formed (word_in words) s

-- the value itself, where it passes
abbrev pub passing : {X : Type 0} → (X → Bool) → X → Option X
passing test x = if test x then Some x else None

-- the name of a link
abbrev pub name_from : List ℕ → Option (List ℕ)
name_from t = passing is_name t

abbrev pub name : Shape → Looked (List ℕ)
name s = formed name_from s

-- nothing for an empty string, which counts as left out
abbrev pub unless_empty : {X : Type 0} → (Shape → Looked X) → Shape → Looked (Option X)
unless_empty look (text []) = Ok None
unless_empty look s = and_if (look s) (λ x. Ok (Some x))

-- ---- numbers

-- an integer, or a string that YAML would read as one if it weren't quoted
abbrev pub integer : Shape → Looked ℤ
integer (whole z) = Ok z
integer (text t) = if is_integer t then Ok (signed_digits_value 10 t) else Err OutOfRange
integer _ = Err WrongType

abbrev pub in_range : ℕ → ℕ → ℤ → Looked ℕ
in_range least most (pos n) = if is_within least most n then Ok n else Err OutOfRange
in_range least most (negsuc n) = Err OutOfRange

-- a number from the least to the most
abbrev pub number : ℕ → ℕ → Shape → Looked ℕ
number least most s = and_if (integer s) (in_range least most)

abbrev pub u32_most : ℕ
u32_most = 4294967295

abbrev pub u32 : Shape → Looked ℕ
u32 s = number 0 u32_most s

-- nothing for -1, which counts as left out
abbrev pub from_minus_one : ℤ → Looked (Option ℕ)
from_minus_one (negsuc zero) = Ok None
from_minus_one z = and_if (in_range 0 u32_most z) (λ n. Ok (Some n))

abbrev pub unless_minus_one : Shape → Looked (Option ℕ)
unless_minus_one s = and_if (integer s) from_minus_one

-- ---- marks: a number, or `0x` and 1 to 8 hexadecimal digits

abbrev pub begins_hex : List ℕ → Bool
begins_hex (a ∷ b ∷ digits) = (a == 0x30) && (b == 0x78)
begins_hex _ = false

abbrev pub is_hex_digit : ℕ → Bool
is_hex_digit c = nat_lt (digit_value c) 16

abbrev pub is_hex : List ℕ → Bool
is_hex t = begins_hex t && is_within 3 10 (length t) && list_all is_hex_digit (drop 2 t)

abbrev pub hex_mark : List ℕ → Option ℕ
hex_mark t = if is_hex t then Some (digits_value 16 (drop 2 t)) else None

abbrev pub mark : Shape → Looked ℕ
mark (text t) = option_map_or Ok (hex_mark t) (u32 (text t))
mark s = u32 s

-- ---- booleans

-- a boolean, or its word
abbrev pub boolean : Shape → Looked Bool
boolean (truth b) = Ok b
boolean (text t) = ok_or (word_in booleans t) OutOfRange
boolean _ = Err WrongType

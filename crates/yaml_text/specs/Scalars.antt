-- How a scalar or a key is printed on its line.
use Rattle.std.specs.Prelude.{ℕ, ◌+◌, ◌/◌, ◌%◌, Bool, false, not, ◌&&◌, ◌||◌, ◌==◌, nat_lt, if◌then◌else◌, List, [], ◌∷◌, ◌++◌, codes, flat_map}
use Rattle.std.specs.List.{list_all, list_any}
use Rattle.std.specs.Char.{is_ascii_alphanumeric}
use Rattle.std.specs.Fmt.{signed_decimal}
use Rattle.doc_tree.specs.Shape.{Shape, nothing, truth, whole, text, list, mapping}
use Rattle.yaml_plain.specs.Bytes.{quote, apostrophe, backslash, colon}
use Rattle.yaml_plain.specs.Plain.{is_text, plain_value}

-- a letter, a digit, or one of these signs
abbrev pub is_plain_byte : ℕ → Bool
is_plain_byte b = is_ascii_alphanumeric b || list_any (λ c. c == b) (codes "._-/:+,")

abbrev pub begins_with_letter_or_digit : List ℕ → Bool
begins_with_letter_or_digit [] = false
begins_with_letter_or_digit (b ∷ bs) = is_ascii_alphanumeric b

abbrev pub ends_with_colon : List ℕ → Bool
ends_with_colon [] = false
ends_with_colon (b ∷ []) = b == colon
ends_with_colon (b ∷ c ∷ bs) = ends_with_colon (c ∷ bs)

-- A text stands without quotes: it has only such bytes, begins with a letter or a digit, doesn't end with a colon, and what is
-- read of it is a text, and so no number, no boolean and no null.
unfoldable pub is_plain : List ℕ → Bool
is_plain s =
    (begins_with_letter_or_digit s && list_all is_plain_byte s)
    && (not (ends_with_colon s) && is_text (plain_value s))

-- a control byte of ASCII
abbrev pub is_control : ℕ → Bool
is_control b = nat_lt b 0x20 || (b == 0x7F)

-- a hexadecimal digit in lower case
abbrev pub hex_digit : ℕ → ℕ
hex_digit d = if nat_lt d 10 then 0x30 + d else 0x57 + d

-- a byte between double quotes
abbrev pub escaped : ℕ → List ℕ
escaped b =
    if is_control b then backslash ∷ 0x78 ∷ hex_digit (b / 16) ∷ hex_digit (b % 16) ∷ []
    else if (b == quote) || (b == backslash) then backslash ∷ b ∷ []
    else b ∷ []

-- a byte between single quotes
abbrev pub doubled : ℕ → List ℕ
doubled b = if b == apostrophe then apostrophe ∷ apostrophe ∷ [] else b ∷ []

abbrev pub in_double_quotes : List ℕ → List ℕ
in_double_quotes s = quote ∷ (flat_map escaped s ++ (quote ∷ []))

abbrev pub in_single_quotes : List ℕ → List ℕ
in_single_quotes s = apostrophe ∷ (flat_map doubled s ++ (apostrophe ∷ []))

-- a text or a key
unfoldable pub printed : List ℕ → List ℕ
printed s =
    if is_plain s then s
    else if list_any is_control s then in_double_quotes s
    else in_single_quotes s

-- a scalar, and a list or a map that is empty
abbrev pub on_line : Shape → List ℕ
on_line nothing = codes "null"
on_line (truth b) = if b then codes "true" else codes "false"
on_line (whole z) = signed_decimal z
on_line (text s) = printed s
on_line (list ts) = codes "[]"
on_line (mapping ps) = codes "{}"

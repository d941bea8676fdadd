-- Quoted scalars (YAML 1.2, sections 5.7, 7.3.1 and 7.3.2).
use Rattle.std.specs.Prelude.{ℕ, zero, suc, Bool, true, false, not, ◌&&◌, ◌||◌, ◌==◌, nat_lt, nat_le, if◌then◌else◌, List, [], ◌∷◌, ◌++◌, length, take, drop, Option, Some, None, option_map, option_and_then, encode_utf8}
use Rattle.std.specs.List.{list_all}
use Rattle.std.specs.Char.{is_digit}
use Rattle.std.specs.Str.Parse.{digits_value}
use Rattle.yaml_plain.specs.Bytes.{quote, apostrophe, backslash, is_empty, begins, tail}
use Rattle.yaml_plain.specs.Plain.{with_front}

-- Behind an apostrophe: the scalar, and the text behind its closing apostrophe; two of them stand for one.
-- pending: an apostrophe comes before.
abbrev pub single_quoted : Bool → List ℕ → Option (List ℕ × List ℕ)
single_quoted false [] = None
single_quoted true [] = Some ([], [])
single_quoted false (b ∷ bs) =
    if b == apostrophe then single_quoted true bs else option_map (with_front b) (single_quoted false bs)
single_quoted true (b ∷ bs) =
    if b == apostrophe then option_map (with_front b) (single_quoted false bs) else Some ([], b ∷ bs)

-- Behind a double quote: what stands up to the closing one, and the text behind that. escaped: a backslash comes before.
abbrev pub double_quoted : Bool → List ℕ → Option (List ℕ × List ℕ)
double_quoted escaped [] = None
double_quoted escaped (b ∷ bs) =
    if not escaped && (b == quote) then Some ([], bs)
    else option_map (with_front b) (double_quoted (not escaped && (b == backslash)) bs)

-- the number that hexadecimal digits write
abbrev pub hex_value : List ℕ → Option ℕ
hex_value digits = if list_all (λ d. is_digit d 16) digits then Some (digits_value 16 digits) else None

-- the character of a number of four digits at most: surrogates are none
abbrev pub char_of : ℕ → Option ℕ
char_of n = if nat_lt n 0xD800 || nat_le 0xE000 n then Some n else None

-- the character that n hexadecimal digits write, and the text behind them
unfoldable pub hex_escape : ℕ → List ℕ → Option (ℕ × List ℕ)
hex_escape n bs =
    if nat_lt (length bs) n then None
    else option_map (λ c. (c, drop n bs)) (option_and_then char_of (hex_value (take n bs)))

-- the character that follows a backslash, and the text behind it
unfoldable pub escape : List ℕ → Option (ℕ × List ℕ)
escape [] = None
escape (b ∷ bs) =
    if ((b == backslash) || (b == quote)) || (b == 0x2F) then Some (b, bs)
    else if b == 0x6E then Some (0x0A, bs)
    else if b == 0x74 then Some (0x09, bs)
    else if b == 0x72 then Some (0x0D, bs)
    else if b == 0x30 then Some (0, bs)
    else if b == 0x78 then hex_escape 2 bs
    else if b == 0x75 then hex_escape 4 bs
    else None

abbrev pub encoded : ℕ × List ℕ → List ℕ × List ℕ
encoded e = (encode_utf8 e.0, e.1)

-- what the first character of a double quoted scalar gives, and the text behind it
unfoldable pub piece : List ℕ → Option (List ℕ × List ℕ)
piece [] = None
piece (b ∷ bs) = if b == backslash then option_map encoded (escape bs) else Some (b ∷ [], bs)

abbrev pub behind_piece : (List ℕ → Option (List ℕ)) → List ℕ × List ℕ → Option (List ℕ)
behind_piece go p = option_map (λ rest. p.0 ++ rest) (go p.1)

-- The number bounds the turns: each takes a byte at least.
unfoldable pub unescaped_within : ℕ → List ℕ → Option (List ℕ)
unescaped_within zero bs = if is_empty bs then Some [] else None
unescaped_within (suc n) bs = if is_empty bs then Some [] else option_and_then (behind_piece (unescaped_within n)) (piece bs)

-- what stands between double quotes, each escape as its character
unfoldable pub unescaped : List ℕ → Option (List ℕ)
unescaped bs = unescaped_within (length bs) bs

abbrev pub begins_quoted : List ℕ → Bool
begins_quoted bs = begins quote bs || begins apostrophe bs

abbrev pub unescaped_front : List ℕ × List ℕ → Option (List ℕ × List ℕ)
unescaped_front p = option_map (λ s. (s, p.1)) (unescaped p.0)

-- where a quoted scalar begins: the scalar, and the text behind it
unfoldable pub quoted : List ℕ → Option (List ℕ × List ℕ)
quoted bs =
    if begins quote bs then option_and_then unescaped_front (double_quoted false (tail bs))
    else single_quoted false (tail bs)

-- where one begins and is closed: the text behind its closing quote
unfoldable pub closed_quote : List ℕ → Option (List ℕ)
closed_quote bs =
    if begins quote bs then option_map (λ p. p.1) (double_quoted false (tail bs))
    else option_map (λ p. p.1) (single_quoted false (tail bs))

-- Plain scalars (YAML 1.2, section 7.3.3).
use Rattle.std.specs.Prelude.{ℕ, ◌^◌, Bool, true, false, not, ◌&&◌, ◌||◌, ◌==◌, nat_lt, nat_le, if◌then◌else◌, List, [], ◌∷◌, codes}
use Rattle.std.specs.List.{list_all}
use Rattle.std.specs.Char.{is_digit}
use Rattle.std.specs.Str.Parse.{digits_value, signed_digits_value}
use Rattle.doc_tree.specs.Shape.{Shape, nothing, truth, whole, text, list, mapping}
use Rattle.yaml_plain.specs.Bytes.{space, hash, colon, dash, question, is_empty, begins, is_same, tail, is_sign, is_indicator, at_gap, is_flow, at_break}
use Rattle.yaml_plain.specs.declared.style.Style.{Style}

-- decimal digits that don't begin with 0
abbrev pub is_digits : List ℕ → Bool
is_digits [] = false
is_digits (b ∷ bs) = list_all (λ c. is_digit c 10) (b ∷ bs) && not (b == 0x30)

-- the form of a whole number: 0, or digits that may have a minus before them
abbrev pub is_whole : List ℕ → Bool
is_whole bs = if begins dash bs then is_digits (tail bs) else is_same bs (codes "0") || is_digits bs

-- a whole number of 128 bits
unfoldable pub is_integer : List ℕ → Bool
is_integer bs =
    is_whole bs
    && (if begins dash bs then nat_le (digits_value 10 (tail bs)) (2 ^ 127) else nat_lt (digits_value 10 bs) (2 ^ 127))

abbrev pub is_null : List ℕ → Bool
is_null bs = (is_same bs (codes "null") || is_same bs (codes "~")) || is_empty bs

-- what a plain scalar stands for, as a value
unfoldable pub plain_value : List ℕ → Shape
plain_value bs =
    if is_integer bs then whole (signed_digits_value 10 bs)
    else if is_same bs (codes "true") then truth true
    else if is_same bs (codes "false") then truth false
    else if is_null bs then nothing
    else text bs

abbrev pub is_text : Shape → Bool
is_text nothing = false
is_text (truth b) = false
is_text (whole z) = false
is_text (text s) = true
is_text (list ts) = false
is_text (mapping ps) = false

-- A plain scalar begins here: with none of the signs, nor with a dash, a question mark or a colon before a gap, nor in flow
-- with a colon before a sign.
abbrev pub begins_plain : Style → List ℕ → Bool
begins_plain style [] = false
begins_plain style (b ∷ bs) =
    (not (is_indicator b) && not (((b == dash) || (b == question)) && at_gap bs)) && not ((b == colon) && at_break style bs)

-- A plain scalar ends before this byte, which has this text behind it: before a comment, before a colon and a gap, and in
-- flow before a sign, or a colon and a sign. spaced: a space comes before.
abbrev pub ends_plain : Style → Bool → ℕ → List ℕ → Bool
ends_plain style spaced b bs = ((spaced && (b == hash)) || ((b == colon) && at_break style bs)) || (is_flow style && is_sign b)

abbrev pub with_front : ℕ → List ℕ × List ℕ → List ℕ × List ℕ
with_front b p = (b ∷ p.0, p.1)

-- a plain scalar with the spaces behind it, and the text from its end on
abbrev pub plain_split : Style → Bool → List ℕ → List ℕ × List ℕ
plain_split style spaced [] = ([], [])
plain_split style spaced (b ∷ bs) =
    if ends_plain style spaced b bs then ([], b ∷ bs) else with_front b (plain_split style (b == space) bs)

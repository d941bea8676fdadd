-- Bytes, and what stands at the front and the end of a text.
use Rattle.std.specs.Prelude.{ℕ, ◌+◌, Bool, true, false, ◌&&◌, ◌||◌, ◌==◌, if◌then◌else◌, List, [], ◌∷◌, codes}
use Rattle.std.specs.List.{list_any}
use Rattle.yaml_plain.specs.declared.style.Style.{Style}
use Rattle.yaml_plain.specs.declared.style.Style.TheVariants.{Block, Flow}

abbrev pub space : ℕ
space = 0x20

abbrev pub tab : ℕ
tab = 0x09

abbrev pub quote : ℕ
quote = 0x22

abbrev pub apostrophe : ℕ
apostrophe = 0x27

abbrev pub backslash : ℕ
backslash = 0x5C

abbrev pub hash : ℕ
hash = 0x23

abbrev pub colon : ℕ
colon = 0x3A

abbrev pub comma : ℕ
comma = 0x2C

abbrev pub dash : ℕ
dash = 0x2D

abbrev pub question : ℕ
question = 0x3F

abbrev pub left_bracket : ℕ
left_bracket = 0x5B

abbrev pub right_bracket : ℕ
right_bracket = 0x5D

abbrev pub left_brace : ℕ
left_brace = 0x7B

abbrev pub right_brace : ℕ
right_brace = 0x7D

abbrev pub is_empty : List ℕ → Bool
is_empty [] = true
is_empty (b ∷ bs) = false

-- the text begins with this byte
abbrev pub begins : ℕ → List ℕ → Bool
begins c [] = false
begins c (b ∷ bs) = b == c

-- the text begins with this one
abbrev pub begins_with : List ℕ → List ℕ → Bool
begins_with [] bs = true
begins_with (c ∷ cs) [] = false
begins_with (c ∷ cs) (b ∷ bs) = (b == c) && begins_with cs bs

abbrev pub is_same : List ℕ → List ℕ → Bool
is_same [] [] = true
is_same [] (b ∷ bs) = false
is_same (a ∷ xs) [] = false
is_same (a ∷ xs) (b ∷ bs) = (a == b) && is_same xs bs

-- the text without its first byte
abbrev pub tail : List ℕ → List ℕ
tail [] = []
tail (b ∷ bs) = bs

-- the number of spaces at the front, and the text behind them
abbrev pub leading_spaces : List ℕ → ℕ
leading_spaces [] = 0
leading_spaces (b ∷ bs) = if b == space then leading_spaces bs + 1 else 0

abbrev pub skip_spaces : List ℕ → List ℕ
skip_spaces [] = []
skip_spaces (b ∷ bs) = if b == space then skip_spaces bs else b ∷ bs

-- a text with a byte put in front, unless that makes it a lone space
abbrev pub push_unless_blank : ℕ → List ℕ → List ℕ
push_unless_blank b [] = if b == space then [] else b ∷ []
push_unless_blank b (c ∷ cs) = b ∷ c ∷ cs

-- the text without the spaces at its end
abbrev pub trim_end : List ℕ → List ℕ
trim_end [] = []
trim_end (b ∷ bs) = push_unless_blank b (trim_end bs)

-- a sign of flow
abbrev pub is_sign : ℕ → Bool
is_sign b = list_any (λ c. c == b) (codes "[]{},")

-- what no plain scalar begins with
abbrev pub is_indicator : ℕ → Bool
is_indicator b = list_any (λ c. c == b) (codes "[]{},#&*!|>'\"%@`")

-- a space or the end comes
abbrev pub at_gap : List ℕ → Bool
at_gap [] = true
at_gap (b ∷ bs) = b == space

-- within the brackets of flow
abbrev pub is_flow : Style → Bool
is_flow Block = false
is_flow Flow = true

-- the same, and in flow a sign
abbrev pub at_break : Style → List ℕ → Bool
at_break style [] = true
at_break style (b ∷ bs) = (b == space) || (is_flow style && is_sign b)

-- What a text is read as, and what stands in a place, which are shown to meet Grammar and Places of `policy_grammar`.
use Rattle.std.specs.Prelude.{ℕ, ◌-◌, Bool, true, false, not, ◌&&◌, ◌||◌, ◌==◌, if◌then◌else◌, List, [], ◌∷◌, length, take, drop, Option, Some, None, option_map, option_and_then, codes}
use Rattle.std.specs.List.{list_all}
use Rattle.std.specs.Str.{bytes_eq}
use Rattle.std.specs.Str.Parse.{signed_digits_value}
use Rattle.yaml_plain.specs.Bytes.{quote, skip_spaces, trim_end, begins, tail, is_same}
use Rattle.yaml_plain.specs.Plain.{is_integer, with_front}
use Rattle.policy_model.specs.Keys.{Text, is_key_byte, is_key, dot, capture_word}
use Rattle.policy_model.specs.Grammar.{bar}
use Rattle.policy_model.specs.declared.expression.Constant.TheVariants as constant
use Rattle.policy_model.specs.declared.expression.Reference.{Reference}
use Rattle.policy_model.specs.declared.expression.Operand.{Operand}
use Rattle.policy_model.specs.declared.expression.Operand.TheVariants.{Constant as Written, Refers}
use Rattle.policy_model.specs.declared.expression.Verb.{Verb}
use Rattle.policy_model.specs.declared.expression.Verb.TheVariants.{Keep, Set}
use Rattle.policy_model.specs.declared.expression.Step.{Step}
use Rattle.policy_model.specs.declared.expression.Expression.{Expression}

-- without the spaces at both ends
abbrev pub trimmed : Text → Text
trimmed text = trim_end (skip_spaces text)

-- ---- paths and references

-- inside quotes, or outside, behind this byte
abbrev pub flips : ℕ → Bool → Bool
flips b quoted = if b == quote then not quoted else quoted

-- a byte more at the front of the first part
abbrev pub onto_first : ℕ → List Text → List Text
onto_first b [] = (b ∷ []) ∷ []
onto_first b (part ∷ parts) = (b ∷ part) ∷ parts

-- what stands between these signs, of which those inside double quotes are none
abbrev pub between : ℕ → Bool → Text → List Text
between sign quoted [] = [] ∷ []
between sign quoted (b ∷ bs) =
    if (b == sign) && not quoted then [] ∷ between sign false bs
    else onto_first b (between sign (flips b quoted) bs)

abbrev pub if_keys : List Text → Option (List Text)
if_keys parts = if list_all is_key parts then Some parts else None

abbrev pub path_of : Text → Option (List Text)
path_of text = if_keys (between dot false text)

abbrev pub referring : List Text → Option Reference
referring (word ∷ name ∷ key ∷ keys) = if bytes_eq word capture_word then Some (record { name = name; path = key ∷ keys }) else None
referring _ = None

abbrev pub reference_of : Text → Option Reference
reference_of text = option_and_then referring (path_of text)

-- ---- operands

-- an empty string, where nothing follows
abbrev pub ends_here : Text → Option Text
ends_here [] = Some []
ends_here (b ∷ bs) = None

-- the string behind a quote: the next one ends it, and the text
abbrev pub up_to_quote : Text → Option Text
up_to_quote [] = None
up_to_quote (b ∷ bs) = if b == quote then ends_here bs else option_map (λ s. b ∷ s) (up_to_quote bs)

abbrev pub operand_of : Text → Option Operand
operand_of text =
    if begins quote text then option_map (λ s. Written (constant.Text s)) (up_to_quote (tail text))
    else if is_same text (codes "true") then Some (Written (constant.Bool true))
    else if is_same text (codes "false") then Some (Written (constant.Bool false))
    else if is_integer text then Some (Written (constant.Int (signed_digits_value 10 text)))
    else option_map Refers (reference_of text)

-- ---- steps

abbrev pub is_path_byte : ℕ → Bool
is_path_byte b = is_key_byte b || (b == dot)

-- keys and dots at the front, and the text behind them
abbrev pub path_split : Text → Text × Text
path_split [] = ([], [])
path_split (b ∷ bs) = if is_path_byte b then with_front b (path_split bs) else ([], b ∷ bs)

abbrev pub step_from : Option (List Text) → Verb → Option Operand → Option Step
step_from (Some path) verb (Some operand) = Some (record { path = path; verb = verb; operand = operand })
step_from _ verb _ = None

-- the sign, and behind it the operand
abbrev pub signed : Option (List Text) → Text → Option Step
signed path (a ∷ b ∷ bs) =
    if (a == 0x3D) && (b == 0x3D) then step_from path Keep (operand_of (skip_spaces bs))
    else if (a == 0x3A) && (b == 0x3D) then step_from path Set (operand_of (skip_spaces bs))
    else None
signed path _ = None

unfoldable pub step_of : Text → Option Step
step_of text = let parts = path_split (trimmed text) in signed (path_of parts.0) (skip_spaces parts.1)

-- ---- expressions

abbrev pub starting : List Text → Option Text
starting (word ∷ name ∷ []) = if bytes_eq word capture_word then Some name else None
starting _ = None

-- the name in `capture.NAME` alone
unfoldable pub start_of : Text → Option Text
start_of text = option_and_then starting (path_of (trimmed text))

abbrev pub and_step : Option Step → Option (List Step) → Option (List Step)
and_step (Some step) (Some steps) = Some (step ∷ steps)
and_step _ _ = None

abbrev pub steps_of : List Text → Option (List Step)
steps_of [] = Some []
steps_of (part ∷ parts) = and_step (step_of part) (steps_of parts)

abbrev pub from : Option Text → Option (List Step) → Option Expression
from start steps = option_map (λ ss. record { start = start; steps = ss }) steps

-- the first part may be a start; all others are steps
abbrev pub begun : Option Text → Text → List Text → Option Expression
begun None part parts = from None (steps_of (part ∷ parts))
begun (Some name) part parts = from (Some name) (steps_of parts)

abbrev pub parted : List Text → Option Expression
parted [] = None
parted (part ∷ parts) = begun (start_of part) part parts

-- the expression that a text is read as, if it is any
unfoldable pub expression_of : Text → Option Expression
expression_of text = parted (between bar false text)

-- ---- places

abbrev pub behind_braces : Text → Option Text
behind_braces text = if bytes_eq (take 2 text) (codes "{{") then Some (drop 2 text) else None

abbrev pub before_braces : Text → Option Text
before_braces text = if bytes_eq (drop (length text - 2) text) (codes "}}") then Some (take (length text - 2) text) else None

-- what stands between `{{` and `}}`, where a text begins and ends with these
abbrev pub inside : Text → Option Text
inside text = option_and_then before_braces (behind_braces text)

-- the reference in a place
unfoldable pub place_of : Text → Option Reference
place_of inner = reference_of (trimmed inner)

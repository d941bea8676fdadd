-- The lines of a script.
use Rattle.std.specs.Prelude.{ℕ, ◌+◌, ◌^◌, List, [], ◌∷◌, length, nat_lt, nat_le, Bool, true, false, not, ◌&&◌, ◌||◌, ◌==◌, Option, Some, None, Result, Ok, Err, if◌then◌else◌, map, string_bytes}
use Rattle.std.specs.List.{list_all}
use Rattle.std.specs.Str.{is_utf8}
use Rattle.std.specs.Str.Parse.{digits_value}
use Rattle.net_model.specs.Words.{is_empty}
use Rattle.top_model.specs.Orders.{Text}
use Rattle.doc_tree.specs.declared.limits.TheConstants.{MAX_BYTES}
use Rattle.top_model.specs.declared.report.Step.{Step}

-- a command's words, and their moment
pub record Timed : Type 0 where
  pub at : ℕ
  pub words : List Text

-- ---- parts between signs

-- a byte more at the front of the first part
abbrev pub onto_first : ℕ → List Text → List Text
onto_first byte [] = (byte ∷ []) ∷ []
onto_first byte (part ∷ parts) = (byte ∷ part) ∷ parts

-- each line ends with LF, which the last needn't
abbrev pub lines_of : Text → List Text
lines_of [] = []
lines_of (byte ∷ bytes) = if byte == 10 then [] ∷ lines_of bytes else onto_first byte (lines_of bytes)

-- between single spaces
abbrev pub words_in : Text → List Text
words_in [] = [] ∷ []
words_in (byte ∷ bytes) = if byte == 32 then [] ∷ words_in bytes else onto_first byte (words_in bytes)

-- ---- one line

abbrev pub is_digit : ℕ → Bool
is_digit byte = nat_le 48 byte && nat_le byte 57

-- `0`, or digits that don't begin with 0, below 2^64
abbrev pub begins_well : Text → Bool
begins_well [] = false
begins_well (byte ∷ bytes) = not (byte == 48) || is_empty bytes

abbrev pub is_moment : Text → Bool
is_moment text = list_all is_digit text && begins_well text && nat_lt (digits_value 10 text) (2 ^ 64)

abbrev pub timed : List Text → Option Timed
timed [] = None
timed (moment ∷ []) = None
timed (moment ∷ word ∷ words) = if is_moment moment && list_all (λ w. not (is_empty w)) (word ∷ words) then Some (record { at = digits_value 10 moment; words = word ∷ words }) else None

abbrev pub step_of : Text → Option Timed
step_of line = if is_utf8 line then timed (words_in line) else None

-- empty, or it begins with `#`
abbrev pub is_skipped : Text → Bool
is_skipped [] = true
is_skipped (byte ∷ bytes) = byte == 35

-- ---- all lines

abbrev pub and_rest : ℕ → Option Timed → Result (List Timed) ℕ → Result (List Timed) ℕ
and_rest n None steps = Err n
and_rest n (Some step) (Ok steps) = Ok (step ∷ steps)
and_rest n (Some step) (Err bad) = Err bad

-- the steps of the lines from number n on, or the number of the first that is none; past: the last line reaches past the limit
abbrev pub steps_from : Bool → ℕ → List Text → Result (List Timed) ℕ
steps_from past n [] = Ok []
steps_from past n (line ∷ lines) =
    if past && is_empty lines then Err n else
    if is_skipped line then steps_from past (n + 1) lines else and_rest n (step_of line) (steps_from past (n + 1) lines)

unfoldable pub steps_of : Text → Result (List Timed) ℕ
steps_of bytes = steps_from (nat_lt MAX_BYTES (length bytes)) 1 (lines_of bytes)

-- ---- steps as they are handed over

abbrev pub timed_of : Step → Timed
timed_of step = record { at = step.at; words = map string_bytes step.words.items }

-- The steps of a script as they are handed over.
use Rattle.std.specs.Prelude.{◌≡◌, ◌++◌, Bool, true, false, option_map, ◌<◌, [], ◌∷◌, length, ℕ, List, map, Vec, Option, Some, None, if◌then◌else◌, not, string_bytes, String}
use Rattle.std.specs.Borrow.{Bor}
use Rattle.std.specs.List.{list_all}
use Rattle.std.specs.Str.Parse.{digits_value}
use Rattle.std.specs.declared.alloc.Global.{Global}
use Rattle.net_model.specs.Words.{is_empty}
use Rattle.top_model.specs.Orders.{Text}
use Rattle.top_model.specs.Lines.{Timed, timed_of, is_moment, words_in, is_skipped, step_of}
use Rattle.top_model.specs.declared.Step.{Step}

abbrev pub seen : Vec Step Global → List Timed
seen steps = map timed_of steps.items

abbrev pub words_seen : Vec (String Global) Global → List Text
words_seen words = map string_bytes words.items

-- the moment that a text is, if it is one
abbrev pub moment_of : Text → Option ℕ
moment_of text = if is_moment text then Some (digits_value 10 text) else None

-- words of which none is empty
abbrev pub unless_empty : List Text → Option (List Text)
unless_empty words = if list_all (λ w. not (is_empty w)) words then Some words else None

-- the first of the words and those that follow, or the one word
abbrev pub IsFirstWord : Text → Option (Bor Text × Bor Text) → Type 0
IsFirstWord text None = words_in text ≡ text ∷ []
IsFirstWord text (Some (word, more)) = (words_in text ≡ word.now ∷ words_in more.now) × (length more.now < length text)

-- the steps of a line: none where it is skipped, else one, or nothing where it is no step
abbrev pub line_steps : Text → Option (List Timed)
line_steps line = if is_skipped line then Some [] else option_map (λ step. step ∷ []) (step_of line)

-- the steps with those of the line behind them, where it may stand
abbrev pub TakesLine : Text → List Timed → List Timed → Bool → Type 0
TakesLine line old new true = (more : List Timed) × (line_steps line ≡ Some more) × (new ≡ old ++ more)
TakesLine line old new false = line_steps line ≡ None

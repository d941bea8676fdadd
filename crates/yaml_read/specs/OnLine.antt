-- What stands on a line behind a key's colon or a dash.
use Rattle.std.specs.Prelude.{ℕ, zero, suc, Bool, true, false, ◌&&◌, ◌||◌, if◌then◌else◌, List, Option, Some, None, Result, Ok, Err}
use Rattle.doc_tree.specs.Shape.{Shape}
use Rattle.yaml_read.specs.declared.stop.Why.{Why}
use Rattle.yaml_read.specs.declared.stop.Why.TheVariants.{Outside, Deep, Unfit}
use Rattle.yaml_read.specs.declared.stop.Repeats.{Repeats}
use Rattle.yaml_read.specs.declared.stop.Repeats.TheVariants.{Refused}
use Rattle.yaml_plain.specs.Bytes.{space, hash, left_bracket, left_brace, is_empty, begins, skip_spaces}
use Rattle.yaml_read.specs.Quoted.{begins_quoted}
use Rattle.yaml_read.specs.Keys.{◌>>=◌, begins_other, scalar}
use Rattle.yaml_read.specs.Flow.{flow}
use Rattle.yaml_plain.specs.declared.style.Style.TheVariants.{Block}

-- spaces and a comment, or less
unfoldable pub is_blank : List ℕ → Bool
is_blank text = let bs = skip_spaces text in is_empty bs || begins hash bs

-- behind a quoted or flow value: nothing more than spaces, and a comment behind a space
unfoldable pub is_over : List ℕ → Bool
is_over text = is_empty text || (begins space text && is_blank text)

-- behind a plain value: the end or a comment
abbrev pub is_over_plain : List ℕ → Bool
is_over_plain text = is_empty text || begins hash text

-- a value behind which the line is over
abbrev pub alone : Bool → Shape → Result (Option Shape) Why
alone true t = Ok (Some t)
alone false t = Err Unfit

-- a value that begins with the first byte
abbrev pub value_at : Repeats → ℕ → List ℕ → Result (Option Shape) Why
value_at repeats levels bs =
    if begins_other bs then Err Outside
    else if begins left_bracket bs || begins left_brace bs then flow repeats levels bs >>= (λ p. alone (is_over p.1) p.0)
    else if begins_quoted bs then scalar Block bs >>= (λ p. alone (is_over p.1) p.0)
    else scalar Block bs >>= (λ p. alone (is_over_plain p.1) p.0)

-- the value, of at most so many levels, where one stands there
unfoldable pub on_line : Repeats → ℕ → List ℕ → Result (Option Shape) Why
on_line repeats levels text = if is_blank text then Ok None else value_at repeats levels (skip_spaces text)

-- the same, where an entry may stand: a value, and nothing too, needs a level
abbrev pub entry_on_line : ℕ → List ℕ → Result (Option Shape) Why
entry_on_line zero text = Err Deep
entry_on_line (suc levels) text = on_line Refused (suc levels) text

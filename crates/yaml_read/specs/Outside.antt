-- What of a line lies outside the subset, whatever comes before it.
use Rattle.std.specs.Prelude.{ℕ, zero, suc, ◌+◌, ◌-◌, Bool, true, false, ◌&&◌, ◌||◌, ◌==◌, if◌then◌else◌, List, [], ◌∷◌, length, codes, Option, Some, None}
use Rattle.yaml_plain.specs.Bytes.{space, tab, hash, colon, comma, left_bracket, right_bracket, left_brace, right_brace, is_empty, begins, begins_with, tail, skip_spaces, at_gap, at_break}
use Rattle.yaml_plain.specs.Plain.{begins_plain, plain_split}
use Rattle.yaml_read.specs.Quoted.{begins_quoted, closed_quote}
use Rattle.yaml_read.specs.Rows.{Row, is_dash}
use Rattle.yaml_plain.specs.declared.style.Style.TheVariants.{Block, Flow}

-- a tab stands among the spaces and tabs at the front
abbrev pub has_tab : List ℕ → Bool
has_tab [] = false
has_tab (b ∷ bs) = (b == tab) || ((b == space) && has_tab bs)

abbrev pub byte_order_mark : List ℕ
byte_order_mark = 0xEF ∷ 0xBB ∷ 0xBF ∷ []

-- a mark of a document or a directive
abbrev pub begins_mark : List ℕ → Bool
begins_mark line = (begins_with (codes "---") line || begins_with (codes "...") line) || begins_with (codes "%") line

-- the line is none of any text: it has such a tab, begins with such a mark, or has a byte order mark before the first line
unfoldable pub is_outside : Row → Bool
is_outside r = (has_tab r.line || begins_mark r.line) || ((r.number == 1) && begins_with byte_order_mark r.line)

abbrev pub behind_quote : (List ℕ → Bool) → Option (List ℕ) → Bool
behind_quote go None = true
behind_quote go (Some rest) = go rest

abbrev pub opens_flow : List ℕ → Bool
opens_flow bs = begins left_bracket bs || begins left_brace bs

abbrev pub closes_flow : List ℕ → Bool
closes_flow bs = begins right_bracket bs || begins right_brace bs

-- a sign behind which a node can begin
abbrev pub parts_flow : List ℕ → Bool
parts_flow bs = begins comma bs || (begins colon bs && at_break Flow (tail bs))

-- One step in flow. depth: how many signs are open within the first. fresh: a node can begin here. spaced: a space comes before.
abbrev pub open_step : (ℕ → Bool → Bool → List ℕ → Bool) → ℕ → Bool → Bool → List ℕ → Bool
open_step go depth fresh spaced bs =
    if begins space bs then go depth fresh true (tail bs)
    else if is_empty bs || (spaced && begins hash bs) then true
    else if fresh && begins_quoted bs then behind_quote (go depth false false) (closed_quote bs)
    else if opens_flow bs then go (depth + 1) true false (tail bs)
    else if closes_flow bs && (depth == 0) then false
    else if closes_flow bs then go (depth - 1) false false (tail bs)
    else go depth (parts_flow bs) false (tail bs)

-- Flow is not closed on its line, by its signs and quotes alone. The number bounds the turns: each takes a byte at least.
unfoldable pub flow_is_open : ℕ → ℕ → Bool → Bool → List ℕ → Bool
flow_is_open zero depth fresh spaced bs = true
flow_is_open (suc n) depth fresh spaced bs = open_step (flow_is_open n) depth fresh spaced bs

-- a quoted scalar or a flow value begins here that isn't closed on the line
unfoldable pub value_is_open : List ℕ → Bool
value_is_open bs =
    if opens_flow bs then flow_is_open (length bs) 0 true false (tail bs)
    else begins_quoted bs && behind_quote (λ rest. false) (closed_quote bs)

-- the same of the value behind a key's colon, where one comes
unfoldable pub pair_is_open : List ℕ → Bool
pair_is_open bs = (begins colon bs && at_gap (tail bs)) && value_is_open (skip_spaces (tail bs))

-- the same where a key or a value begins
unfoldable pub entry_is_open : List ℕ → Bool
entry_is_open bs =
    if begins_quoted bs then behind_quote pair_is_open (closed_quote bs)
    else if begins_plain Block bs then pair_is_open (plain_split Block false bs).1
    else value_is_open bs

-- the entry of a line: what stands there, behind its dash if it has one
unfoldable pub entry_of : List ℕ → List ℕ
entry_of line = let bs = skip_spaces line in if is_dash bs then skip_spaces (tail bs) else bs

-- behind the dash of a sequence another begins, with a dash and a space
unfoldable pub has_two_dashes : List ℕ → Bool
has_two_dashes line = is_dash (skip_spaces line) && begins_with (codes "- ") (entry_of line)

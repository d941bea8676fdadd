-- The tree that a text stands for, or its first fault, as a function of its rows.
use Rattle.std.specs.Prelude.{ℕ, zero, suc, ◌+◌, Bool, true, false, not, ◌&&◌, ◌||◌, ◌==◌, nat_lt, if◌then◌else◌, List, [], ◌∷◌, ◌++◌, length, Option, Some, None, option_map, Result, Ok, Err}
use Rattle.std.specs.Str.Lossy.{utf8_valid_len}
use Rattle.doc_tree.specs.declared.limits.TheConstants.{MAX_BYTES, MAX_LEVELS}
use Rattle.doc_tree.specs.Shape.{Shape, nothing, list, mapping, shapes_of, pairs_of}
use Rattle.yaml_read.specs.declared.stop.Why.{Why}
use Rattle.yaml_read.specs.declared.stop.Why.TheVariants.{Repeated, Deep, Unfit}
use Rattle.yaml_read.specs.declared.fault.YamlFault.{YamlFault}
use Rattle.yaml_read.specs.declared.fault.YamlFault.TheVariants as faults
use Rattle.yaml_plain.specs.Bytes.{tail}
use Rattle.yaml_read.specs.Keys.{◌>>=◌, key, is_among}
use Rattle.yaml_read.specs.OnLine.{entry_on_line}
use Rattle.yaml_read.specs.Rows.{Row, rows_of, is_dash}
use Rattle.yaml_read.specs.Outside.{is_outside}
use Rattle.yaml_read.specs.Faults.{fault_of}
use Rattle.yaml_plain.specs.declared.style.Style.TheVariants as style

-- something read from the front, and the rows behind it
abbrev pub Block : Type 0 → Type 0
Block A = Result (A × List Row) YamlFault

-- the fault of a row, by why it can't continue
abbrev pub at_row : {A : Type 0} → Row → Result A Why → Result A YamlFault
at_row r (Ok x) = Ok x
at_row r (Err why) = Err (fault_of why r)

-- the row goes on at this column
abbrev pub is_own : ℕ → Row → Bool
is_own column r = (r.column == column) && not (is_outside r)

-- the key of a row that continues a map at this column, and what follows its colon
unfoldable pub own_key : ℕ → Row → Option (List ℕ × List ℕ)
own_key column r = if is_own column r then key style.Block r.text else None

-- the row continues a sequence at this column
unfoldable pub own_dash : ℕ → Row → Bool
own_dash column r = is_own column r && is_dash r.text

-- the rows begin with one that passes the test
abbrev pub begin_with : (Row → Bool) → List Row → Bool
begin_with test [] = false
begin_with test (r ∷ rows) = test r

-- a row that is deeper, and one that is so or continues a sequence at this column
abbrev pub is_deeper : ℕ → Row → Bool
is_deeper column r = nat_lt column r.column

abbrev pub is_below_key : ℕ → Row → Bool
is_below_key column r = nat_lt column r.column || own_dash column r

abbrev pub begins_deeper : ℕ → List Row → Bool
begins_deeper column rows = begin_with (is_deeper column) rows

abbrev pub begins_below_key : ℕ → List Row → Bool
begins_below_key column rows = begin_with (is_below_key column) rows

-- the first row with its key, where it continues a map, and the rows behind it
abbrev pub first_pair : ℕ → List Row → Option ((List ℕ × List ℕ) × Row × List Row)
first_pair column [] = None
first_pair column (r ∷ rows) = option_map (λ k. (k, r, rows)) (own_key column r)

-- the first row, where it continues a sequence, and the rows behind it
abbrev pub first_item : ℕ → List Row → Option (Row × List Row)
first_item column [] = None
first_item column (r ∷ rows) = if own_dash column r then Some (r, rows) else None

-- in a map or a sequence, whose values have at most so many levels; nodes below their row are read by node
module _ (levels : ℕ) (node : List Row → Block Shape) where
  -- nothing stands on the row: the node that follows, if one does, or null
  abbrev pub below : Bool → List Row → Block Shape
  below true rows = node rows
  below false rows = Ok (nothing, rows)

  abbrev pub value_or_below : Bool → List Row → Option Shape → Block Shape
  value_or_below follows rows (Some t) = Ok (t, rows)
  value_or_below follows rows None = below follows rows

  -- the value of a row with this text behind its colon or dash; follows: the rows behind it may be those of its value
  unfoldable pub value_of : Row → List ℕ → Bool → List Row → Block Shape
  value_of r text follows rows = at_row r (entry_on_line levels text) >>= value_or_below follows rows

  abbrev pub pairs_step : (List (List ℕ) → List Row → Block (List (List ℕ × Shape))) → ℕ → List (List ℕ) → List Row
      → Option ((List ℕ × List ℕ) × Row × List Row) → Block (List (List ℕ × Shape))
  pairs_step go column keys rows None = Ok ([], rows)
  pairs_step go column keys rows (Some f) =
      if is_among f.0.0 keys then Err (fault_of Repeated f.1)
      else value_of f.1 f.0.1 (begins_below_key column f.2) f.2
      >>= (λ v. go (keys ++ f.0.0 ∷ []) v.1 >>= (λ more. Ok ((f.0.0, v.0) ∷ more.0, more.1)))

  -- the rest of a map, behind pairs with these keys; the number bounds the turns
  unfoldable pub pairs : ℕ → ℕ → List (List ℕ) → List Row → Block (List (List ℕ × Shape))
  pairs zero column keys rows = Ok ([], rows)
  pairs (suc n) column keys rows = pairs_step (pairs n column) column keys rows (first_pair column rows)

  abbrev pub items_step : (List Row → Block (List Shape)) → ℕ → List Row → Option (Row × List Row) → Block (List Shape)
  items_step go column rows None = Ok ([], rows)
  items_step go column rows (Some f) =
      value_of f.0 (tail f.0.text) (begins_deeper column f.1) f.1 >>= (λ v. go v.1 >>= (λ more. Ok (v.0 ∷ more.0, more.1)))

  -- the rest of a sequence
  unfoldable pub items : ℕ → ℕ → List Row → Block (List Shape)
  items zero column rows = Ok ([], rows)
  items (suc n) column rows = items_step (items n column) column rows (first_item column rows)

-- a map or a sequence has an entry: else its first row can't continue
abbrev pub some_pairs : Row → List (List ℕ × Shape) → List Row → Block Shape
some_pairs r [] rows = Err (fault_of Unfit r)
some_pairs r (p ∷ ps) rows = Ok (mapping (pairs_of (p ∷ ps)), rows)

abbrev pub some_items : Row → List Shape → List Row → Block Shape
some_items r [] rows = Err (fault_of Unfit r)
some_items r (t ∷ ts) rows = Ok (list (shapes_of (t ∷ ts)), rows)

-- a node of at most so many levels that begins with the first row
unfoldable pub node : ℕ → List Row → Block Shape
node levels [] = Ok (nothing, [])
node zero (r ∷ rows) = Err (fault_of Deep r)
node (suc levels) (r ∷ rows) =
    if is_dash r.text then items levels (node levels) (length (r ∷ rows) + 1) r.column (r ∷ rows) >>= (λ x. some_items r x.0 x.1)
    else pairs levels (node levels) (length (r ∷ rows) + 1) r.column [] (r ∷ rows) >>= (λ x. some_pairs r x.0 x.1)

-- a row behind the top node can't continue
abbrev pub all_rows : Shape → List Row → Result Shape YamlFault
all_rows t [] = Ok t
all_rows t (r ∷ rows) = Err (fault_of Unfit r)

-- what rows stand for
unfoldable pub document : List Row → Result Shape YamlFault
document rows = node MAX_LEVELS rows >>= (λ x. all_rows x.0 x.1)

-- what bytes stand for
unfoldable pub reading : List ℕ → Result Shape YamlFault
reading bytes =
    if nat_lt MAX_BYTES (length bytes) then Err faults.TooLarge
    else if nat_lt (utf8_valid_len bytes) (length bytes) then Err (faults.NotUtf8 (utf8_valid_len bytes))
    else document (rows_of bytes)

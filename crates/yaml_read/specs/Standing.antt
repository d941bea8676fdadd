-- Rows stand for a tree: a relation by cases on rows and columns, apart from the function that reads rows. What stands on
-- one line is what its reading gives (`own_key`, `own_dash`, `entry_on_line`). The rows of a map or a sequence split into
-- those of its first entry and the rest.
use Rattle.std.specs.Prelude.{◌≡◌, ◌≢◌, ℕ, suc, ◌+◌, ◌⊎◌, length, List, [], ◌∷◌, ◌++◌, Bool, true, false, Some, None, Ok}
use Rattle.doc_tree.specs.declared.limits.TheConstants.{MAX_LEVELS}
use Rattle.doc_tree.specs.Shape.{Shape, nothing, truth, whole, text, list, mapping, Shapes, no_shapes, more, Pairs, no_pairs, pair}
use Rattle.yaml_read.specs.declared.fault.YamlFault.{YamlFault}
use Rattle.yaml_read.specs.declared.fault.YamlFault.TheVariants as faults
use Rattle.yaml_plain.specs.Bytes.{tail}
use Rattle.yaml_read.specs.Keys.{is_among}
use Rattle.yaml_read.specs.OnLine.{entry_on_line}
use Rattle.yaml_read.specs.Rows.{Row, rows_of_lines, rows_of}
use Rattle.yaml_read.specs.Reading.{own_key, own_dash, begins_deeper, begins_below_key}

-- The value of an entry, with this text behind its colon or dash and these rows behind its own: it stands on the line, or in
-- the rows, where those may be its own, or nowhere.
abbrev pub HasValue : ℕ → List ℕ → Bool → List Row → Shape → Type 0 → Type 0
HasValue n line follows body t InRows =
    ((entry_on_line n line ≡ Ok (Some t)) × (body ≡ []))
    ⊎ (((entry_on_line n line ≡ Ok None) × (follows ≡ true) × InRows)
    ⊎ ((entry_on_line n line ≡ Ok None) × (body ≡ []) × (t ≡ nothing)))

abbrev mutual
  -- the rows are those of a map or a sequence of at most so many levels, which begins with the first of them
  pub IsNode : ℕ → List Row → Shape → Type 0
  IsNode n rows nothing = ⊥
  IsNode n rows (truth b) = ⊥
  IsNode n rows (whole z) = ⊥
  IsNode n rows (text s) = ⊥
  IsNode n rows (list ts) = (column : ℕ) × (levels : ℕ) × (n ≡ suc levels) × (rows ≢ []) × IsSequence levels column rows ts
  IsNode n rows (mapping ps) = (column : ℕ) × (levels : ℕ) × (n ≡ suc levels) × (rows ≢ []) × IsMapping levels column [] rows ps

  -- the pairs stand one below the other at this column, behind pairs with these keys, with values of at most so many levels
  pub IsMapping : ℕ → ℕ → List (List ℕ) → List Row → Pairs → Type 0
  IsMapping n column keys rows no_pairs = rows ≡ []
  IsMapping n column keys rows (pair k t ps) =
      (r : Row) × (body : List Row) × (rest : List Row) × (line : List ℕ)
      × (rows ≡ r ∷ body ++ rest) × (own_key column r ≡ Some (k, line)) × (is_among k keys ≡ false)
      × HasValue n line (begins_below_key column body) body t (IsNode n body t)
      × IsMapping n column (keys ++ k ∷ []) rest ps

  -- the items stand one below the other at this column
  pub IsSequence : ℕ → ℕ → List Row → Shapes → Type 0
  IsSequence n column rows no_shapes = rows ≡ []
  IsSequence n column rows (more t ts) =
      (r : Row) × (body : List Row) × (rest : List Row)
      × (rows ≡ r ∷ body ++ rest) × (own_dash column r ≡ true)
      × HasValue n (tail r.text) (begins_deeper column body) body t (IsNode n body t)
      × IsSequence n column rest ts

-- the rows stand for the tree
abbrev pub StandFor : List Row → Shape → Type 0
StandFor rows t = ((rows ≡ []) × (t ≡ nothing)) ⊎ IsNode MAX_LEVELS rows t

-- the text stands for the tree
abbrev pub StandsFor : List ℕ → Shape → Type 0
StandsFor bytes t = StandFor (rows_of bytes) t

-- The first row that can't continue a valid document has this number: what comes before it stands for a tree, and nothing that begins with both
-- does.
abbrev pub StopAt : List Row → ℕ → Type 0
StopAt rows n =
    (front : List Row) × (r : Row) × (rest : List Row)
    × (rows ≡ front ++ r ∷ rest) × (r.number ≡ n)
    × ((t : Shape) × StandFor front t)
    × ((later : List Row) (t : Shape) → StandFor (front ++ r ∷ later) t → ⊥)

-- The first line that can't continue a valid document has this number: the lines before it stand for a tree, and no lines that begin with those
-- and it do.
abbrev pub StopsAt : List (List ℕ) → ℕ → Type 0
StopsAt ls n =
    (before : List (List ℕ)) × (line : List ℕ) × (after : List (List ℕ))
    × (ls ≡ before ++ line ∷ after) × (n ≡ length before + 1)
    × ((t : Shape) × StandFor (rows_of_lines before) t)
    × ((others : List (List ℕ)) (t : Shape) → StandFor (rows_of_lines (before ++ line ∷ others)) t → ⊥)

-- the line that a fault names, if it names one
abbrev pub line_of : YamlFault → ℕ
line_of (faults.NotUtf8 n) = 0
line_of (faults.Unsupported n) = n
line_of (faults.Malformed n) = n
line_of (faults.DuplicateKey n) = n
line_of (faults.TooDeep n) = n
line_of faults.TooLarge = 0
line_of faults.OutOfMemory = 0

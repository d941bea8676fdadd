-- The rows of a text: its lines that aren't blank (YAML 1.2, sections 6.1, 6.6 and 8.2).
use Rattle.std.specs.Prelude.{ℕ, ◌+◌, Bool, ◌&&◌, if◌then◌else◌, List, [], ◌∷◌, ◌++◌, codes, is_some}
use Rattle.std.specs.Str.Lines.{lines}
use Rattle.yaml_plain.specs.Bytes.{dash, begins, is_same, tail, leading_spaces, skip_spaces, at_gap}
use Rattle.yaml_read.specs.Keys.{key}
use Rattle.yaml_read.specs.OnLine.{is_blank}
use Rattle.yaml_plain.specs.declared.style.Style.TheVariants.{Block}

-- a line with its number from 1, and what stands there, with its column
pub record Row : Type 0 where
  pub number : ℕ
  pub column : ℕ
  pub text : List ℕ
  pub line : List ℕ

-- the mark of an entry of a sequence
abbrev pub is_dash : List ℕ → Bool
is_dash bs = begins dash bs && at_gap (tail bs)

abbrev pub row : ℕ → List ℕ → Row
row n line = record { number = n; column = leading_spaces line; text = skip_spaces line; line = line }

-- the dash of a row alone, and what follows it
abbrev pub lone_dash : Row → Row
lone_dash r = record { number = r.number; column = r.column; text = dash ∷ []; line = r.line }

abbrev pub behind_dash : Row → Row
behind_dash r = record {
  number = r.number;
  column = (r.column + 1) + leading_spaces (tail r.text);
  text = skip_spaces (tail r.text);
  line = r.line;
}

-- a map begins behind the dash
abbrev pub begins_compact : Row → Bool
begins_compact r = is_dash r.text && is_some (key Block (behind_dash r).text)

-- A line is one row. Where a map begins behind its dash, it is two: the dash, and the first pair at its own column.
abbrev pub rows_of_row : Row → List Row
rows_of_row r = if begins_compact r then lone_dash r ∷ behind_dash r ∷ [] else r ∷ []

unfoldable pub rows_of_line : ℕ → List ℕ → List Row
rows_of_line n line = if is_blank line then [] else rows_of_row (row n line)

abbrev pub rows_from : ℕ → List (List ℕ) → List Row
rows_from n [] = []
rows_from n (line ∷ more) = rows_of_line n line ++ rows_from (n + 1) more

-- a first row that is three dashes and nothing more begins the document
abbrev pub without_start : List Row → List Row
without_start [] = []
without_start (r ∷ rows) = if is_same r.line (codes "---") then rows else r ∷ rows

-- the rows of lines, and of a text
abbrev pub rows_of_lines : List (List ℕ) → List Row
rows_of_lines ls = without_start (rows_from 1 ls)

unfoldable pub rows_of : List ℕ → List Row
rows_of text = rows_of_lines (lines text)

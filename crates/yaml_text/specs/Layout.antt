-- The lines of a tree, and its text.
use Rattle.std.specs.Prelude.{ℕ, ◌+◌, Bool, true, false, if◌then◌else◌, List, [], ◌∷◌, ◌++◌, replicate, flat_map}
use Rattle.doc_tree.specs.Shape.{Shape, nothing, truth, whole, text, list, mapping, Shapes, no_shapes, more, Pairs, no_pairs, pair}
use Rattle.yaml_plain.specs.Bytes.{space, colon, dash}
use Rattle.yaml_text.specs.Scalars.{printed, on_line}

abbrev pub line_feed : ℕ
line_feed = 0x0A

abbrev pub spaces : ℕ → List ℕ
spaces n = replicate n space

abbrev pub has_items : Shapes → Bool
has_items no_shapes = false
has_items (more t ts) = true

abbrev pub has_pairs : Pairs → Bool
has_pairs no_pairs = false
has_pairs (pair k t ps) = true

-- its value stands on the lines below
abbrev pub stands_below : Shape → Bool
stands_below nothing = false
stands_below (truth b) = false
stands_below (whole z) = false
stands_below (text s) = false
stands_below (list ts) = has_items ts
stands_below (mapping ps) = has_pairs ps

-- what follows a key's colon or a dash, on its line
abbrev pub behind : Shape → List ℕ
behind t = if stands_below t then [] else space ∷ on_line t

abbrev mutual
  -- The lines of a map whose keys stand at this column, one for each pair, and behind it those of its value. The first line
  -- begins with this lead, the others with spaces.
  pub pairs_lines : List ℕ → ℕ → Pairs → List (List ℕ)
  pairs_lines lead column no_pairs = []
  pairs_lines lead column (pair k t ps) =
      (lead ++ (printed k ++ (colon ∷ behind t))) ∷ (below_key column t ++ pairs_lines (spaces column) column ps)

  -- the lines below a key at this column: those of a map two columns to the right, those of a list at the key's column
  pub below_key : ℕ → Shape → List (List ℕ)
  below_key column nothing = []
  below_key column (truth b) = []
  below_key column (whole z) = []
  below_key column (text s) = []
  below_key column (list ts) = items_lines column ts
  below_key column (mapping ps) = pairs_lines (spaces (column + 2)) (column + 2) ps

  -- the lines of a list whose dashes stand at this column
  pub items_lines : ℕ → Shapes → List (List ℕ)
  items_lines column no_shapes = []
  items_lines column (more t ts) = item_lines column t ++ items_lines column ts

  -- An item: a map begins on the line of its dash, and its further pairs stand two columns to the right of it; a list stands
  -- below a lone dash, two columns to the right; anything else follows its dash.
  pub item_lines : ℕ → Shape → List (List ℕ)
  item_lines column nothing = (spaces column ++ (dash ∷ behind nothing)) ∷ []
  item_lines column (truth b) = (spaces column ++ (dash ∷ behind (truth b))) ∷ []
  item_lines column (whole z) = (spaces column ++ (dash ∷ behind (whole z))) ∷ []
  item_lines column (text s) = (spaces column ++ (dash ∷ behind (text s))) ∷ []
  item_lines column (list ts) = (spaces column ++ (dash ∷ behind (list ts))) ∷ items_lines (column + 2) ts
  item_lines column (mapping ps) =
      if has_pairs ps then pairs_lines (spaces column ++ (dash ∷ space ∷ [])) (column + 2) ps
      else (spaces column ++ (dash ∷ behind (mapping ps))) ∷ []

-- the lines of a whole tree: a map's keys and a list's dashes stand at column 0, anything else is one line
abbrev pub yaml_lines : Shape → List (List ℕ)
yaml_lines nothing = on_line nothing ∷ []
yaml_lines (truth b) = on_line (truth b) ∷ []
yaml_lines (whole z) = on_line (whole z) ∷ []
yaml_lines (text s) = on_line (text s) ∷ []
yaml_lines (list ts) = if has_items ts then items_lines 0 ts else on_line (list ts) ∷ []
yaml_lines (mapping ps) = if has_pairs ps then pairs_lines [] 0 ps else on_line (mapping ps) ∷ []

abbrev pub ended : List ℕ → List ℕ
ended line = line ++ (line_feed ∷ [])

abbrev pub joined : List (List ℕ) → List ℕ
joined ls = flat_map ended ls

-- the text of a tree
unfoldable pub yaml_text_of : Shape → List ℕ
yaml_text_of t = joined (yaml_lines t)

-- a map that has a pair
abbrev pub is_filled_map : Shape → Bool
is_filled_map nothing = false
is_filled_map (truth b) = false
is_filled_map (whole z) = false
is_filled_map (text s) = false
is_filled_map (list ts) = false
is_filled_map (mapping ps) = has_pairs ps

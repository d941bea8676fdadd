-- What the parts of the writer append; its whole answer is in Layout.
use Rattle.std.specs.Prelude.{ℕ, ◌+◌, Bool, if◌then◌else◌, List, [], ◌∷◌, ◌++◌}
use Rattle.doc_tree.specs.Shape.{Shape, nothing, truth, whole, text, list, mapping, Pairs}
use Rattle.yaml_plain.specs.Bytes.{colon, space, dash}
use Rattle.yaml_text.specs.Scalars.{printed}
use Rattle.yaml_text.specs.Layout.{line_feed, spaces, behind, below_key, pairs_lines, items_lines, joined, has_pairs}

-- what follows a key's colon or a dash, and the end of the line
abbrev pub behind_text : Shape → List ℕ
behind_text t = behind t ++ (line_feed ∷ [])

-- a pair behind its lead, with the lines of its value
abbrev pub pair_text : ℕ → List ℕ → Shape → List ℕ
pair_text column k t = printed k ++ (colon ∷ (behind_text t ++ joined (below_key column t)))

-- the lead of a pair, where the first one's stands there already
abbrev pub lead_of : Bool → ℕ → List ℕ
lead_of first column = if first then [] else spaces column

-- pairs, the first behind its lead
abbrev pub pairs_text : ℕ → Pairs → List ℕ
pairs_text column ps = joined (pairs_lines [] column ps)

-- an item behind its spaces
abbrev pub item_text : ℕ → Shape → List ℕ
item_text column nothing = dash ∷ behind_text nothing
item_text column (truth b) = dash ∷ behind_text (truth b)
item_text column (whole z) = dash ∷ behind_text (whole z)
item_text column (text s) = dash ∷ behind_text (text s)
item_text column (list ts) = dash ∷ (behind_text (list ts) ++ joined (items_lines (column + 2) ts))
item_text column (mapping ps) =
    if has_pairs ps then dash ∷ space ∷ pairs_text (column + 2) ps else dash ∷ behind_text (mapping ps)

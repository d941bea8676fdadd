-- The items of lists, and the pairs of maps, as they are held.
use Rattle.std.specs.Prelude.{ℕ, suc, List, [], ◌∷◌, if◌then◌else◌, Option, Some, None, option_map}
use Rattle.std.specs.Str.{bytes_eq}
use Rattle.doc_tree.specs.Shape.{Shape, shape}
use Rattle.doc_tree.specs.declared.Tree.{Tree}
use Rattle.policy_model.specs.Keys.{Text}
use Rattle.policy_model.specs.Places.{filled}
use Rattle.policy_model.specs.Steps.{matches}
use Rattle.policy_model.specs.declared.Constant.{Constant}

-- the item if it matches
abbrev pub kept_of : Constant → List Text → Tree → List Shape
kept_of v path tree = if matches v path (shape tree) then shape tree ∷ [] else []

-- a pair with the places of its value replaced
abbrev pub filled_pair : (Text → Shape) → List ℕ × Tree → List ℕ × Shape
filled_pair value p = (p.0, filled value (shape p.1))

-- the place of the first pair of a key
abbrev pub place_of : Text → List (Text × Tree) → Option ℕ
place_of k [] = None
place_of k (p ∷ ps) = if bytes_eq p.0 k then Some 0 else option_map suc (place_of k ps)

-- What stands under a key of a map.
use Rattle.std.specs.Prelude.{ℕ, List, Option, Some, None, bytes_eq, if◌then◌else◌}
use Rattle.doc_tree.specs.Shape.{Shape, nothing, truth, whole, text, list, mapping, Pairs, no_pairs, pair}

-- the value of the first pair with this key
abbrev pub find : List ℕ → Pairs → Option Shape
find k no_pairs = None
find k (pair l s ps) = if bytes_eq l k then Some s else find k ps

-- what stands under the key; a tree that is no map has no keys
abbrev pub get : List ℕ → Shape → Option Shape
get k nothing = None
get k (truth b) = None
get k (whole z) = None
get k (text s) = None
get k (list ss) = None
get k (mapping ps) = find k ps

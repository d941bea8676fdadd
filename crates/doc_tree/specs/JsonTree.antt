-- What a JSON text (RFC 8259) gives: its tree, or the first of its faults. The value of a text is the one that
-- `serde_json` defines: of duplicate keys the last value stays, and an object's members come in the order of
-- their keys' bytes.
use Rattle.std.specs.Prelude.{◌≡◌, ℕ, suc, pos, List, [], ◌∷◌, Option, Some, None, option_map, Result, Ok, Err, if◌then◌else◌, length, nat_lt, nat_le}
use Rattle.std.specs.Str.{is_utf8}
use Rattle.serde_json.specs.Data.{Num, unsigned, negative, float, Data, null, boolean, number, string, array, object, Items, no_items, item, Members, no_members, member}
use Rattle.serde_json.specs.Read.{read}
use Rattle.base_model.specs.declared.path.PathStep.{PathStep}
use Rattle.base_model.specs.declared.path.PathStep.TheVariants.{Key, At}
use Rattle.doc_tree.specs.Shape.{Shape, nothing, truth, whole, text, list, mapping, Shapes, no_shapes, more, Pairs, no_pairs, pair, shape, levels}
use Rattle.doc_tree.specs.declared.tree.Tree.{Tree}
use Rattle.doc_tree.specs.declared.limits.TheConstants.{MAX_BYTES, MAX_LEVELS}
use Rattle.doc_tree.specs.declared.read.JsonFault.{JsonFault}
use Rattle.doc_tree.specs.declared.read.JsonFault.TheVariants.{NotJson, NotWhole, TooDeep, TooLarge, OutOfMemory}

-- ---- the tree of a value

-- a number that isn't whole has no tree; no tree is given of a value that holds one
abbrev pub number_shape : Num → Shape
number_shape (unsigned n) = whole (pos n)
number_shape (negative z) = whole z
number_shape (float x) = nothing

abbrev mutual
  pub shape_of : Data → Shape
  shape_of null = nothing
  shape_of (boolean b) = truth b
  shape_of (number n) = number_shape n
  shape_of (string s) = text s
  shape_of (array ds) = list (items_shape ds)
  shape_of (object ms) = mapping (members_shape ms)

  pub items_shape : Items → Shapes
  items_shape no_items = no_shapes
  items_shape (item d ds) = more (shape_of d) (items_shape ds)

  pub members_shape : Members → Pairs
  members_shape no_members = no_pairs
  members_shape (member k d ms) = pair k (shape_of d) (members_shape ms)

-- ---- the first number, in the order of the tree, that `serde_json` gives neither as u64 nor as i64

abbrev pub Steps : Type 0
Steps = List PathStep

abbrev pub unless_whole : Num → Option Steps
unless_whole (unsigned n) = None
unless_whole (negative z) = None
unless_whole (float x) = Some []

abbrev pub below : PathStep → Option Steps → Option Steps
below step found = option_map (λ steps. step ∷ steps) found

-- the first, and where there is none the second
abbrev pub or_next : Option Steps → Option Steps → Option Steps
or_next (Some steps) next = Some steps
or_next None next = next

abbrev mutual
  pub not_whole : Data → Option Steps
  not_whole null = None
  not_whole (boolean b) = None
  not_whole (number n) = unless_whole n
  not_whole (string s) = None
  not_whole (array ds) = items_not_whole 0 ds
  not_whole (object ms) = members_not_whole ms

  -- the items from position i on
  pub items_not_whole : ℕ → Items → Option Steps
  items_not_whole i no_items = None
  items_not_whole i (item d ds) = or_next (below (At i) (not_whole d)) (items_not_whole (suc i) ds)

  pub members_not_whole : Members → Option Steps
  members_not_whole no_members = None
  members_not_whole (member k d ms) = or_next (below (Key k) (not_whole d)) (members_not_whole ms)

-- ---- the tree of a text, or its fault: too large, invalid JSON, too deep, and then a number that isn't whole

-- the value that `serde_json` defines for the bytes; bytes that aren't UTF-8 have none
unfoldable pub json_of : List ℕ → Option Data
json_of bytes = if is_utf8 bytes then read bytes else None

abbrev pub unless_found : Option Steps → Shape → Result Shape JsonFault
unless_found None s = Ok s
unless_found (Some steps) s = Err (NotWhole (record { steps = steps }))

abbrev pub whole_tree : Data → Result Shape JsonFault
whole_tree d = unless_found (not_whole d) (shape_of d)

abbrev pub tree_of_value : Option Data → Result Shape JsonFault
tree_of_value None = Err NotJson
tree_of_value (Some d) = if nat_le (levels (shape_of d)) MAX_LEVELS then whole_tree d else Err TooDeep

unfoldable pub json_tree : List ℕ → Result Shape JsonFault
json_tree bytes = if nat_lt MAX_BYTES (length bytes) then Err TooLarge else tree_of_value (json_of bytes)

-- an answer is the defined one, or out of memory
abbrev pub Gives : Result Shape JsonFault → Result Tree JsonFault → Type 0
Gives defined (Ok tree) = defined ≡ Ok (shape tree)
Gives defined (Err OutOfMemory) = Unit {0}
Gives defined (Err fault) = defined ≡ Err fault

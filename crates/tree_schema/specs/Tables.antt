-- Maps that are read by a table of their keys.
--
-- The pairs are looked at in the tree's order, each value wholly before the next; a pair whose value is null counts as
-- left out. Needed keys, and checks between keys, are looked at after all pairs.
use Prim.Native.String.{String}
use Rattle.std.specs.Prelude.{ℕ, Bool, true, false, List, [], ◌∷◌, Option, Some, None, if◌then◌else◌, codes}
use Rattle.std.specs.List.{list_any}
use Rattle.std.specs.Str.{bytes_eq}
use Rattle.base_model.specs.declared.PathStep.TheVariants.{Key}
use Rattle.doc_tree.specs.Shape.{Shape, nothing, mapping, Pairs, no_pairs, pair}
use Rattle.tree_schema.specs.declared.fault.Reason.{Reason}
use Rattle.tree_schema.specs.declared.fault.Reason.TheVariants.{UnknownKey, WrongType, Missing, Unsupported}
use Rattle.tree_schema.specs.Reading.{Reading, given, given_over, refuse, at_once, below, with_value, and_then}
use Rattle.tree_schema.specs.Values.{Looked, is_null}

-- a key, and what its value does to the entry that is read
pub record Row (E : Type 0) : Type 0 where
  pub key : List ℕ
  pub read : Shape → E → Reading E

-- the keys of a map, those that are read over with a note, and what becomes of any other
pub record Table (E : Type 0) : Type 0 where
  pub keys : List (Row E)
  pub over : List (List ℕ)
  pub others : E → Reading E

-- ---- rows

-- the value is looked at and put into the entry
abbrev pub value : {E X : Type 0} → String → (Shape → Looked X) → (E → X → E) → Row E
value key look put = record { key = codes key; read = λ s e. with_value (put e) (at_once (look s)) }

-- the value is a map or a list of its own
abbrev pub part : {E X : Type 0} → String → (Shape → Reading X) → (E → X → E) → Row E
part key read put = record { key = codes key; read = λ s e. with_value (put e) (read s) }

-- the value adds to the entry itself
abbrev pub more_of : {E : Type 0} → String → (Shape → E → Reading E) → Row E
more_of key read = record { key = codes key; read = read }

-- the value isn't looked at, without a note
abbrev pub passed_by : {E : Type 0} → String → Row E
passed_by key = record { key = codes key; read = λ s e. given e }

-- the key is not supported
abbrev pub unsupported : {E : Type 0} → String → Row E
unsupported key = record { key = codes key; read = λ s e. refuse Unsupported }

-- ---- other keys

-- any other key is unknown
abbrev pub unknown : {E : Type 0} → E → Reading E
unknown e = refuse UnknownKey

-- any other key is read over with a note
abbrev pub noted : {E : Type 0} → E → Reading E
noted e = given_over e

-- ---- a map by its table

-- the value of a key by its row, or what becomes of a key without one
abbrev pub read_row : {E : Type 0} → List (Row E) → Reading E → List ℕ → Shape → E → Reading E
read_row [] other k s e = other
read_row (row ∷ rows) other k s e = if bytes_eq k row.key then row.read s e else read_row rows other k s e

-- the key is one of these
abbrev pub is_listed : List (List ℕ) → List ℕ → Bool
is_listed names k = list_any (λ n. bytes_eq k n) names

-- a key without a row
abbrev pub read_other : {E : Type 0} → Table E → List ℕ → E → Reading E
read_other t k e = if is_listed t.over k then given_over e else t.others e

-- the value of a key, which isn't null
abbrev pub read_key : {E : Type 0} → Table E → List ℕ → Shape → E → Reading E
read_key t k s e = read_row t.keys (read_other t k e) k s e

-- a pair whose value is null counts as left out, whatever its key
abbrev pub read_pair : {E : Type 0} → Table E → List ℕ → Shape → E → Reading E
read_pair t k s e = if is_null s then given e else below (Key k) (read_key t k s e)

-- the pairs one after another, each with the entry that those before it left
abbrev pub read_pairs : {E : Type 0} → Table E → E → Pairs → Reading E
read_pairs t e no_pairs = given e
read_pairs t e (pair k s ps) = and_then (read_pair t k s e) (λ f. read_pairs t f ps)

-- the entry, which is this one before the first pair
abbrev pub read_map : {E : Type 0} → Table E → E → Shape → Reading E
read_map t e (mapping ps) = read_pairs t e ps
read_map t e _ = refuse WrongType

-- ---- after all pairs

-- what stands under a key that is needed; a missing one has the path that it would have
abbrev pub needed_at : {X : Type 0} → List ℕ → Option X → Reading X
needed_at k (Some x) = given x
needed_at k None = below (Key k) (refuse Missing)

abbrev pub needed : {X : Type 0} → String → Option X → Reading X
needed key x = needed_at (codes key) x

-- an entry of which the test holds; else the value of this key is refused
abbrev pub holds_at : {E : Type 0} → List ℕ → Reason → Bool → E → Reading E
holds_at k reason true e = given e
holds_at k reason false e = below (Key k) (refuse reason)

abbrev pub holds_or : {E : Type 0} → String → Reason → Bool → E → Reading E
holds_or key reason test e = holds_at (codes key) reason test e

-- ---- a single key

-- what stands under the key; null where nothing does
abbrev pub value_in : List ℕ → Pairs → Shape
value_in k no_pairs = nothing
value_in k (pair l s ps) = if bytes_eq l k then s else value_in k ps

abbrev pub value_at : List ℕ → Shape → Shape
value_at k (mapping ps) = value_in k ps
value_at k _ = nothing

abbrev pub value_under : String → Shape → Shape
value_under key s = value_at (codes key) s

-- what stands under the key is read, where anything does
abbrev pub read_at : {X : Type 0} → List ℕ → (Shape → Reading X) → X → Shape → Reading X
read_at k read none s = if is_null s then given none else below (Key k) (read s)

abbrev pub read_under : {X : Type 0} → String → (Shape → Reading X) → X → Shape → Reading X
read_under key read none s = read_at (codes key) read none (value_under key s)

-- a null top is an empty map
abbrev pub top_of : Shape → Shape
top_of s = if is_null s then mapping no_pairs else s

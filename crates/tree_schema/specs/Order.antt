-- Maps that hold the same, whatever the order of their pairs.
use Rattle.std.specs.Prelude.{◌≡◌, ℕ, Bool, true, ◌&&◌, List, Option, Some, None, Ok, Err}
use Rattle.doc_tree.specs.Shape.{Pairs, no_pairs, pair, lacks}
use Rattle.tree_schema.specs.Reading.{Reading}
use Rattle.tree_schema.specs.Tables.{Table, value_in, read_pairs}

-- what a reading gives, but for its notes and for why it is refused
abbrev pub value_of : {X : Type 0} → Reading X → Option X
value_of (Ok (x, notes)) = Some x
value_of (Err refusal) = None

-- no key comes twice
abbrev pub keys_differ : Pairs → Bool
keys_differ no_pairs = true
keys_differ (pair k s ps) = lacks k ps && keys_differ ps

-- the same value under each key; a key that isn't there has the value null
abbrev pub SameValues : Pairs → Pairs → Type 0
SameValues ps qs = (k : List ℕ) → value_in k ps ≡ value_in k qs

-- two maps with the same values are read as the same entry, or are both refused
abbrev pub IsReadInAnyOrder : {E : Type 0} → Table E → Type 0
IsReadInAnyOrder {E = E} t = (e : E) (ps qs : Pairs) → keys_differ ps ≡ true → keys_differ qs ≡ true → SameValues ps qs → value_of (read_pairs t e ps) ≡ value_of (read_pairs t e qs)

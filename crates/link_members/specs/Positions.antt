-- Where a link stands among those of the merged state.
use Rattle.std.specs.Prelude.{◌≡◌, ◌<◌, ℕ, List, length, Option, Some, None, slice_index_or}
use Rattle.merge_model.specs.Members.{Member, find_member}

-- the place of the first link of this name, or none
abbrev pub FindsAt : Option ℕ → List ℕ → List Member → Type 0
FindsAt (Some i) name ms = (i < length ms) × ((d : Member) → find_member name ms ≡ Some (slice_index_or ms i d))
FindsAt None name ms = find_member name ms ≡ None

-- A set of the keys of a map.
use Rattle.std.specs.Prelude.{◌≡◌, ℕ, List}
use Rattle.std.specs.Ordering.{nat_cmp}
use Rattle.std.specs.Cmp.Lexicographic.{slice_cmp}
use Rattle.std.specs.BTreeSet.{BTreeSet, contains}
use Rattle.yaml_read.specs.Keys.{is_among}

-- the set has these keys and no others
abbrev pub HasKeys : BTreeSet (List ℕ) → List (List ℕ) → Type 0
HasKeys names keys = (q : List ℕ) → contains (slice_cmp nat_cmp) names q ≡ is_among q keys

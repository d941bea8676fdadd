-- An index of names.
use Rattle.std.specs.Prelude.{◌≡◌, ℕ, List, position}
use Rattle.std.specs.BTreeMap.{BTreeMap, get}
use Rattle.net_model.specs.Name.{same_bytes}
use Rattle.net_model.specs.Order.{name_cmp}

-- the map has the first place of each name
abbrev pub HasPlaces : List (List ℕ) → BTreeMap (List ℕ) ℕ → Type 0
HasPlaces names places = (q : List ℕ) → get name_cmp places q ≡ position (λ n. same_bytes n q) names

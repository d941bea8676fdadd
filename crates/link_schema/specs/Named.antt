-- Links, found by their names.
use Rattle.std.specs.Prelude.{◌≡◌, ℕ, List}
use Rattle.std.specs.List.{list_any}
use Rattle.std.specs.BTreeSet.{BTreeSet, contains}
use Rattle.net_model.specs.Links.{is_named}
use Rattle.net_model.specs.Order.{name_cmp}
use Rattle.net_model.specs.declared.link.Link.{Link}

-- the set has the names of the links
abbrev pub HasNames : BTreeSet (List ℕ) → List Link → Type 0
HasNames names links = (q : List ℕ) → contains name_cmp names q ≡ list_any (is_named q) links

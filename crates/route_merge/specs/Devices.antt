-- An index of links by name.
use Rattle.std.specs.Prelude.{◌≡◌, ℕ, true, List, slice_get}
use Rattle.std.specs.Option.{option_and_then}
use Rattle.std.specs.BTreeMap.{BTreeMap, get}
use Rattle.net_model.specs.Order.{name_cmp}
use Rattle.net_model.specs.Links.{find_link}
use Rattle.net_model.specs.Valid.{names_differ}
use Rattle.net_model.specs.declared.Link.{Link}

-- the map has the position of each link under its name, and names differ
pub record IsByName (links : List Link) (places : BTreeMap (List ℕ) ℕ) : Type 0 where
  pub found : (n : List ℕ) → option_and_then (λ i. slice_get links i) (get name_cmp places n) ≡ find_link n links
  pub differ : names_differ links ≡ true

-- What the indexes of a network say of its lists.
use Rattle.std.specs.Prelude.{◌≡◌, ℕ, List}
use Rattle.net_model.specs.Links.{ports_of}
use Rattle.net_model.specs.Valid.{address_count}
use Rattle.net_model.specs.Twins.{HasVlans}
use Rattle.net_model.specs.OfName.{over, routes_of}
use Rattle.net_model.specs.declared.link.Link.{Link}
use Rattle.net_model.specs.declared.route.Route.{Route}
use Rattle.net_index.specs.InIndex.{listed}
use Rattle.net_index.specs.declared.indexes.Indexes.{Indexes}

-- the indexes list for each name exactly these, and have the keys of the VLANs
pub record AreIndexes (links : List Link) (routes : List Route) (indexes : Indexes) : Type 0 where
  pub over : (base : List ℕ) → listed indexes.over base ≡ over links base
  pub ports : (controller : List ℕ) → listed indexes.ports controller ≡ ports_of links controller
  pub by_dev : (dev : List ℕ) → listed indexes.routes dev ≡ routes_of routes dev
  pub vlans : HasVlans indexes.vlans links

-- the indexes are those of the lists, and the links have so many addresses together
pub record IsIndexed (links : List Link) (routes : List Route) (indexes : Indexes) (addresses : ℕ) : Type 0 where
  pub lists : AreIndexes links routes indexes
  pub count : addresses ≡ address_count links

-- The links that a link depends on, by their places.
use Rattle.std.specs.Prelude.{ℕ, Bool, List, ◌++◌}
use Rattle.reach.specs.Positions.{positions}
use Rattle.net_model.specs.Links.{is_port_of}
use Rattle.net_model.specs.Dependence.{has_base}
use Rattle.net_model.specs.declared.Link.{Link}

-- the place of a VLAN's base
abbrev pub base_row : List Link → Link → List ℕ
base_row links l = positions (λ b. has_base l.kind b.name) 0 links

-- the link is a port of the other
abbrev pub controls : Link → Link → Bool
controls l port = is_port_of l.name port

-- the places of its base and of its ports
abbrev pub row_below : List Link → Link → List ℕ
row_below links l = base_row links l ++ positions (controls l) 0 links

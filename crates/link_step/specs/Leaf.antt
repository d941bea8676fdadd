-- Links that depend on none.
use Rattle.std.specs.Prelude.{Bool, true, false}
use Rattle.net_model.specs.declared.Kind.{Kind}
use Rattle.net_model.specs.declared.Kind.TheVariants.{Ethernet, Dummy, Veth}

-- a link of this kind has neither a base nor ports
abbrev pub is_leaf : Kind → Bool
is_leaf (Ethernet permanent) = true
is_leaf Dummy = true
is_leaf (Veth peer) = true
is_leaf _ = false

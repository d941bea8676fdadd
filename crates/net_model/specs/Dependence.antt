-- Which link depends on which.
use Rattle.std.specs.Prelude.{ℕ, Bool, true, false, not, ◌||◌, List, [], ◌∷◌, length, zero, suc}
use Rattle.std.specs.List.{list_all}
use Rattle.std.specs.Option.{option_map_or}
use Rattle.reach.specs.Reach.{is_reached}
use Rattle.net_model.specs.Name.{same_bytes}
use Rattle.net_model.specs.Links.{is_named, find_link, is_port_of}
use Rattle.net_model.specs.declared.link.Link.{Link}
use Rattle.net_model.specs.declared.link.Kind.{Kind}
use Rattle.net_model.specs.declared.link.Kind.TheVariants.{Vlan}

-- the kind is a VLAN over the named link
abbrev pub has_base : Kind → List ℕ → Bool
has_base (Vlan base id proto) name = same_bytes base name
has_base _ name = false

-- a VLAN depends on its base, and a controller on each of its ports
abbrev pub depends_on : Link → Link → Bool
depends_on a b = has_base a.kind b.name || is_port_of a.name b

-- the link is reached from that of this name within so many steps of dependence
abbrev pub reaches : List Link → ℕ → List ℕ → Link → Bool
reaches links steps name l = is_reached depends_on (is_named name) links steps l

-- the link reaches itself within as many steps as there are links
abbrev pub on_cycle : List Link → Link → Bool
on_cycle links l = reaches links (length links) l.name l

abbrev pub no_cycle : List Link → Bool
no_cycle links = list_all (λ l. not (on_cycle links l)) links

-- the base of a VLAN, that one's base, and so on, for at most so many steps
abbrev pub base_chain : List Link → ℕ → Kind → List Link
base_chain links zero kind = []
base_chain links (suc steps) (Vlan base id proto) = option_map_or (λ b. b ∷ base_chain links steps b.kind) (find_link base links) []
base_chain links (suc steps) _ = []

-- the chain of bases comes within so many steps to a link that is no VLAN
abbrev pub ends : List Link → ℕ → Kind → Bool
ends links zero (Vlan base id proto) = false
ends links zero _ = true
ends links (suc steps) (Vlan base id proto) = option_map_or (λ b. ends links steps b.kind) (find_link base links) false
ends links (suc steps) _ = true

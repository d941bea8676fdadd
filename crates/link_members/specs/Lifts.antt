-- The places of the links that a link lifts.
use Rattle.std.specs.Prelude.{ℕ, false, List, [], ◌∷◌, map, Option, Some, None, if◌then◌else◌, position, slice_get}
use Rattle.std.specs.List.{filter_map}
use Rattle.std.specs.Option.{option_map_or, option_and_then}
use Rattle.net_model.specs.Name.{same_bytes}
use Rattle.merge_model.specs.Kinds.{base_of}
use Rattle.merge_model.specs.Members.{Member}
use Rattle.merge_model.specs.Lifted.{is_unstated}
use Rattle.link_members.specs.Listers.{port_names}

-- a VLAN's base, another link's ports by its stated list
abbrev pub held_names : Member → List (List ℕ)
held_names m = option_map_or (λ base. base ∷ []) (base_of m.kind) (port_names m)

-- the place, where nothing is stated of the state of the link there
abbrev pub if_unstated : List Member → ℕ → Option ℕ
if_unstated ms at = if option_map_or is_unstated (slice_get ms at) false then Some at else None

-- the place of the first link of this name, where nothing is stated of its state
abbrev pub unstated_place : List Member → List ℕ → Option ℕ
unstated_place ms q = option_and_then (if_unstated ms) (position (λ n. same_bytes n q) (map (λ (m : Member). m.name) ms))

-- the places of the links of these names of whose state nothing is stated
abbrev pub unstated_places : List Member → List (List ℕ) → List ℕ
unstated_places ms names = filter_map (unstated_place ms) names

-- The links that come up because another link needs them. Lifting is this project's own. A link is unstated where it is in
-- the running network and no entry states its state.
use Rattle.std.specs.Prelude.{Bool, false, ◌&&◌, ◌||◌, List, length, map, is_none}
use Rattle.std.specs.Option.{option_map_or}
use Rattle.reach.specs.Reach.{is_reached}
use Rattle.net_model.specs.Dependence.{has_base}
use Rattle.net_model.specs.declared.Link.{Link}
use Rattle.document_model.specs.declared.LinkEntry.{LinkEntry}
use Rattle.merge_model.specs.Stated.{is_stated_up}
use Rattle.merge_model.specs.Kinds.{base_of}
use Rattle.merge_model.specs.Members.{Member, members_by_rank}
use Rattle.merge_model.specs.Controllers.{lists, with_controllers}

abbrev pub is_unstated : Member → Bool
is_unstated m = is_none m.wish

abbrev pub was_up : Member → Bool
was_up m = option_map_or (λ l. l.up) m.old false

-- a link lifts its base and the ports of its stated list, where they are unstated
abbrev pub lifts : Member → Member → Bool
lifts c m = is_unstated m && (has_base c.kind m.name || lists c m.name)

-- up without being lifted: stated up, or unstated, up before and no VLAN. (A VLAN that stays up over its base lifts
-- nothing: its base is up, and it has no port list.)
abbrev pub starts : Member → Bool
starts c = is_stated_up c.wish || (is_unstated c && was_up c && is_none (base_of c.kind))

-- the least set that contains each link that such a link or a member of the set lifts
abbrev pub is_lifted : List Member → Member → Bool
is_lifted ms m = is_reached lifts starts ms (length ms) m

abbrev pub raised : List Member → Member → Member
raised ms m = record m { lifted = is_lifted ms m }

abbrev pub with_lifted : List Member → List Member
with_lifted ms = map (raised ms) ms

-- the links of the merged network by rank, each with its controller and with whether it is lifted
abbrev pub members : List Link → List LinkEntry → List Member
members links entries = with_lifted (with_controllers (members_by_rank links entries))

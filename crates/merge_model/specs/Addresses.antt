-- The addresses of the merged links.
use Rattle.std.specs.Prelude.{Bool, true, false, ◌||◌, List, [], ◌++◌, filter, Option, Some, None, if◌then◌else◌}
use Rattle.std.specs.Option.{option_map_or, option_and_then, unwrap_or}
use Rattle.net_model.specs.Address.{Block}
use Rattle.net_model.specs.Words.{bool_eq, sorted}
use Rattle.net_model.specs.Order.{block_cmp}
use Rattle.net_model.specs.Links.{is_bond_or_bridge}
use Rattle.document_model.specs.declared.IpEntry.{IpEntry}
use Rattle.merge_model.specs.Stated.{is_absent, is_stated_down, is_off}
use Rattle.merge_model.specs.Members.{Member}
use Rattle.merge_model.specs.LinkOptions.{controller_member}

-- the link is a port of a bond or a bridge
abbrev pub is_bound : List Member → Member → Bool
is_bound ms m = option_map_or (λ c. is_bond_or_bridge c.kind) (controller_member ms m) false

-- the addresses of the family where none are stated: none for such a port or a link that is stated down, else the
-- current ones
abbrev pub own_addrs : List Member → Member → Bool → List Block
own_addrs ms m v6 = if is_bound ms m || is_stated_down m.wish then [] else option_map_or (λ l. filter (λ a. bool_eq a.addr.v6 v6) l.addrs) m.old []

-- none where the family is stated off, else the stated ones, else these
abbrev pub addrs_over : List Block → Option IpEntry → List Block
addrs_over own None = own
addrs_over own (Some ip) = if is_off ip then [] else unwrap_or ip.addrs own

abbrev pub v4_of : List Member → Member → List Block
v4_of ms m = addrs_over (own_addrs ms m false) (option_and_then (λ e. e.v4) m.entry)

abbrev pub v6_of : List Member → Member → List Block
v6_of ms m = addrs_over (own_addrs ms m true) (option_and_then (λ e. e.v6) m.entry)

-- in order; IPv6 only on a link that is up, and none at all on an Ethernet link that is stated absent
abbrev pub addrs_of : List Member → Member → Bool → List Block
addrs_of ms m up = if is_absent m.wish then [] else sorted block_cmp (v4_of ms m ++ (if up then v6_of ms m else []))

-- Which gateways are on-link.
use Rattle.std.specs.Prelude.{Bool, ◌&&◌, ◌||◌, ◌==◌, ◌/◌, ◌^◌, List}
use Rattle.std.specs.List.{list_any}
use Rattle.net_model.specs.Words.{bool_eq}
use Rattle.net_model.specs.Address.{Address, Block, block_size}

-- in fe80::/10 (RFC 4291, section 2.5.6)
abbrev pub is_link_local : Address → Bool
is_link_local a = a.v6 && (a.bits / 2 ^ 118 == 0x3fa)

-- the subnet of the block holds the address: the family is one, and so are the leading bits
abbrev pub holds : Block → Address → Bool
holds b a = bool_eq b.addr.v6 a.v6 && (b.addr.bits / block_size b == a.bits / block_size b)

-- a gateway to a destination of this family is on-link where these addresses stand
abbrev pub is_on_link : List Block → Bool → Address → Bool
is_on_link addrs v6 gateway = bool_eq gateway.v6 v6 && (is_link_local gateway || list_any (λ b. holds b gateway) addrs)

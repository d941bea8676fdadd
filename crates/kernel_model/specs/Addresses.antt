-- Calls that add an address to a link and take one away.
use Rattle.std.specs.Prelude.{ℕ, Bool, not, ◌&&◌, ◌||◌, nat_le, List, [], ◌∷◌, filter}
use Rattle.std.specs.List.{list_any}
use Rattle.net_model.specs.Address.{Block}
use Rattle.net_model.specs.Words.{put}
use Rattle.net_model.specs.Order.{block_cmp}
use Rattle.net_model.specs.Links.{named_passes}
use Rattle.net_model.specs.Valid.{is_bond_or_bridge_port, same_address, same_block, address_count}
use Rattle.net_model.specs.Lists.{NetData}
use Rattle.net_model.specs.declared.limits.TheConstants.{MAX_LINK_ADDRESSES, MAX_ADDRESSES}
use Rattle.net_model.specs.declared.Link.{Link}
use Rattle.kernel_model.specs.Words.{has_link, is_full}
use Rattle.net_model.specs.Edits.{edit_link, stays_on_link}
use Rattle.kernel_model.specs.declared.refusal.TheConstants.{NO_LINK, PORT_ADDRESS, ADDRESS_EXISTS, LINK_DOWN, LIMIT, NO_ADDRESS}

-- the address stands among these, with any length
abbrev pub has_address : Block → List Block → Bool
has_address block addrs = list_any (λ b. same_address block.addr b.addr) addrs

-- and with that length
abbrev pub has_block : Block → List Block → Bool
has_block block addrs = list_any (same_block block) addrs

-- the named link isn't there; it is a port of a bond or a bridge; it has the address, with any length; the
-- address is IPv6 and the link is down; the link, or all together, have as many addresses as there may be
abbrev pub add_address_refusals : List ℕ → Block → NetData → List (ℕ × Bool)
add_address_refusals name block net =
    (NO_LINK, not (has_link name net.links)) ∷ (PORT_ADDRESS, named_passes (is_bond_or_bridge_port net.links) net.links name)
    ∷ (ADDRESS_EXISTS, named_passes (λ l. has_address block l.addrs) net.links name)
    ∷ (LINK_DOWN, block.addr.v6 && named_passes (λ l. not l.up) net.links name)
    ∷ (LIMIT, named_passes (λ l. is_full MAX_LINK_ADDRESSES l.addrs) net.links name || nat_le MAX_ADDRESSES (address_count net.links)) ∷ []

abbrev pub with_address : Block → Link → Link
with_address block l = record l { addrs = put block_cmp block l.addrs }

abbrev pub after_add_address : List ℕ → Block → NetData → NetData
after_add_address name block net = record net { links = edit_link name (with_address block) net.links }

-- the named link isn't there; it hasn't the address with that length
abbrev pub del_address_refusals : List ℕ → Block → NetData → List (ℕ × Bool)
del_address_refusals name block net = (NO_LINK, not (has_link name net.links)) ∷ (NO_ADDRESS, not (named_passes (λ l. has_block block l.addrs) net.links name)) ∷ []

abbrev pub without_address : Block → Link → Link
without_address block l = record l { addrs = filter (λ b. not (same_block block b)) l.addrs }

-- the address goes, and of the link's routes those whose gateway isn't on-link any more
abbrev pub after_del_address : List ℕ → Block → NetData → NetData
after_del_address name block net =
    let left : List Link = edit_link name (without_address block) net.links in
    record net { links = left; routes = filter (stays_on_link name left) net.routes }

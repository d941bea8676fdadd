-- A network: valid, with its lists in order.
use Rattle.std.specs.Prelude.{◌≡◌, Bool, true, ◌&&◌, map, Some, None, is_none, Result, Ok, Err, IsPermutation, IsSorted}
use Rattle.std.specs.List.{list_all}
use Rattle.net_model.specs.Words.{rises, sorted}
use Rattle.net_model.specs.Order.{block_cmp, link_cmp, route_cmp, rule_cmp}
pub use Rattle.net_model.specs.Lists.{NetData, net_of, no_dns}
use Rattle.net_model.specs.Valid.{least_broken}
use Rattle.net_model.specs.declared.link.Link.{Link}
use Rattle.net_model.specs.declared.fault.NetFault.{NetFault}
use Rattle.net_model.specs.declared.fault.NetFault.TheVariants.{Broken, OutOfMemory}

-- links by name, each link's addresses, routes by key and rules by all fields; the lists of DNS stay as given
pub record IsInOrder (net : NetData) : Type 0 where
  pub links : rises link_cmp net.links ≡ true
  pub addrs : list_all (λ l. rises block_cmp l.addrs) net.links ≡ true
  pub routes : rises route_cmp net.routes ≡ true
  pub rules : rises rule_cmp net.rules ≡ true

abbrev pub is_in_order : NetData → Bool
is_in_order net = rises link_cmp net.links && list_all (λ l. rises block_cmp l.addrs) net.links && rises route_cmp net.routes && rises rule_cmp net.rules

-- valid, with its lists in order
abbrev pub is_net : NetData → Bool
is_net net = is_none (least_broken net) && is_in_order net

pub record IsNet (net : NetData) : Type 0 where
  pub valid : least_broken net ≡ None
  pub in_order : IsInOrder net

-- the link with its addresses in order
abbrev pub arranged : Link → Link
arranged l = record l { addrs = sorted block_cmp l.addrs }

-- the lists in order
abbrev pub ordered : NetData → NetData
ordered net = record { links = sorted link_cmp (map arranged net.links); routes = sorted route_cmp net.routes; rules = sorted rule_cmp net.rules; dns = net.dns }

-- the same lists in another order, also of the addresses
pub record IsRearranged (a b : NetData) : Type 0 where
  pub links : IsPermutation (map arranged a.links) (map arranged b.links)
  pub routes : IsPermutation a.routes b.routes
  pub rules : IsPermutation a.rules b.rules
  pub dns : a.dns ≡ b.dns

-- the network of what was given, in order, or the least part that this breaks
abbrev pub Makes : Result NetData NetFault → NetData → Type 0
Makes (Ok net) given = (least_broken given ≡ None) × (net ≡ ordered given)
Makes (Err (Broken part)) given = least_broken given ≡ Some part
Makes (Err OutOfMemory) given = Unit {0}

pub record AreSorted (net : NetData) : Type 0 where
  pub links : IsSorted link_cmp net.links
  pub routes : IsSorted route_cmp net.routes
  pub rules : IsSorted rule_cmp net.rules

-- the same members, sorted
pub record IsSorting (given net : NetData) : Type 0 where
  pub links : IsPermutation (map arranged given.links) net.links
  pub routes : IsPermutation given.routes net.routes
  pub rules : IsPermutation given.rules net.rules
  pub dns : net.dns ≡ given.dns
  pub sorted : AreSorted net

-- The ranges that the types of a network's parts give its values, for all parts of one network.
use Rattle.std.specs.Prelude.{◌≡◌, ℕ, ◌<◌, ◌≤◌, ◌^◌, IsTrue, All, List, length, IfSome, ⊤}
use Rattle.net_model.specs.Address.{Block, IsAddress, IsPrefix, IsSubnet}
use Rattle.net_model.specs.Domain.{is_domain}
use Rattle.net_model.specs.Name.{is_name}
use Rattle.net_model.specs.NetData.{NetData}
use Rattle.net_model.specs.Rule.{RuleParts, IsOfFamily}
use Rattle.net_model.specs.declared.call.Call.{Call}
use Rattle.net_model.specs.declared.call.Call.TheVariants.{AddLink, DelLink, Up, Down, SetMtu, SetMac, SetBond, SetBridge, Attach, Detach, SetPort, AddAddress, DelAddress, AddRoute, DelRoute, AddRule, DelRule, SetDns}
use Rattle.net_model.specs.declared.dns.Dns.{Dns}
use Rattle.net_model.specs.declared.limits.TheConstants.{MAX_NAME_LEN, MAX_DOMAIN_LEN, MAX_VLAN_ID}
use Rattle.net_model.specs.declared.link.Kind.{Kind}
use Rattle.net_model.specs.declared.link.Kind.TheVariants.{Ethernet, Bond, Bridge, Vlan, Vrf, Dummy, Veth}
use Rattle.net_model.specs.declared.link.Link.{Link}
use Rattle.net_model.specs.declared.mac.Mac.{Mac}
use Rattle.net_model.specs.declared.options.BondOpts.{BondOpts}
use Rattle.net_model.specs.declared.options.BridgeOpts.{BridgeOpts}
use Rattle.net_model.specs.declared.options.PortOpts.{PortOpts}
use Rattle.net_model.specs.declared.route.Route.{Route}
use Rattle.net_model.specs.declared.rule.Target.{Target}
use Rattle.net_model.specs.declared.rule.Target.TheVariants.{Table, Blackhole, Unreachable, Prohibit}

-- unsigned integers of 8, 16 and 32 bits
abbrev pub IsU8 : ℕ → Type 0
IsU8 n = n < 2 ^ 8

abbrev pub IsU16 : ℕ → Type 0
IsU16 n = n < 2 ^ 16

abbrev pub IsU32 : ℕ → Type 0
IsU32 n = n < 2 ^ 32

-- 1 to 15 bytes that may name a link
pub record NameRanges (name : List ℕ) : Type 0 where
  pub named : IsTrue (is_name name)
  pub least : 1 ≤ length name
  pub most : length name ≤ MAX_NAME_LEN
  pub bytes : All IsU8 name

-- 1 to 253 bytes that are a search domain
pub record DomainRanges (name : List ℕ) : Type 0 where
  pub domain : IsTrue (is_domain name)
  pub least : 1 ≤ length name
  pub most : length name ≤ MAX_DOMAIN_LEN
  pub bytes : All IsU8 name

-- six bytes
pub record MacRanges (mac : Mac) : Type 0 where
  pub whole : length mac.bytes ≡ 6
  pub bytes : All IsU8 mac.bytes

pub record TableRanges (table : ℕ) : Type 0 where
  pub least : 1 ≤ table
  pub most : IsU32 table

pub record PrefixRanges (b : Block) : Type 0 where
  pub addr : IsAddress b.addr
  pub len : IsPrefix b

-- the same, and that the host bits are 0
pub record SubnetRanges (b : Block) : Type 0 where
  pub addr : IsAddress b.addr
  pub subnet : IsSubnet b

-- ---- links

pub record VlanRanges (name : List ℕ) (n : ℕ) : Type 0 where
  pub base : NameRanges name
  pub id : n ≤ MAX_VLAN_ID

-- what the kind holds
abbrev pub KindRanges : Kind → Type 0
KindRanges (Ethernet permanent) = MacRanges permanent
KindRanges (Bond mode) = ⊤
KindRanges Bridge = ⊤
KindRanges (Vlan base id proto) = VlanRanges base id
KindRanges (Vrf table) = TableRanges table
KindRanges Dummy = ⊤
KindRanges (Veth peer) = NameRanges peer

pub record BondRanges (o : BondOpts) : Type 0 where
  pub primary : IfSome o.primary NameRanges
  pub miimon : IsU32 o.miimon
  pub updelay : IsU32 o.updelay
  pub downdelay : IsU32 o.downdelay

pub record BridgeRanges (o : BridgeOpts) : Type 0 where
  pub priority : IsU16 o.priority
  pub forward_delay : IsU8 o.forward_delay
  pub hello_time : IsU8 o.hello_time
  pub max_age : IsU8 o.max_age
  pub mac_ageing : IsU32 o.mac_ageing

pub record PortRanges (o : PortOpts) : Type 0 where
  pub cost : IsU16 o.cost
  pub priority : IsU8 o.priority

pub record LinkRanges (l : Link) : Type 0 where
  pub name : NameRanges l.name
  pub kind : KindRanges l.kind
  pub mtu : IsU32 l.mtu
  pub mac : MacRanges l.mac
  pub controller : IfSome l.controller NameRanges
  pub bond : BondRanges l.bond
  pub bridge : BridgeRanges l.bridge
  pub port : PortRanges l.port
  pub addrs : All PrefixRanges l.addrs

-- ---- routes and rules

pub record RouteRanges (r : Route) : Type 0 where
  pub dest : SubnetRanges r.dest
  pub table : TableRanges r.table
  pub metric : IsU32 r.metric
  pub gateway : IfSome r.gateway IsAddress
  pub dev : NameRanges r.dev

abbrev pub TargetRanges : Target → Type 0
TargetRanges (Table table) = TableRanges table
TargetRanges Blackhole = ⊤
TargetRanges Unreachable = ⊤
TargetRanges Prohibit = ⊤

pub record RuleRanges (r : RuleParts) : Type 0 where
  pub priority : IsU32 r.priority
  pub src : IfSome r.src SubnetRanges
  pub dst : IfSome r.dst SubnetRanges
  pub family : IsOfFamily r.v6 r.src r.dst
  pub iif : IfSome r.iif NameRanges
  pub mark : IsU32 r.mark
  pub mask : IsU32 r.mask
  pub target : TargetRanges r.target

-- ---- DNS

pub record DnsRanges (dns : Dns) : Type 0 where
  pub servers : All IsAddress dns.servers
  pub search : All DomainRanges dns.search

-- ---- kernel calls

-- what the call carries
abbrev pub CallRanges : Call → Type 0
CallRanges (AddLink name kind) = NameRanges name × KindRanges kind
CallRanges (DelLink name) = NameRanges name
CallRanges (Up name) = NameRanges name
CallRanges (Down name) = NameRanges name
CallRanges (SetMtu name mtu) = NameRanges name × IsU32 mtu
CallRanges (SetMac name mac) = NameRanges name × MacRanges mac
CallRanges (SetBond name opts) = NameRanges name × BondRanges opts
CallRanges (SetBridge name opts) = NameRanges name × BridgeRanges opts
CallRanges (Attach port controller) = NameRanges port × NameRanges controller
CallRanges (Detach port) = NameRanges port
CallRanges (SetPort port opts) = NameRanges port × PortRanges opts
CallRanges (AddAddress name addr) = NameRanges name × PrefixRanges addr
CallRanges (DelAddress name addr) = NameRanges name × PrefixRanges addr
CallRanges (AddRoute route) = RouteRanges route
CallRanges (DelRoute route) = RouteRanges route
CallRanges (AddRule rule) = RuleRanges rule
CallRanges (DelRule rule) = RuleRanges rule
CallRanges (SetDns dns) = DnsRanges dns

-- ---- networks

-- each link, route and rule by its place, and the settings of DNS
pub record Ranges (net : NetData) : Type 0 where
  pub links : All LinkRanges net.links
  pub routes : All RouteRanges net.routes
  pub rules : All RuleRanges net.rules
  pub dns : DnsRanges net.dns

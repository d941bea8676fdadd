-- The line of each call in the manner of ip-link(8), ip-address(8) and ip-route(8), as `ip -batch` reads lines.
use Rattle.std.specs.Prelude.{◌≡◌, ℕ, List, [], ◌∷◌, codes, Option, Some, None}
use Rattle.std.specs.Fmt.{decimal}
use Rattle.addr_text.specs.Mac.{mac_text}
use Rattle.addr_text.specs.Parts.{joined}
use Rattle.net_model.specs.Address.{Address, Block}
use Rattle.net_model.specs.declared.call.Call.{Call}
use Rattle.net_model.specs.declared.call.Call.TheVariants.{AddLink, DelLink, Up, Down, SetMtu, SetMac, SetBond, SetBridge, Attach, Detach, SetPort, AddAddress, DelAddress, AddRoute, DelRoute, AddRule, DelRule, SetDns}
use Rattle.net_model.specs.declared.link.Kind.{Kind}
use Rattle.net_model.specs.declared.link.Kind.TheVariants.{Ethernet, Bond, Bridge, Vlan, Vrf, Dummy, Veth}
use Rattle.net_model.specs.declared.options.Proto.{Proto}
use Rattle.net_model.specs.declared.options.Proto.TheVariants.{Dot1q, Dot1ad}
use Rattle.net_model.specs.declared.route.Route.{Route}
use Rattle.net_text.specs.AddrText.{addr_text, prefix_text}
use Rattle.net_text.specs.Line.{mode_word, call_line}
use Rattle.net_search.specs.Ranges.{CallRanges}

abbrev pub Text : Type 0
Text = List ℕ

-- with single spaces between them
abbrev pub spaced : List Text → Text
spaced = joined 32

abbrev pub tag_word : Proto → Text
tag_word Dot1q = codes "802.1Q"
tag_word Dot1ad = codes "802.1ad"

-- link add name N type ..
abbrev pub add_named : Text → List Text → List Text
add_named name rest = codes "link" ∷ codes "add" ∷ codes "name" ∷ name ∷ codes "type" ∷ rest

-- how a link is made, one row a kind; ip(8) has no such words for a device
abbrev pub making : Text → Kind → List Text
making name (Bond mode) = add_named name (codes "bond" ∷ codes "mode" ∷ mode_word mode ∷ [])
making name Bridge = add_named name (codes "bridge" ∷ [])
making name (Vlan base id proto) =
    codes "link" ∷ codes "add" ∷ codes "link" ∷ base ∷ codes "name" ∷ name ∷ codes "type" ∷ codes "vlan"
    ∷ codes "protocol" ∷ tag_word proto ∷ codes "id" ∷ decimal id ∷ []
making name (Vrf table) = add_named name (codes "vrf" ∷ codes "table" ∷ decimal table ∷ [])
making name Dummy = add_named name (codes "dummy" ∷ [])
making name (Veth peer) = add_named name (codes "veth" ∷ codes "peer" ∷ codes "name" ∷ peer ∷ [])
making name (Ethernet permanent) = add_named name (codes "ethernet" ∷ codes "permanent" ∷ mac_text permanent.bytes ∷ [])

-- link set dev N ..
abbrev pub setting : Text → List Text → List Text
setting name rest = codes "link" ∷ codes "set" ∷ codes "dev" ∷ name ∷ rest

-- address add PREFIX dev N, or del
abbrev pub addressing : Text → Block → Text → List Text
addressing command addr name = codes "address" ∷ command ∷ prefix_text addr ∷ codes "dev" ∷ name ∷ []

-- nothing where the route has no gateway
abbrev pub via : Option Address → List Text → List Text
via None rest = rest
via (Some gateway) rest = codes "via" ∷ addr_text gateway ∷ rest

-- route add DEST via G dev N table T metric M, or del
abbrev pub routing : Text → Route → List Text
routing command r =
    codes "route" ∷ command ∷ prefix_text r.dest
    ∷ via r.gateway (codes "dev" ∷ r.dev ∷ codes "table" ∷ decimal r.table ∷ codes "metric" ∷ decimal r.metric ∷ [])

-- what ip(8) takes for a comment: the call as plans print it
abbrev pub own : Call → List Text
own call = codes "#!" ∷ call_line call ∷ []

-- what stands in the line between single spaces, one row a call
abbrev pub row : Call → List Text
row (AddLink name kind) = making name kind
row (DelLink name) = codes "link" ∷ codes "del" ∷ codes "dev" ∷ name ∷ []
row (Up name) = setting name (codes "up" ∷ [])
row (Down name) = setting name (codes "down" ∷ [])
row (SetMtu name mtu) = setting name (codes "mtu" ∷ decimal mtu ∷ [])
row (SetMac name mac) = setting name (codes "address" ∷ mac_text mac.bytes ∷ [])
row (SetBond name opts) = own (SetBond name opts)
row (SetBridge name opts) = own (SetBridge name opts)
row (Attach port controller) = setting port (codes "master" ∷ controller ∷ [])
row (Detach port) = setting port (codes "nomaster" ∷ [])
row (SetPort port opts) = own (SetPort port opts)
row (AddAddress name addr) = addressing (codes "add") addr name
row (DelAddress name addr) = addressing (codes "del") addr name
row (AddRoute r) = routing (codes "add") r
row (DelRoute r) = routing (codes "del") r
row (AddRule rule) = own (AddRule rule)
row (DelRule rule) = own (DelRule rule)
row (SetDns dns) = own (SetDns dns)

-- the one spelling of a call, without a line's end
abbrev pub spelling : Call → Text
spelling call = spaced (row call)

-- the line spells the call, whose fields hold values of their types
pub record Spells (line : Text) (call : Call) : Type 0 where
  pub ranges : CallRanges call
  pub is : line ≡ spelling call

-- A kernel call as bytes: its number in one byte, and its fields in their order, each as it stands in an image.
use Rattle.std.specs.Prelude.{⊤, ℕ, ◌==◌, ◌≤◌, List, length, Option, Some, None, if◌then◌else◌}
use Rattle.net_model.specs.Address.{Block}
use Rattle.net_model.specs.Rule.{RuleParts}
use Rattle.net_model.specs.declared.call.Call.{Call}
use Rattle.net_model.specs.declared.call.Call.TheVariants.{AddLink, DelLink, Up, Down, SetMtu, SetMac, SetBond, SetBridge, Attach, Detach, SetPort, AddAddress, DelAddress, AddRoute, DelRoute, AddRule, DelRule, SetDns}
use Rattle.net_model.specs.declared.dns.Dns.{Dns}
use Rattle.net_model.specs.declared.link.Kind.{Kind}
use Rattle.net_model.specs.declared.mac.Mac.{Mac}
use Rattle.net_model.specs.declared.options.BondOpts.{BondOpts}
use Rattle.net_model.specs.declared.options.BridgeOpts.{BridgeOpts}
use Rattle.net_model.specs.declared.options.PortOpts.{PortOpts}
use Rattle.net_model.specs.declared.route.Route.{Route}
use Rattle.net_model.specs.declared.limits.TheConstants.{MAX_SERVERS, MAX_SEARCH}
use Rattle.net_image.specs.Form.{Form, ◌⨾◌, byte, never, variant, tagged, number}
use Rattle.net_image.specs.Fields.{name, mac, prefix}
use Rattle.net_image.specs.Links.{kind, bond_options, bridge_options, port_options}
use Rattle.net_image.specs.Image.{route, rule, settings}

abbrev pub call_number : Call → ℕ
call_number (AddLink _ _) = 1
call_number (DelLink _) = 2
call_number (Up _) = 3
call_number (Down _) = 4
call_number (SetMtu _ _) = 5
call_number (SetMac _ _) = 6
call_number (SetBond _ _) = 7
call_number (SetBridge _ _) = 8
call_number (Attach _ _) = 9
call_number (Detach _) = 10
call_number (SetPort _ _) = 11
call_number (AddAddress _ _) = 12
call_number (DelAddress _ _) = 13
call_number (AddRoute _) = 14
call_number (DelRoute _) = 15
call_number (AddRule _) = 16
call_number (DelRule _) = 17
call_number (SetDns _) = 18

-- ---- the fields of each call

abbrev pub add_link_held : Call → Option (List ℕ × Kind)
add_link_held (AddLink n k) = Some (n, k)
add_link_held _ = None

abbrev pub del_link_held : Call → Option (List ℕ)
del_link_held (DelLink n) = Some n
del_link_held _ = None

abbrev pub up_held : Call → Option (List ℕ)
up_held (Up n) = Some n
up_held _ = None

abbrev pub down_held : Call → Option (List ℕ)
down_held (Down n) = Some n
down_held _ = None

abbrev pub set_mtu_held : Call → Option (List ℕ × ℕ)
set_mtu_held (SetMtu n m) = Some (n, m)
set_mtu_held _ = None

abbrev pub set_mac_held : Call → Option (List ℕ × Mac)
set_mac_held (SetMac n m) = Some (n, m)
set_mac_held _ = None

abbrev pub set_bond_held : Call → Option (List ℕ × BondOpts)
set_bond_held (SetBond n o) = Some (n, o)
set_bond_held _ = None

abbrev pub set_bridge_held : Call → Option (List ℕ × BridgeOpts)
set_bridge_held (SetBridge n o) = Some (n, o)
set_bridge_held _ = None

abbrev pub attach_held : Call → Option (List ℕ × List ℕ)
attach_held (Attach p c) = Some (p, c)
attach_held _ = None

abbrev pub detach_held : Call → Option (List ℕ)
detach_held (Detach p) = Some p
detach_held _ = None

abbrev pub set_port_held : Call → Option (List ℕ × PortOpts)
set_port_held (SetPort p o) = Some (p, o)
set_port_held _ = None

abbrev pub add_address_held : Call → Option (List ℕ × Block)
add_address_held (AddAddress n a) = Some (n, a)
add_address_held _ = None

abbrev pub del_address_held : Call → Option (List ℕ × Block)
del_address_held (DelAddress n a) = Some (n, a)
del_address_held _ = None

abbrev pub add_route_held : Call → Option (Route)
add_route_held (AddRoute r) = Some r
add_route_held _ = None

abbrev pub del_route_held : Call → Option (Route)
del_route_held (DelRoute r) = Some r
del_route_held _ = None

abbrev pub add_rule_held : Call → Option (RuleParts)
add_rule_held (AddRule r) = Some r
add_rule_held _ = None

abbrev pub del_rule_held : Call → Option (RuleParts)
del_rule_held (DelRule r) = Some r
del_rule_held _ = None

abbrev pub set_dns_held : Call → Option (Dns)
set_dns_held (SetDns d) = Some d
set_dns_held _ = None

-- ---- calls

-- what stands behind the number of a call
abbrev pub call_behind : ℕ → Form Call
call_behind n =
    if n == 1 then variant (λ f. AddLink f.0 f.1) add_link_held (name ⨾ kind)
    else if n == 2 then variant DelLink del_link_held name
    else if n == 3 then variant Up up_held name
    else if n == 4 then variant Down down_held name
    else if n == 5 then variant (λ f. SetMtu f.0 f.1) set_mtu_held (name ⨾ number 4)
    else if n == 6 then variant (λ f. SetMac f.0 f.1) set_mac_held (name ⨾ mac)
    else if n == 7 then variant (λ f. SetBond f.0 f.1) set_bond_held (name ⨾ bond_options)
    else if n == 8 then variant (λ f. SetBridge f.0 f.1) set_bridge_held (name ⨾ bridge_options)
    else if n == 9 then variant (λ f. Attach f.0 f.1) attach_held (name ⨾ name)
    else if n == 10 then variant Detach detach_held name
    else if n == 11 then variant (λ f. SetPort f.0 f.1) set_port_held (name ⨾ port_options)
    else if n == 12 then variant (λ f. AddAddress f.0 f.1) add_address_held (name ⨾ prefix)
    else if n == 13 then variant (λ f. DelAddress f.0 f.1) del_address_held (name ⨾ prefix)
    else if n == 14 then variant AddRoute add_route_held route
    else if n == 15 then variant DelRoute del_route_held route
    else if n == 16 then variant AddRule add_rule_held rule
    else if n == 17 then variant DelRule del_rule_held rule
    else if n == 18 then variant SetDns set_dns_held settings
    else never

unfoldable pub call_form : Form Call
call_form = tagged call_number byte call_behind

-- Every call but one has bytes. Settings of DNS have them where they have no more servers and search domains than a
-- network may have.
abbrev pub HasBytes : Call → Type 0
HasBytes (SetDns dns) = (length dns.servers ≤ MAX_SERVERS) × (length dns.search ≤ MAX_SEARCH)
HasBytes _ = ⊤

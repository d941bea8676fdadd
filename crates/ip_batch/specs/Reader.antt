-- What a line is read as: the call that its words lead to, where the line is the spelling of this call.
-- Words that are the same for all calls of a row aren't looked at: the spelling has them.
use Rattle.std.specs.Prelude.{ℕ, ◌+◌, Bool, true, ◌&&◌, nat_lt, List, [], ◌∷◌, codes, Option, Some, None, Result, Ok, Err, if◌then◌else◌, length}
use Rattle.std.specs.Str.{bytes_eq, is_utf8}
use Rattle.net_model.specs.Address.{Address, Block}
use Rattle.net_model.specs.Rule.{RuleParts}
use Rattle.net_model.specs.Words.{bool_eq}
use Rattle.net_model.specs.declared.call.Call.{Call}
use Rattle.net_model.specs.declared.call.Call.TheVariants.{AddLink, DelLink, Up, Down, SetMtu, SetMac, SetBond, SetBridge, Attach, Detach, SetPort, AddAddress, DelAddress, AddRoute, DelRoute, AddRule, DelRule, SetDns}
use Rattle.net_model.specs.declared.dns.Dns.{Dns}
use Rattle.net_model.specs.declared.link.Kind.{Kind}
use Rattle.net_model.specs.declared.link.Kind.TheVariants.{Ethernet, Bond, Bridge, Vlan, Vrf, Dummy, Veth}
use Rattle.net_model.specs.declared.options.BondOpts.{BondOpts}
use Rattle.net_model.specs.declared.options.BridgeOpts.{BridgeOpts}
use Rattle.net_model.specs.declared.options.HashPolicy.{HashPolicy}
use Rattle.net_model.specs.declared.options.LacpRate.{LacpRate}
use Rattle.net_model.specs.declared.options.PortOpts.{PortOpts}
use Rattle.net_model.specs.declared.route.Route.{Route}
use Rattle.ip_batch.specs.Spelling.{Text, spelling}
use Rattle.ip_batch.specs.Batch.{is_skipped}
use Rattle.ip_batch.specs.Pieces.{given, word, lines_of}
use Rattle.ip_batch.specs.Values.{name_in, number_32, number_16, number_8, table_in, vlan_in, tag_in, mac_in, prefix_in, addr_in, subnet_in, mode_in, rate_in, policy_in, bool_in, family_in, target_in, maybe_name, maybe_subnet, servers_in, search_in, setting_at}
use Rattle.ip_batch.specs.declared.fault.BatchFault.{BatchFault}
use Rattle.ip_batch.specs.declared.fault.BatchFault.TheVariants.{Line, TooLarge}
use Rattle.ip_batch.specs.declared.fault.TheConstants.{MAX_BATCH_BYTES}

-- the words of a line by their numbers, from 0
abbrev pub Words : Type 0
Words = ℕ → Text

-- ---- calls on links

-- link set dev N KEY VALUE
abbrev pub set_by : Text → Text → Text → Option Call
set_by name key text =
    if bytes_eq key (codes "up") then Some (Up name) else
    if bytes_eq key (codes "down") then Some (Down name) else
    if bytes_eq key (codes "nomaster") then Some (Detach name) else
    if bytes_eq key (codes "mtu") then given (number_32 text) (λ mtu. Some (SetMtu name mtu)) else
    if bytes_eq key (codes "address") then given (mac_in text) (λ mac. Some (SetMac name mac)) else
    if bytes_eq key (codes "master") then given (name_in text) (λ controller. Some (Attach name controller)) else None

abbrev pub set_like : Words → Option Call
set_like w = given (name_in (w 3)) (λ name. set_by name (w 4) (w 5))

-- link add name N type KIND .. VALUE, and of a veth its peer
abbrev pub kind_like : Text → Text → Text → Option Kind
kind_like key text peer =
    if bytes_eq key (codes "bond") then given (mode_in text) (λ mode. Some (Bond mode)) else
    if bytes_eq key (codes "bridge") then Some Bridge else
    if bytes_eq key (codes "vrf") then given (table_in text) (λ table. Some (Vrf table)) else
    if bytes_eq key (codes "dummy") then Some Dummy else
    if bytes_eq key (codes "veth") then given (name_in peer) (λ peer. Some (Veth peer)) else
    if bytes_eq key (codes "ethernet") then given (mac_in text) (λ mac. Some (Ethernet mac)) else None

-- link add link BASE name N type vlan protocol PROTOCOL id ID
abbrev pub vlan_like : Words → Option Kind
vlan_like w = given (name_in (w 3)) (λ base. given (tag_in (w 9)) (λ proto. given (vlan_in (w 11)) (λ id. Some (Vlan base id proto))))

abbrev pub made : Option Text → Option Kind → Option Call
made name kind = given name (λ name. given kind (λ kind. Some (AddLink name kind)))

abbrev pub add_like : Words → Option Call
add_like w = if bytes_eq (w 2) (codes "link") then made (name_in (w 5)) (vlan_like w) else made (name_in (w 3)) (kind_like (w 5) (w 7) (w 8))

abbrev pub link_like : Words → Option Call
link_like w =
    if bytes_eq (w 1) (codes "add") then add_like w else
    if bytes_eq (w 1) (codes "del") then given (name_in (w 3)) (λ name. Some (DelLink name)) else
    if bytes_eq (w 1) (codes "set") then set_like w else None

-- ---- calls on addresses and routes

-- one where the command's second word says to add, the other where it says to delete
abbrev pub either : {X : Type 0} → Text → X → X → Option X
either command add del = if bytes_eq command (codes "add") then Some add else if bytes_eq command (codes "del") then Some del else None

-- address add PREFIX dev N
abbrev pub address_like : Words → Option Call
address_like w = given (prefix_in (w 2)) (λ addr. given (name_in (w 4)) (λ name. either (w 1) (AddAddress name addr) (DelAddress name addr)))

abbrev pub route : Block → Option Address → Text → ℕ → ℕ → Route
route dest gateway dev table metric = record { dest = dest; table = table; metric = metric; gateway = gateway; dev = dev }

-- dev N table T metric M, of these three words
abbrev pub route_by : Block → Option Address → Text → Text → Text → Option Route
route_by dest gateway dev table metric =
    given (name_in dev) (λ dev. given (table_in table) (λ table. given (number_32 metric) (λ metric. Some (route dest gateway dev table metric))))

-- route add DEST via G dev ..
abbrev pub route_to : Block → Words → Option Route
route_to dest w =
    if bytes_eq (w 3) (codes "via") then given (addr_in (w 4)) (λ gateway. route_by dest (Some gateway) (w 6) (w 8) (w 10)) else
    route_by dest None (w 4) (w 6) (w 8)

abbrev pub route_like : Words → Option Call
route_like w = given (subnet_in (w 2)) (λ dest. given (route_to dest w) (λ r. either (w 1) (AddRoute r) (DelRoute r)))

-- ---- calls that stand in comments

-- miimon=N updelay=N downdelay=N, the words 6 to 8
abbrev pub monitor : Option Text → LacpRate → HashPolicy → Words → Option BondOpts
monitor primary rate policy w =
    given (number_32 (setting_at w 6)) (λ miimon. given (number_32 (setting_at w 7)) (λ updelay. given (number_32 (setting_at w 8)) (λ downdelay.
    Some (record { primary = primary; lacp_rate = rate; hash_policy = policy; miimon = miimon; updelay = updelay; downdelay = downdelay }))))

-- #! set-bond N primary=P lacp_rate=R xmit_hash_policy=H ..
abbrev pub bond_in : Words → Option BondOpts
bond_in w =
    given (maybe_name (setting_at w 3)) (λ primary. given (rate_in (setting_at w 4)) (λ rate.
    given (policy_in (setting_at w 5)) (λ policy. monitor primary rate policy w)))

-- forward-delay=N hello-time=N max-age=N mac-ageing-time=N, the words 5 to 8
abbrev pub timers : Bool → ℕ → Words → Option BridgeOpts
timers stp priority w =
    given (number_8 (setting_at w 5)) (λ delay. given (number_8 (setting_at w 6)) (λ hello.
    given (number_8 (setting_at w 7)) (λ age. given (number_32 (setting_at w 8)) (λ ageing.
    Some (record { stp = stp; priority = priority; forward_delay = delay; hello_time = hello; max_age = age; mac_ageing = ageing })))))

-- #! set-bridge N stp=B priority=N ..
abbrev pub bridge_in : Words → Option BridgeOpts
bridge_in w = given (bool_in (setting_at w 3)) (λ stp. given (number_16 (setting_at w 4)) (λ priority. timers stp priority w))

-- #! set-port N cost=N priority=N hairpin=B
abbrev pub port_in : Words → Option PortOpts
port_in w =
    given (number_16 (setting_at w 3)) (λ cost. given (number_8 (setting_at w 4)) (λ priority. given (bool_in (setting_at w 5)) (λ hairpin.
    Some (record { cost = cost; priority = priority; hairpin = hairpin }))))

-- the subnet is of this family, where there is one
abbrev pub is_of : Bool → Option Block → Bool
is_of v6 None = true
is_of v6 (Some subnet) = bool_eq subnet.addr.v6 v6

-- mark=N mask=N target=T, the words 7 to 9
abbrev pub action : ℕ → Bool → Option Block → Option Block → Option Text → Words → Option RuleParts
action priority v6 src dst iif w =
    given (number_32 (setting_at w 7)) (λ mark. given (number_32 (setting_at w 8)) (λ mask. given (target_in (setting_at w 9)) (λ target.
    if is_of v6 src && is_of v6 dst
    then Some (record { priority = priority; v6 = v6; src = src; dst = dst; iif = iif; mark = mark; mask = mask; target = target })
    else None)))

-- from=S to=S iif=N, the words 4 to 6
abbrev pub selector : ℕ → Bool → Words → Option RuleParts
selector priority v6 w =
    given (maybe_subnet (setting_at w 4)) (λ src. given (maybe_subnet (setting_at w 5)) (λ dst.
    given (maybe_name (setting_at w 6)) (λ iif. action priority v6 src dst iif w)))

-- #! add-rule N FAMILY ..
abbrev pub rule_in : Words → Option RuleParts
rule_in w = given (number_32 (w 2)) (λ priority. given (family_in (w 3)) (λ v6. selector priority v6 w))

-- #! set-dns servers=A,.. search=D,..
abbrev pub dns_in : Words → Option Dns
dns_in w =
    given (servers_in (setting_at w 2)) (λ servers. given (search_in (setting_at w 3)) (λ search.
    Some (record { servers = servers; search = search })))

abbrev pub set_own : Text → Text → Words → Option Call
set_own command name w =
    if bytes_eq command (codes "set-bond") then given (bond_in w) (λ opts. Some (SetBond name opts)) else
    if bytes_eq command (codes "set-bridge") then given (bridge_in w) (λ opts. Some (SetBridge name opts)) else
    if bytes_eq command (codes "set-port") then given (port_in w) (λ opts. Some (SetPort name opts)) else None

abbrev pub own_like : Words → Option Call
own_like w =
    if bytes_eq (w 1) (codes "add-rule") then given (rule_in w) (λ rule. Some (AddRule rule)) else
    if bytes_eq (w 1) (codes "del-rule") then given (rule_in w) (λ rule. Some (DelRule rule)) else
    if bytes_eq (w 1) (codes "set-dns") then given (dns_in w) (λ dns. Some (SetDns dns)) else
    given (name_in (w 2)) (λ name. set_own (w 1) name w)

-- ---- lines and texts

unfoldable pub call_like : Words → Option Call
call_like w =
    if bytes_eq (w 0) (codes "link") then link_like w else
    if bytes_eq (w 0) (codes "address") then address_like w else
    if bytes_eq (w 0) (codes "route") then route_like w else
    if bytes_eq (w 0) (codes "#!") then own_like w else None

-- the call, where the line is its spelling
abbrev pub if_spelled : Text → Call → Option Call
if_spelled line call = if bytes_eq (spelling call) line then Some call else None

unfoldable pub call_of : Text → Option Call
call_of line = if is_utf8 line then given (call_like (word line)) (if_spelled line) else None

-- a line's call before those that follow, or the number of the first line that is none
abbrev pub before : ℕ → Option Call → Result (List Call) ℕ → Result (List Call) ℕ
before n None calls = Err n
before n (Some call) (Ok calls) = Ok (call ∷ calls)
before n (Some call) (Err bad) = Err bad

-- the calls of the lines from this number on
abbrev pub calls_from : ℕ → List Text → Result (List Call) ℕ
calls_from n [] = Ok []
calls_from n (line ∷ lines) = if is_skipped line then calls_from (n + 1) lines else before n (call_of line) (calls_from (n + 1) lines)

-- the calls of a text, or its first fault
abbrev pub told : Result (List Call) ℕ → Result (List Call) BatchFault
told (Ok calls) = Ok calls
told (Err n) = Err (Line n)

unfoldable pub batch_of : Text → Result (List Call) BatchFault
batch_of bytes = if nat_lt MAX_BATCH_BYTES (length bytes) then Err TooLarge else told (calls_from 1 (lines_of bytes))

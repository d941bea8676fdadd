-- Each row of the table leads back to its call.
use Rattle.std.proofs.Common.{◌≡◌, ◌∙◌, ◌<◌, ◌≤◌, ◌^◌, ℕ, List, [], ◌∷◌, ◌++◌, Bool, true, false, ◌&&◌, Option, Some, None, map, refl, sym, ap, subst, arith, append_assoc}
use Rattle.std.specs.Prelude.{codes, All, IfSome}
use Rattle.std.specs.Char.{is_ascii_graphic}
use Rattle.std.specs.Fmt.{decimal}
use Rattle.std.specs.List.{list_all}
use Rattle.std.proofs.lemmas.List.Elements.{All-head, All-tail}
use Rattle.addr_text.specs.Mac.{mac_text}
use Rattle.addr_text.specs.Parts.{joined}
use Rattle.net_model.specs.Address.{Address, Block, IsAddress, IsSubnet}
use Rattle.net_model.specs.Rule.{RuleParts, IsOfFamily}
use Rattle.net_model.specs.Words.{bool_eq}
use Rattle.net_model.specs.declared.call.Call.{Call}
use Rattle.net_model.specs.declared.call.Call.TheVariants.{AddLink, DelLink, Up, Down, SetMtu, SetMac, SetBond, SetBridge, Attach, Detach, SetPort, AddAddress, DelAddress, AddRoute, DelRoute, AddRule, DelRule, SetDns}
use Rattle.net_model.specs.declared.dns.Dns.{Dns}
use Rattle.net_model.specs.declared.link.Kind.{Kind}
use Rattle.net_model.specs.declared.link.Kind.TheVariants.{Ethernet, Bond, Bridge, Vlan, Vrf, Dummy, Veth}
use Rattle.net_model.specs.declared.options.BondMode.{BondMode}
use Rattle.net_model.specs.declared.options.BondMode.TheVariants.{BalanceRr, ActiveBackup, BalanceXor, Broadcast, Ieee8023ad, BalanceTlb, BalanceAlb}
use Rattle.net_model.specs.declared.options.BondOpts.{BondOpts}
use Rattle.net_model.specs.declared.options.BridgeOpts.{BridgeOpts}
use Rattle.net_model.specs.declared.options.HashPolicy.{HashPolicy}
use Rattle.net_model.specs.declared.options.HashPolicy.TheVariants.{Layer2, Layer23, Layer34, Encap23, Encap34, VlanSrcmac}
use Rattle.net_model.specs.declared.options.LacpRate.{LacpRate}
use Rattle.net_model.specs.declared.options.LacpRate.TheVariants.{Slow, Fast}
use Rattle.net_model.specs.declared.options.PortOpts.{PortOpts}
use Rattle.net_model.specs.declared.options.Proto.{Proto}
use Rattle.net_model.specs.declared.options.Proto.TheVariants.{Dot1q, Dot1ad}
use Rattle.net_model.specs.declared.route.Route.{Route}
use Rattle.net_model.specs.declared.rule.Target.{Target}
use Rattle.net_model.specs.declared.rule.Target.TheVariants.{Table, Blackhole, Unreachable, Prohibit}
use Rattle.net_search.specs.Ranges.{NameRanges, DomainRanges, MacRanges, TableRanges, PrefixRanges, SubnetRanges, TargetRanges, KindRanges, BondRanges, BridgeRanges, PortRanges, RouteRanges, RuleRanges, DnsRanges, CallRanges, IsU8, IsU16, IsU32}
use Rattle.net_text.specs.AddrText.{addr_text, prefix_text}
use Rattle.net_text.specs.Line.{monitor_words, timer_words, mode_word, rate_word, policy_word, bool_word, family_word, target_word, name_or_dash, prefix_or_dash}
use Rattle.ip_batch.specs.Spelling.{Text, spaced, tag_word, making, routing, row, spelling}
use Rattle.ip_batch.specs.Values.{setting_at}
use Rattle.ip_batch.specs.Reader.{call_like, is_of}
use Rattle.ip_batch.proofs.Cuts.{nth}
use Rattle.ip_batch.proofs.Graphic.{graphic, all-joined, name_graphic, domain_graphic, decimal_graphic, mac_graphic, addr_graphic, prefix_graphic}
use Rattle.ip_batch.proofs.Spelled.{name_reads, number_32_reads, number_16_reads, number_8_reads, table_reads, vlan_reads, tag_reads, mode_reads, rate_reads, policy_reads, bool_reads, family_reads, target_reads, mac_reads, addr_reads, prefix_reads, subnet_reads, maybe_name_reads, maybe_subnet_reads, servers_read, search_read}

-- the words of a call's line: they make the line, hold no space, and lead to the call
pub record Row (call : Call) : Type 0 where
  pub words : List Text
  pub is : spelling call ≡ spaced words
  pub printable : list_all graphic words ≡ true
  pub leads : call_like (nth words) ≡ Some call

-- ---- what is printable

tag_graphic : (p : Proto) → graphic (tag_word p) ≡ true
tag_graphic Dot1q = refl
tag_graphic Dot1ad = refl

mode_graphic : (m : BondMode) → graphic (mode_word m) ≡ true
mode_graphic BalanceRr = refl
mode_graphic ActiveBackup = refl
mode_graphic BalanceXor = refl
mode_graphic Broadcast = refl
mode_graphic Ieee8023ad = refl
mode_graphic BalanceTlb = refl
mode_graphic BalanceAlb = refl

rate_graphic : (r : LacpRate) → graphic (rate_word r) ≡ true
rate_graphic Slow = refl
rate_graphic Fast = refl

policy_graphic : (p : HashPolicy) → graphic (policy_word p) ≡ true
policy_graphic Layer2 = refl
policy_graphic Layer23 = refl
policy_graphic Layer34 = refl
policy_graphic Encap23 = refl
policy_graphic Encap34 = refl
policy_graphic VlanSrcmac = refl

bool_graphic : (b : Bool) → graphic (bool_word b) ≡ true
bool_graphic true = refl
bool_graphic false = refl

family_graphic : (v6 : Bool) → graphic (family_word v6) ≡ true
family_graphic true = refl
family_graphic false = refl

u8_graphic : (n : ℕ) → IsU8 n → graphic (decimal n) ≡ true
u8_graphic n h = decimal_graphic n (omega arith)

u16_graphic : (n : ℕ) → IsU16 n → graphic (decimal n) ≡ true
u16_graphic n h = decimal_graphic n (omega arith)

u32_graphic : (n : ℕ) → IsU32 n → graphic (decimal n) ≡ true
u32_graphic n h = decimal_graphic n (omega arith)

table_graphic : (n : ℕ) → TableRanges n → graphic (decimal n) ≡ true
table_graphic n r = u32_graphic n r.most

target_graphic : (t : Target) → TargetRanges t → graphic (target_word t) ≡ true
target_graphic (Table n) r = table_graphic n r
target_graphic Blackhole r = refl
target_graphic Unreachable r = refl
target_graphic Prohibit r = refl

maybe_name_graphic : (o : Option Text) → IfSome o NameRanges → graphic (name_or_dash o) ≡ true
maybe_name_graphic None r = refl
maybe_name_graphic (Some n) r = name_graphic n r.named

subnet_graphic : (b : Block) → SubnetRanges b → graphic (prefix_text b) ≡ true
subnet_graphic b r = prefix_graphic b r.addr r.subnet.within

maybe_subnet_graphic : (o : Option Block) → IfSome o SubnetRanges → graphic (prefix_or_dash o) ≡ true
maybe_subnet_graphic None r = refl
maybe_subnet_graphic (Some b) r = subnet_graphic b r

servers_graphic : (addrs : List Address) → All IsAddress addrs → list_all graphic (map addr_text addrs) ≡ true
servers_graphic [] h = refl
servers_graphic (a ∷ addrs) h = rw (addr_graphic a (All-head IsAddress a addrs h), servers_graphic addrs (All-tail IsAddress a addrs h)) refl

search_graphic : (ds : List Text) → All DomainRanges ds → list_all graphic ds ≡ true
search_graphic [] h = refl
search_graphic (d ∷ ds) h = rw (domain_graphic d (All-head DomainRanges d ds h).domain, search_graphic ds (All-tail DomainRanges d ds h)) refl

-- ---- links

making_row : (n : Text) (k : Kind) → NameRanges n → KindRanges k → Row (AddLink n k)
unfolding call_like
making_row n (Bond m) r s = record {
  words = making n (Bond m);
  is = refl;
  printable = rw (name_graphic n r.named, mode_graphic m) refl;
  leads = rw (name_reads n r, mode_reads m) refl;
}
making_row n Bridge r s = record { words = making n Bridge; is = refl; printable = rw (name_graphic n r.named) refl; leads = rw (name_reads n r) refl }
making_row n (Vlan base id p) r s = record {
  words = making n (Vlan base id p);
  is = refl;
  printable = rw (name_graphic base s.base.named, name_graphic n r.named, tag_graphic p, decimal_graphic id (omega (arith, s.id))) refl;
  leads = rw (name_reads n r, name_reads base s.base, tag_reads p, vlan_reads id s.id) refl;
}
making_row n (Vrf table) r s = record {
  words = making n (Vrf table);
  is = refl;
  printable = rw (name_graphic n r.named, table_graphic table s) refl;
  leads = rw (name_reads n r, table_reads table s) refl;
}
making_row n Dummy r s = record { words = making n Dummy; is = refl; printable = rw (name_graphic n r.named) refl; leads = rw (name_reads n r) refl }
making_row n (Veth peer) r s = record {
  words = making n (Veth peer);
  is = refl;
  printable = rw (name_graphic n r.named, name_graphic peer s.named) refl;
  leads = rw (name_reads n r, name_reads peer s) refl;
}
making_row n (Ethernet m) r s = record {
  words = making n (Ethernet m);
  is = refl;
  printable = rw (name_graphic n r.named, mac_graphic m.bytes s.bytes) refl;
  leads = rw (name_reads n r, mac_reads m s) refl;
}

-- ---- addresses and routes

address_row : (n : Text) (b : Block) → NameRanges n → PrefixRanges b → Row (AddAddress n b) × Row (DelAddress n b)
unfolding call_like
address_row n b r s = (
  record {
    words = row (AddAddress n b);
    is = refl;
    printable = rw (prefix_graphic b s.addr s.len, name_graphic n r.named) refl;
    leads = rw (prefix_reads b s, name_reads n r) refl;
  },
  record {
    words = row (DelAddress n b);
    is = refl;
    printable = rw (prefix_graphic b s.addr s.len, name_graphic n r.named) refl;
    leads = rw (prefix_reads b s, name_reads n r) refl;
  },
)

via_row : (r : Route) (g : Option Address) → RouteRanges (record r { gateway = g }) → Row (AddRoute (record r { gateway = g })) × Row (DelRoute (record r { gateway = g }))
unfolding call_like
via_row r None s = (
  record {
    words = row (AddRoute (record r { gateway = None }));
    is = refl;
    printable = rw (subnet_graphic r.dest s.dest, name_graphic r.dev s.dev.named, table_graphic r.table s.table, u32_graphic r.metric s.metric) refl;
    leads = rw (subnet_reads r.dest s.dest, name_reads r.dev s.dev, table_reads r.table s.table, number_32_reads r.metric s.metric) refl;
  },
  record {
    words = row (DelRoute (record r { gateway = None }));
    is = refl;
    printable = rw (subnet_graphic r.dest s.dest, name_graphic r.dev s.dev.named, table_graphic r.table s.table, u32_graphic r.metric s.metric) refl;
    leads = rw (subnet_reads r.dest s.dest, name_reads r.dev s.dev, table_reads r.table s.table, number_32_reads r.metric s.metric) refl;
  },
)
via_row r (Some g) s = (
  record {
    words = row (AddRoute (record r { gateway = Some g }));
    is = refl;
    printable = rw (subnet_graphic r.dest s.dest, addr_graphic g s.gateway, name_graphic r.dev s.dev.named, table_graphic r.table s.table, u32_graphic r.metric s.metric) refl;
    leads = rw (subnet_reads r.dest s.dest, addr_reads g s.gateway, name_reads r.dev s.dev, table_reads r.table s.table, number_32_reads r.metric s.metric) refl;
  },
  record {
    words = row (DelRoute (record r { gateway = Some g }));
    is = refl;
    printable = rw (subnet_graphic r.dest s.dest, addr_graphic g s.gateway, name_graphic r.dev s.dev.named, table_graphic r.table s.table, u32_graphic r.metric s.metric) refl;
    leads = rw (subnet_reads r.dest s.dest, addr_reads g s.gateway, name_reads r.dev s.dev, table_reads r.table s.table, number_32_reads r.metric s.metric) refl;
  },
)

-- ---- calls that stand in comments

-- pieces one after another
parted : (a n b p c q m : Text) → a ++ n ++ (b ++ p ++ c ++ q ++ m) ≡ a ++ (n ++ (b ++ (p ++ (c ++ (q ++ m)))))
parted a n b p c q m = simp append_assoc

parted_more : (a n b p c q d r m : Text) → a ++ n ++ (b ++ p ++ c ++ q ++ d ++ r ++ m) ≡ a ++ (n ++ (b ++ (p ++ (c ++ (q ++ (d ++ (r ++ m)))))))
parted_more a n b p c q d r m = simp append_assoc

-- how a bond watches its ports, as words
watched : (o : BondOpts) → monitor_words o ≡ codes " " ++ spaced ((codes "miimon=" ++ decimal o.miimon) ∷ (codes "updelay=" ++ decimal o.updelay) ∷ (codes "downdelay=" ++ decimal o.downdelay) ∷ [])
watched o = simp append_assoc

-- a bridge's times, as words
timed : (o : BridgeOpts) → timer_words o
    ≡ codes " " ++ spaced ((codes "forward-delay=" ++ decimal o.forward_delay) ∷ (codes "hello-time=" ++ decimal o.hello_time) ∷ (codes "max-age=" ++ decimal o.max_age) ∷ (codes "mac-ageing-time=" ++ decimal o.mac_ageing) ∷ [])
timed o = simp append_assoc

bond_row : (n : Text) (o : BondOpts) → NameRanges n → BondRanges o → Row (SetBond n o)
unfolding call_like setting_at
bond_row n o r s = record {
  words =
      codes "#!" ∷ codes "set-bond" ∷ n ∷ (codes "primary=" ++ name_or_dash o.primary) ∷ (codes "lacp_rate=" ++ rate_word o.lacp_rate) ∷ (codes "xmit_hash_policy=" ++ policy_word o.hash_policy)
      ∷ (codes "miimon=" ++ decimal o.miimon) ∷ (codes "updelay=" ++ decimal o.updelay) ∷ (codes "downdelay=" ++ decimal o.downdelay) ∷ [];
  is =
      ap (λ (t : Text). codes "#! " ++ t)
      (parted_more (codes "set-bond ") n (codes " primary=") (name_or_dash o.primary) (codes " lacp_rate=") (rate_word o.lacp_rate) (codes " xmit_hash_policy=") (policy_word o.hash_policy) (monitor_words o)
      ∙ ap (λ (m : Text). codes "set-bond " ++ (n ++ (codes " primary=" ++ (name_or_dash o.primary ++ (codes " lacp_rate=" ++ (rate_word o.lacp_rate ++ (codes " xmit_hash_policy=" ++ (policy_word o.hash_policy ++ m)))))))) (watched o));
  printable = rw (name_graphic n r.named, maybe_name_graphic o.primary s.primary, rate_graphic o.lacp_rate, policy_graphic o.hash_policy, u32_graphic o.miimon s.miimon, u32_graphic o.updelay s.updelay, u32_graphic o.downdelay s.downdelay) refl;
  leads = rw (name_reads n r, maybe_name_reads o.primary s.primary, rate_reads o.lacp_rate, policy_reads o.hash_policy, number_32_reads o.miimon s.miimon, number_32_reads o.updelay s.updelay, number_32_reads o.downdelay s.downdelay) refl;
}

bridge_row : (n : Text) (o : BridgeOpts) → NameRanges n → BridgeRanges o → Row (SetBridge n o)
unfolding call_like setting_at
bridge_row n o r s = record {
  words =
      codes "#!" ∷ codes "set-bridge" ∷ n ∷ (codes "stp=" ++ bool_word o.stp) ∷ (codes "priority=" ++ decimal o.priority) ∷ (codes "forward-delay=" ++ decimal o.forward_delay)
      ∷ (codes "hello-time=" ++ decimal o.hello_time) ∷ (codes "max-age=" ++ decimal o.max_age) ∷ (codes "mac-ageing-time=" ++ decimal o.mac_ageing) ∷ [];
  is =
      ap (λ (t : Text). codes "#! " ++ t)
      (parted (codes "set-bridge ") n (codes " stp=") (bool_word o.stp) (codes " priority=") (decimal o.priority) (timer_words o)
      ∙ ap (λ (m : Text). codes "set-bridge " ++ (n ++ (codes " stp=" ++ (bool_word o.stp ++ (codes " priority=" ++ (decimal o.priority ++ m)))))) (timed o));
  printable = rw (name_graphic n r.named, bool_graphic o.stp, u16_graphic o.priority s.priority, u8_graphic o.forward_delay s.forward_delay, u8_graphic o.hello_time s.hello_time, u8_graphic o.max_age s.max_age, u32_graphic o.mac_ageing s.mac_ageing) refl;
  leads = rw (name_reads n r, bool_reads o.stp, number_16_reads o.priority s.priority, number_8_reads o.forward_delay s.forward_delay, number_8_reads o.hello_time s.hello_time, number_8_reads o.max_age s.max_age, number_32_reads o.mac_ageing s.mac_ageing) refl;
}

port_row : (n : Text) (o : PortOpts) → NameRanges n → PortRanges o → Row (SetPort n o)
unfolding call_like setting_at
port_row n o r s = record {
  words = codes "#!" ∷ codes "set-port" ∷ n ∷ (codes "cost=" ++ decimal o.cost) ∷ (codes "priority=" ++ decimal o.priority) ∷ (codes "hairpin=" ++ bool_word o.hairpin) ∷ [];
  is = simp append_assoc;
  printable = rw (name_graphic n r.named, u16_graphic o.cost s.cost, u8_graphic o.priority s.priority, bool_graphic o.hairpin) refl;
  leads = rw (name_reads n r, number_16_reads o.cost s.cost, number_8_reads o.priority s.priority, bool_reads o.hairpin) refl;
}

same_family : (a b : Bool) → a ≡ b → bool_eq a b ≡ true
same_family true true h = refl
same_family true false h = absurd cc
same_family false true h = absurd cc
same_family false false h = refl

of_family : (v6 : Bool) (o : Option Block) → IfSome o (λ b. b.addr.v6 ≡ v6) → is_of v6 o ≡ true
of_family v6 None h = refl
of_family v6 (Some b) h = same_family b.addr.v6 v6 h

rule_list : Text → RuleParts → List Text
rule_list command r =
    codes "#!" ∷ command ∷ decimal r.priority ∷ family_word r.v6 ∷ (codes "from=" ++ prefix_or_dash r.src) ∷ (codes "to=" ++ prefix_or_dash r.dst) ∷ (codes "iif=" ++ name_or_dash r.iif)
    ∷ (codes "mark=" ++ decimal r.mark) ∷ (codes "mask=" ++ decimal r.mask) ∷ (codes "target=" ++ target_word r.target) ∷ []

rule_graphic : (command : Text) (r : RuleParts) → graphic command ≡ true → RuleRanges r → list_all graphic (rule_list command r) ≡ true
unfolding rule_list
rule_graphic command r g s =
    rw (g, u32_graphic r.priority s.priority, family_graphic r.v6, maybe_subnet_graphic r.src s.src, maybe_subnet_graphic r.dst s.dst, maybe_name_graphic r.iif s.iif, u32_graphic r.mark s.mark, u32_graphic r.mask s.mask, target_graphic r.target s.target) refl

add_rule_row : (r : RuleParts) → RuleRanges r → Row (AddRule r)
unfolding call_like setting_at rule_list
add_rule_row r s = record {
  words = rule_list (codes "add-rule") r;
  is = simp append_assoc;
  printable = rule_graphic (codes "add-rule") r refl s;
  leads =
      rw (
        number_32_reads r.priority s.priority,
        family_reads r.v6,
        maybe_subnet_reads r.src s.src,
        maybe_subnet_reads r.dst s.dst,
        maybe_name_reads r.iif s.iif,
        number_32_reads r.mark s.mark,
        number_32_reads r.mask s.mask,
        target_reads r.target s.target,
        of_family r.v6 r.src s.family.source,
        of_family r.v6 r.dst s.family.destination,
      ) refl;
}

del_rule_row : (r : RuleParts) → RuleRanges r → Row (DelRule r)
unfolding call_like setting_at rule_list
del_rule_row r s = record {
  words = rule_list (codes "del-rule") r;
  is = simp append_assoc;
  printable = rule_graphic (codes "del-rule") r refl s;
  leads =
      rw (
        number_32_reads r.priority s.priority,
        family_reads r.v6,
        maybe_subnet_reads r.src s.src,
        maybe_subnet_reads r.dst s.dst,
        maybe_name_reads r.iif s.iif,
        number_32_reads r.mark s.mark,
        number_32_reads r.mask s.mask,
        target_reads r.target s.target,
        of_family r.v6 r.src s.family.source,
        of_family r.v6 r.dst s.family.destination,
      ) refl;
}

dns_row : (d : Dns) → DnsRanges d → Row (SetDns d)
unfolding call_like setting_at
dns_row d s = record {
  words = codes "#!" ∷ codes "set-dns" ∷ (codes "servers=" ++ joined 44 (map addr_text d.servers)) ∷ (codes "search=" ++ joined 44 d.search) ∷ [];
  is = simp append_assoc;
  printable = rw (all-joined is_ascii_graphic 44 refl (map addr_text d.servers) (servers_graphic d.servers s.servers), all-joined is_ascii_graphic 44 refl d.search (search_graphic d.search s.search)) refl;
  leads = rw (servers_read d.servers s.servers, search_read d.search s.search) refl;
}

-- ---- each call

-- each call whose fields are in range has such words
pub row_of : (call : Call) → CallRanges call → Row call
unfolding call_like
row_of (AddLink n k) r = making_row n k r.0 r.1
row_of (DelLink n) r = record { words = row (DelLink n); is = refl; printable = rw (name_graphic n r.named) refl; leads = rw (name_reads n r) refl }
row_of (Up n) r = record { words = row (Up n); is = refl; printable = rw (name_graphic n r.named) refl; leads = rw (name_reads n r) refl }
row_of (Down n) r = record { words = row (Down n); is = refl; printable = rw (name_graphic n r.named) refl; leads = rw (name_reads n r) refl }
row_of (SetMtu n m) r = record { words = row (SetMtu n m); is = refl; printable = rw (name_graphic n r.0.named, u32_graphic m r.1) refl; leads = rw (name_reads n r.0, number_32_reads m r.1) refl }
row_of (SetMac n m) r = record { words = row (SetMac n m); is = refl; printable = rw (name_graphic n r.0.named, mac_graphic m.bytes r.1.bytes) refl; leads = rw (name_reads n r.0, mac_reads m r.1) refl }
row_of (SetBond n o) r = bond_row n o r.0 r.1
row_of (SetBridge n o) r = bridge_row n o r.0 r.1
row_of (Attach p c) r = record { words = row (Attach p c); is = refl; printable = rw (name_graphic p r.0.named, name_graphic c r.1.named) refl; leads = rw (name_reads p r.0, name_reads c r.1) refl }
row_of (Detach p) r = record { words = row (Detach p); is = refl; printable = rw (name_graphic p r.named) refl; leads = rw (name_reads p r) refl }
row_of (SetPort n o) r = port_row n o r.0 r.1
row_of (AddAddress n b) r = (address_row n b r.0 r.1).0
row_of (DelAddress n b) r = (address_row n b r.0 r.1).1
row_of (AddRoute r) s = (via_row r r.gateway s).0
row_of (DelRoute r) s = (via_row r r.gateway s).1
row_of (AddRule r) s = add_rule_row r s
row_of (DelRule r) s = del_rule_row r s
row_of (SetDns d) s = dns_row d s

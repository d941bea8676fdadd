-- Each value is read from the word that it is spelled as.
use Rattle.std.proofs.Common.{◌≡◌, ◌≢◌, ◌∙◌, ◌<◌, ◌≤◌, ◌+◌, ◌-◌, ◌%◌, ◌^◌, ◌==◌, ℕ, zero, suc, List, [], ◌∷◌, ◌++◌, Bool, true, false, not, ◌&&◌, Option, Some, None, length, map, get_or, drop, refl, sym, ap, subst, arith, inl, inr}
use Rattle.std.specs.Prelude.{nat_lt, nat_le, codes, All, IfSome, if◌then◌else◌, slice_index}
use Rattle.std.specs.Char.{digit_value}
use Rattle.std.specs.Fmt.{decimal}
use Rattle.std.specs.List.{list_all}
use Rattle.std.specs.Option.{option_or}
use Rattle.std.specs.Str.{bytes_eq}
use Rattle.std.specs.Str.Parse.{AllDigits, IsNumeral, digits_value, without_leading_plus}
use Rattle.std.proofs.lemmas.Bool.{cases_Bool, and_parts, lt-ltb, le-leb, ne_eqb, eq-eqb}
use Rattle.std.proofs.lemmas.Fmt.{decimal_is_IsNumeral}
use Rattle.std.proofs.lemmas.Slice.Eq.{bytes_eq-Decides}
use Rattle.std.proofs.lemmas.Str.Parse.{digit_from_value}
use Rattle.std.proofs.lemmas.List.Elements.{All-head, All-tail}
use Rattle.addr_text.specs.Mac.{mac_text}
use Rattle.addr_text.specs.Parts.{joined}
use Rattle.addr_text.proofs.lemmas.MacLaws.{mac_text-reads}
use Rattle.addr_text.proofs.lemmas.Split.{lacks}
use Rattle.net_model.specs.Address.{Address, Block, address, block, block_size, subnet_of, IsAddress, IsPrefix, IsSubnet}
use Rattle.net_model.specs.Domain.{is_domain}
use Rattle.net_model.specs.Name.{is_name}
use Rattle.net_model.specs.declared.limits.TheConstants.{MAX_VLAN_ID}
use Rattle.net_model.specs.declared.mac.Mac.{Mac}
use Rattle.net_model.specs.declared.options.BondMode.{BondMode}
use Rattle.net_model.specs.declared.options.HashPolicy.{HashPolicy}
use Rattle.net_model.specs.declared.options.LacpRate.{LacpRate}
use Rattle.net_model.specs.declared.options.Proto.{Proto}
use Rattle.net_model.specs.declared.options.Proto.TheVariants.{Dot1q, Dot1ad}
use Rattle.net_model.specs.declared.rule.Target.{Target}
use Rattle.net_model.specs.declared.rule.Target.TheVariants.{Table, Blackhole, Unreachable, Prohibit}
use Rattle.net_search.specs.Ranges.{NameRanges, DomainRanges, MacRanges, TableRanges, PrefixRanges, SubnetRanges, TargetRanges, IsU8, IsU16, IsU32}
use Rattle.net_text.specs.AddrText.{addr_text, prefix_text, prefix_of, addr_of}
use Rattle.net_text.specs.Line.{mode_word, rate_word, policy_word, bool_word, family_word, target_word, name_or_dash, prefix_or_dash}
use Rattle.net_text.specs.Words.{word_in, actions}
use Rattle.net_text.proofs.lemmas.Addresses.{addr_text-reads, prefix_text-reads, hardware_complete}
use Rattle.net_text.proofs.lemmas.Words.{modes_exact, rates_exact, policies_exact, booleans_exact, families_exact}
use Rattle.ip_batch.specs.Spelling.{Text, tag_word}
use Rattle.ip_batch.specs.Pieces.{given, items_in, onto_read, each_read}
use Rattle.ip_batch.specs.Values.{name_in, domain_in, is_number, number, number_32, number_16, number_8, table_in, vlan_in, tag_in, mac_in, addr_in, prefix_in, subnet_in, mode_in, rate_in, policy_in, bool_in, family_in, target_in, unless_dash, maybe_name, maybe_subnet, servers_in, search_in}
use Rattle.ip_batch.proofs.Cuts.{items-joined}
use Rattle.ip_batch.proofs.Graphic.{addr_lacks, domain_lacks}

-- ---- names and domains

-- a name is read from its bytes
pub name_reads : (n : Text) → NameRanges n → name_in n ≡ Some n
unfolding name_in
name_reads n r = rw r.named refl

pub domain_reads : (d : Text) → is_domain d ≡ true → domain_in d ≡ Some d
unfolding domain_in
domain_reads d h = rw h refl

-- ---- numbers

no_plus : (t : Text) → AllDigits 10 t → without_leading_plus t ≡ t
no_plus [] h = refl
no_plus (c ∷ t) h =
    let k = digit_from_value c h.0 in
    let e : (c == 43) ≡ false = ne_eqb c 43 (omega (arith, k)) in
    rw e refl

-- digits are digits
pub digits_pass : (t : Text) → AllDigits 10 t → list_all (λ digit. nat_lt (digit_value digit) 10) t ≡ true
digits_pass [] h = refl
digits_pass (c ∷ t) h = rw (lt-ltb (digit_value c) 10 h.0, digits_pass t h.1) refl

number_is : (bound n : ℕ) (t : Text) → without_leading_plus t ≡ t → 0 < length t → list_all (λ digit. nat_lt (digit_value digit) 10) t ≡ true → digits_value 10 t ≡ n → n < bound → number bound t ≡ Some n
number_is bound n t plain some all value within =
    let fits : nat_lt (digits_value 10 t) bound ≡ true = rw value (lt-ltb n bound within) in
    rw (plain, lt-ltb 0 (length t) some, all, fits) (ap (λ (m : ℕ). Some m) value)

pub number_reads : (bound n : ℕ) → n < 2 ^ 64 → n < bound → number bound (decimal n) ≡ Some n
number_reads bound n small within =
    let k = decimal_is_IsNumeral n small in
    number_is bound n (decimal n) (no_plus (decimal n) k.0.1) k.0.0 (digits_pass (decimal n) k.0.1) k.1 within

-- a number of 32 bits is read from its decimal text
pub number_32_reads : (n : ℕ) → IsU32 n → number_32 (decimal n) ≡ Some n
unfolding number_32
number_32_reads n h = number_reads (2 ^ 32) n (omega arith) h

-- the same of 16 bits
pub number_16_reads : (n : ℕ) → IsU16 n → number_16 (decimal n) ≡ Some n
unfolding number_16
number_16_reads n h = number_reads (2 ^ 16) n (omega arith) h

-- the same of 8 bits
pub number_8_reads : (n : ℕ) → IsU8 n → number_8 (decimal n) ≡ Some n
unfolding number_8
number_8_reads n h = number_reads (2 ^ 8) n (omega arith) h

-- the same of a table
pub table_reads : (n : ℕ) → TableRanges n → table_in (decimal n) ≡ Some n
unfolding table_in
table_reads n r =
    let e : (n == 0) ≡ false = ne_eqb n 0 (omega (arith, r.least)) in
    rw (number_32_reads n r.most, e) refl

-- the same of a VLAN's number
pub vlan_reads : (n : ℕ) → n ≤ MAX_VLAN_ID → vlan_in (decimal n) ≡ Some n
unfolding vlan_in
vlan_reads n h = rw (number_16_reads n (omega (arith, h)), le-leb n MAX_VLAN_ID h) refl

-- ---- words

-- a VLAN's protocol is read from its word
pub tag_reads : (p : Proto) → tag_in (tag_word p) ≡ Some p
unfolding tag_in
tag_reads Dot1q = refl
tag_reads Dot1ad = refl

-- the same of a mode
pub mode_reads : (m : BondMode) → mode_in (mode_word m) ≡ Some m
unfolding mode_in
mode_reads m = (modes_exact (mode_word m) m).1 refl

-- the same of a rate
pub rate_reads : (r : LacpRate) → rate_in (rate_word r) ≡ Some r
unfolding rate_in
rate_reads r = (rates_exact (rate_word r) r).1 refl

-- the same of a hash policy
pub policy_reads : (p : HashPolicy) → policy_in (policy_word p) ≡ Some p
unfolding policy_in
policy_reads p = (policies_exact (policy_word p) p).1 refl

-- the same of a boolean
pub bool_reads : (b : Bool) → bool_in (bool_word b) ≡ Some b
unfolding bool_in
bool_reads b = (booleans_exact (bool_word b) b).1 refl

-- the same of a family
pub family_reads : (v6 : Bool) → family_in (family_word v6) ≡ Some v6
unfolding family_in
family_reads v6 = (families_exact (family_word v6) v6).1 refl

no_action : (t : Text) → AllDigits 10 t → 0 < length t → word_in actions t ≡ None
no_action [] h some = absurd (omega arith)
no_action (c ∷ t) h some =
    let k = digit_from_value c h.0 in
    let x : (c == 98) ≡ false = ne_eqb c 98 (omega (arith, k)) in
    let y : (c == 117) ≡ false = ne_eqb c 117 (omega (arith, k)) in
    let z : (c == 112) ≡ false = ne_eqb c 112 (omega (arith, k)) in
    rw (x, y, z) refl

-- the same of what a rule does
pub target_reads : (t : Target) → TargetRanges t → target_in (target_word t) ≡ Some t
unfolding target_in
target_reads (Table n) r =
    let k = decimal_is_IsNumeral n (omega (arith, r.most)) in
    rw (no_action (decimal n) k.0.1 k.0.0, table_reads n r) refl
target_reads Blackhole r = refl
target_reads Unreachable r = refl
target_reads Prohibit r = refl

-- ---- addresses

past_end : (bytes : List ℕ) → All IsU8 bytes → (k : ℕ) → slice_index bytes k < 256
past_end [] h k = omega arith
past_end (b ∷ bytes) h zero = All-head IsU8 b bytes h
past_end (b ∷ bytes) h (suc k) = past_end bytes (All-tail IsU8 b bytes h) k

-- a MAC address is read from its text
pub mac_reads : (m : Mac) → MacRanges m → mac_in (mac_text m.bytes) ≡ Some m
unfolding mac_in
mac_reads m r = hardware_complete (mac_text m.bytes) m (mac_text-reads m.bytes r.whole (past_end m.bytes r.bytes))

-- the same of an address
pub addr_reads : (a : Address) → IsAddress a → addr_in (addr_text a) ≡ Some a
unfolding addr_in
addr_reads a h = addr_text-reads a h

-- the same of a prefix
pub prefix_reads : (b : Block) → PrefixRanges b → prefix_in (prefix_text b) ≡ Some b
unfolding prefix_in
prefix_reads b r = prefix_text-reads b r.addr r.len

without_none : (b : Block) → b.addr.bits % block_size b ≡ 0 → subnet_of b ≡ b
without_none b h =
    let e : b.addr.bits - b.addr.bits % block_size b ≡ b.addr.bits = rw h (omega arith) in
    ap (λ (n : ℕ). block (address b.addr.v6 n) b.len) e

-- the same of a prefix without host bits
pub subnet_reads : (b : Block) → SubnetRanges b → subnet_in (prefix_text b) ≡ Some b
unfolding subnet_in
subnet_reads b r = rw (prefix_reads b (record { addr = r.addr; len = r.subnet.within })) (ap (λ (c : Block). Some c) (without_none b r.subnet.no_host_bits))

-- ---- a dash where there is none

no_dash_name : (n : Text) → is_name n ≡ true → bytes_eq n (codes "-") ≡ false
no_dash_name n h = elim (cases_Bool (bytes_eq n (codes "-"))) [
  | inl is ↦
      let e : n ≡ codes "-" = (bytes_eq-Decides n (codes "-")).0 is in
      let w : is_name (codes "-") ≡ true = subst (λ (m : Text). is_name m ≡ true) e h in
      absurd cc
  | inr other ↦ other
]

-- a name or none is read from its word
pub maybe_name_reads : (o : Option Text) → IfSome o NameRanges → maybe_name (name_or_dash o) ≡ Some o
unfolding maybe_name
maybe_name_reads None r = refl
maybe_name_reads (Some n) r = rw (no_dash_name n r.named, name_reads n r) refl

no_dash_prefix : (b : Block) → SubnetRanges b → bytes_eq (prefix_text b) (codes "-") ≡ false
no_dash_prefix b r = elim (cases_Bool (bytes_eq (prefix_text b) (codes "-"))) [
  | inl is ↦
      let e : prefix_text b ≡ codes "-" = (bytes_eq-Decides (prefix_text b) (codes "-")).0 is in
      let w : prefix_of (codes "-") ≡ Some b = ap prefix_of (sym e) ∙ prefix_text-reads b r.addr r.subnet.within in
      absurd cc
  | inr other ↦ other
]

-- the same of a prefix without host bits, or none
pub maybe_subnet_reads : (o : Option Block) → IfSome o SubnetRanges → maybe_subnet (prefix_or_dash o) ≡ Some o
unfolding maybe_subnet
maybe_subnet_reads None r = refl
maybe_subnet_reads (Some b) r = rw (no_dash_prefix b r, subnet_reads b r) refl

-- ---- lists with commas

addresses_lack : (addrs : List Address) → All IsAddress addrs → list_all (lacks 44) (map addr_text addrs) ≡ true
addresses_lack [] h = refl
addresses_lack (a ∷ addrs) h = rw (addr_lacks a (All-head IsAddress a addrs h), addresses_lack addrs (All-tail IsAddress a addrs h)) refl

addresses_read : (addrs : List Address) → All IsAddress addrs → each_read addr_in (map addr_text addrs) ≡ Some addrs
addresses_read [] h = refl
addresses_read (a ∷ addrs) h = rw (addr_reads a (All-head IsAddress a addrs h), addresses_read addrs (All-tail IsAddress a addrs h)) refl

address_some : (a : Address) → IsAddress a → addr_text a ≡ [] → ⊥
address_some a h e = let w : addr_of [] ≡ Some a = ap addr_of (sym e) ∙ addr_text-reads a h in cc

-- addresses are read from their list
pub servers_read : (addrs : List Address) → All IsAddress addrs → servers_in (joined 44 (map addr_text addrs)) ≡ Some addrs
unfolding servers_in
servers_read [] h = refl
servers_read (a ∷ addrs) h =
    rw (items-joined (addr_text a) (map addr_text addrs) (address_some a (All-head IsAddress a addrs h)) (addresses_lack (a ∷ addrs) h)) (addresses_read (a ∷ addrs) h)

domains_lack : (ds : List Text) → All DomainRanges ds → list_all (lacks 44) ds ≡ true
domains_lack [] h = refl
domains_lack (d ∷ ds) h = rw (domain_lacks d (All-head DomainRanges d ds h).domain, domains_lack ds (All-tail DomainRanges d ds h)) refl

domains_read : (ds : List Text) → All DomainRanges ds → each_read domain_in ds ≡ Some ds
domains_read [] h = refl
domains_read (d ∷ ds) h = rw (domain_reads d (All-head DomainRanges d ds h).domain, domains_read ds (All-tail DomainRanges d ds h)) refl

domain_some : (d : Text) → 1 ≤ length d → d ≡ [] → ⊥
domain_some [] h e = omega arith
domain_some (b ∷ d) h e = cc

-- the same of domains
pub search_read : (ds : List Text) → All DomainRanges ds → search_in (joined 44 ds) ≡ Some ds
unfolding search_in
search_read [] h = refl
search_read (d ∷ ds) h = rw (items-joined d ds (domain_some d (All-head DomainRanges d ds h).least) (domains_lack (d ∷ ds) h)) (domains_read (d ∷ ds) h)

-- The form of a link is exact.
use Rattle.std.proofs.Common.{◌≡◌, ℕ, zero, suc, ◌≤◌, Bool, true, false, not, cond, eqb, leb, List, Option, Some, None, refl, sym, ap, arith}
use Rattle.std.specs.Option.{is_none}
use Rattle.std.proofs.lemmas.Bool.{and_parts, eqb-true, leb-true}
use Rattle.net_model.specs.Links.{is_bond, is_bridge}
use Rattle.net_model.specs.Options.{default_bond, default_bridge, is_default_bond, is_default_bridge, is_fast, is_layer2, mode_number}
use Rattle.net_model.specs.declared.mac.Mac.{Mac}
use Rattle.net_model.specs.declared.link.Kind.{Kind}
use Rattle.net_model.specs.declared.link.Kind.TheVariants.{Ethernet, Bond, Bridge, Vlan, Vrf, Dummy, Veth}
use Rattle.net_model.specs.declared.options.BondMode.{BondMode}
use Rattle.net_model.specs.declared.options.BondMode.TheVariants.{BalanceRr, ActiveBackup, BalanceXor, Broadcast, Ieee8023ad, BalanceTlb, BalanceAlb}
use Rattle.net_model.specs.declared.options.BondOpts.{BondOpts}
use Rattle.net_model.specs.declared.options.BridgeOpts.{BridgeOpts}
use Rattle.net_model.specs.declared.options.HashPolicy.{HashPolicy}
use Rattle.net_model.specs.declared.options.HashPolicy.TheVariants.{Layer2, Layer23, Layer34, Encap23, Encap34, VlanSrcmac}
use Rattle.net_model.specs.declared.options.LacpRate.{LacpRate}
use Rattle.net_model.specs.declared.options.LacpRate.TheVariants.{Slow, Fast}
use Rattle.net_model.specs.declared.options.Proto.{Proto}
use Rattle.net_model.specs.declared.options.Proto.TheVariants.{Dot1q, Dot1ad}
use Rattle.net_image.specs.Form.{◌⨾◌, byte, nothing, never, variant, linked, counted, number}
use Rattle.net_image.specs.Fields.{up_to, flag, name, maybe_name, mac, table, prefix}
use Rattle.net_image.specs.Links.{mode_of, mode, rate_number, rate_of, rate, policy_number, policy_of, policy, proto_number, proto_of, proto, kind_number, ethernet_held, bond_held, bridge_held, vlan_held, vrf_held, dummy_held, veth_held, vlan_id, kind_behind, kind, bond_options, bridge_options, port_options, bond_part, bridge_part, Front, front, back, link_of, link_parts, link}
use Rattle.net_image.specs.Laws.{IsExact}
use Rattle.net_image.proofs.lemmas.Exact.{byte_exact, nothing_exact, never_exact, such_that_exact, made_exact, variant_exact, linked_exact, seq_exact, tagged_exact, counted_exact}
use Rattle.net_image.proofs.lemmas.Numbers.{number_exact}
use Rattle.net_image.proofs.lemmas.FieldLaws.{if_exact, variant_told, up_to_exact, flag_exact, name_exact, maybe_name_exact, mac_exact, table_exact, prefix_exact}

-- ---- words as one byte

mode_there : (m : BondMode) → mode_of (mode_number m) ≡ m
mode_there BalanceRr = refl
mode_there ActiveBackup = refl
mode_there BalanceXor = refl
mode_there Broadcast = refl
mode_there Ieee8023ad = refl
mode_there BalanceTlb = refl
mode_there BalanceAlb = refl

mode_back : (n : ℕ) → n ≤ 6 → mode_number (mode_of n) ≡ n
mode_back zero le = refl
mode_back (suc zero) le = refl
mode_back (suc (suc zero)) le = refl
mode_back (suc (suc (suc zero))) le = refl
mode_back (suc (suc (suc (suc zero)))) le = refl
mode_back (suc (suc (suc (suc (suc zero))))) le = refl
mode_back (suc (suc (suc (suc (suc (suc zero)))))) le = refl
mode_back (suc (suc (suc (suc (suc (suc (suc n))))))) le = absurd (omega arith)

pub mode_exact : IsExact mode
unfolding mode
mode_exact = made_exact mode_of mode_number (up_to 6) (up_to_exact 6) (λ m fits. mode_there m) (λ n fits. mode_back n (leb-true n 6 (and_parts _ _ fits).0))

rate_there : (r : LacpRate) → rate_of (rate_number r) ≡ r
rate_there Slow = refl
rate_there Fast = refl

rate_back : (n : ℕ) → n ≤ 1 → rate_number (rate_of n) ≡ n
rate_back zero le = refl
rate_back (suc zero) le = refl
rate_back (suc (suc n)) le = absurd (omega arith)

pub rate_exact : IsExact rate
unfolding rate
rate_exact = made_exact rate_of rate_number (up_to 1) (up_to_exact 1) (λ r fits. rate_there r) (λ n fits. rate_back n (leb-true n 1 (and_parts _ _ fits).0))

policy_there : (p : HashPolicy) → policy_of (policy_number p) ≡ p
policy_there Layer2 = refl
policy_there Layer23 = refl
policy_there Layer34 = refl
policy_there Encap23 = refl
policy_there Encap34 = refl
policy_there VlanSrcmac = refl

policy_back : (n : ℕ) → n ≤ 5 → policy_number (policy_of n) ≡ n
policy_back zero le = refl
policy_back (suc zero) le = refl
policy_back (suc (suc zero)) le = refl
policy_back (suc (suc (suc zero))) le = refl
policy_back (suc (suc (suc (suc zero)))) le = refl
policy_back (suc (suc (suc (suc (suc zero))))) le = refl
policy_back (suc (suc (suc (suc (suc (suc n)))))) le = absurd (omega arith)

pub policy_exact : IsExact policy
unfolding policy
policy_exact = made_exact policy_of policy_number (up_to 5) (up_to_exact 5) (λ p fits. policy_there p) (λ n fits. policy_back n (leb-true n 5 (and_parts _ _ fits).0))

proto_there : (p : Proto) → proto_of (proto_number p) ≡ p
proto_there Dot1q = refl
proto_there Dot1ad = refl

proto_back : (n : ℕ) → n ≤ 1 → proto_number (proto_of n) ≡ n
proto_back zero le = refl
proto_back (suc zero) le = refl
proto_back (suc (suc n)) le = absurd (omega arith)

pub proto_exact : IsExact proto
unfolding proto
proto_exact = made_exact proto_of proto_number (up_to 1) (up_to_exact 1) (λ p fits. proto_there p) (λ n fits. proto_back n (leb-true n 1 (and_parts _ _ fits).0))

-- ---- kinds

ethernet_there : (k : Kind) (m : Mac) → ethernet_held k ≡ Some m → Ethernet m ≡ k
ethernet_there (Ethernet p) m is = ap Ethernet cc
ethernet_there (Bond b) m is = absurd cc
ethernet_there Bridge m is = absurd cc
ethernet_there (Vlan b i p) m is = absurd cc
ethernet_there (Vrf t) m is = absurd cc
ethernet_there Dummy m is = absurd cc
ethernet_there (Veth q) m is = absurd cc

bond_there : (k : Kind) (m : BondMode) → bond_held k ≡ Some m → Bond m ≡ k
bond_there (Ethernet p) m is = absurd cc
bond_there (Bond b) m is = ap Bond cc
bond_there Bridge m is = absurd cc
bond_there (Vlan b i p) m is = absurd cc
bond_there (Vrf t) m is = absurd cc
bond_there Dummy m is = absurd cc
bond_there (Veth q) m is = absurd cc

bridge_there : (k : Kind) (u : Unit {0}) → bridge_held k ≡ Some u → Bridge ≡ k
bridge_there (Ethernet p) u is = absurd cc
bridge_there (Bond b) u is = absurd cc
bridge_there Bridge u is = refl
bridge_there (Vlan b i p) u is = absurd cc
bridge_there (Vrf t) u is = absurd cc
bridge_there Dummy u is = absurd cc
bridge_there (Veth q) u is = absurd cc

vlan_there : (k : Kind) (v : List ℕ × (ℕ × Proto)) → vlan_held k ≡ Some v → Vlan v.0 v.1.0 v.1.1 ≡ k
vlan_there (Ethernet p) v is = absurd cc
vlan_there (Bond b) v is = absurd cc
vlan_there Bridge v is = absurd cc
vlan_there (Vlan b i p) v is = let same : ◌≡◌ {A = List ℕ × (ℕ × Proto)} v (b, (i, p)) = cc in ap (λ (w : List ℕ × (ℕ × Proto)). Vlan w.0 w.1.0 w.1.1) same
vlan_there (Vrf t) v is = absurd cc
vlan_there Dummy v is = absurd cc
vlan_there (Veth q) v is = absurd cc

vrf_there : (k : Kind) (t : ℕ) → vrf_held k ≡ Some t → Vrf t ≡ k
vrf_there (Ethernet p) t is = absurd cc
vrf_there (Bond b) t is = absurd cc
vrf_there Bridge t is = absurd cc
vrf_there (Vlan b i p) t is = absurd cc
vrf_there (Vrf u) t is = ap Vrf cc
vrf_there Dummy t is = absurd cc
vrf_there (Veth q) t is = absurd cc

dummy_there : (k : Kind) (u : Unit {0}) → dummy_held k ≡ Some u → Dummy ≡ k
dummy_there (Ethernet p) u is = absurd cc
dummy_there (Bond b) u is = absurd cc
dummy_there Bridge u is = absurd cc
dummy_there (Vlan b i p) u is = absurd cc
dummy_there (Vrf t) u is = absurd cc
dummy_there Dummy u is = refl
dummy_there (Veth q) u is = absurd cc

veth_there : (k : Kind) (n : List ℕ) → veth_held k ≡ Some n → Veth n ≡ k
veth_there (Ethernet p) n is = absurd cc
veth_there (Bond b) n is = absurd cc
veth_there Bridge n is = absurd cc
veth_there (Vlan b i p) n is = absurd cc
veth_there (Vrf t) n is = absurd cc
veth_there Dummy n is = absurd cc
veth_there (Veth q) n is = ap Veth cc

pub vlan_id_exact : IsExact vlan_id
unfolding vlan_id
vlan_id_exact = such_that_exact (λ n. leb n 4094) (number 2) (number_exact 2)

kind_behind_exact : (n : ℕ) → IsExact (kind_behind n)
kind_behind_exact n =
    if_exact (eqb n 1) _ _ (variant_exact Ethernet ethernet_held mac mac_exact ethernet_there (λ m fits. refl))
    (if_exact (eqb n 2) _ _ (variant_exact Bond bond_held mode mode_exact bond_there (λ m fits. refl))
    (if_exact (eqb n 3) _ _ (variant_exact (λ u. Bridge) bridge_held nothing nothing_exact bridge_there (λ u fits. refl))
    (if_exact (eqb n 4) _ _ (variant_exact (λ v. Vlan v.0 v.1.0 v.1.1) vlan_held (name ⨾ vlan_id ⨾ proto) (seq_exact name (vlan_id ⨾ proto) name_exact (seq_exact vlan_id proto vlan_id_exact proto_exact)) vlan_there (λ v fits. refl))
    (if_exact (eqb n 5) _ _ (variant_exact Vrf vrf_held table table_exact vrf_there (λ t fits. refl))
    (if_exact (eqb n 6) _ _ (variant_exact (λ u. Dummy) dummy_held nothing nothing_exact dummy_there (λ u fits. refl))
    (if_exact (eqb n 7) _ _ (variant_exact Veth veth_held name name_exact veth_there (λ p fits. refl)) never_exact))))))

-- what stands behind the number of a kind is of that kind
kind_told : (n : ℕ) (k : Kind) → (kind_behind n).fits k ≡ true → kind_number k ≡ n
kind_told n k fits =
    variant_told n 1 kind_number Ethernet ethernet_held mac _ k ethernet_there (λ m. refl) fits
    (λ o. variant_told n 2 kind_number Bond bond_held mode _ k bond_there (λ m. refl) o
    (λ o. variant_told n 3 kind_number (λ u. Bridge) bridge_held nothing _ k bridge_there (λ u. refl) o
    (λ o. variant_told n 4 kind_number (λ v. Vlan v.0 v.1.0 v.1.1) vlan_held (name ⨾ vlan_id ⨾ proto) _ k vlan_there (λ v. refl) o
    (λ o. variant_told n 5 kind_number Vrf vrf_held table _ k vrf_there (λ t. refl) o
    (λ o. variant_told n 6 kind_number (λ u. Dummy) dummy_held nothing _ k dummy_there (λ u. refl) o
    (λ o. variant_told n 7 kind_number Veth veth_held name never k veth_there (λ p. refl) o (λ h. absurd cc)))))))

-- the form of a kind is exact
pub kind_exact : IsExact kind
unfolding kind
kind_exact = tagged_exact kind_number byte kind_behind byte_exact kind_behind_exact kind_told

-- ---- options

-- the form of the options of a bond is exact
pub bond_options_exact : IsExact bond_options
unfolding bond_options
bond_options_exact = made_exact _ _ (maybe_name ⨾ rate ⨾ policy ⨾ number 4 ⨾ number 4 ⨾ number 4)
    (seq_exact maybe_name _ maybe_name_exact (seq_exact rate _ rate_exact (seq_exact policy _ policy_exact (seq_exact (number 4) _ (number_exact 4) (seq_exact (number 4) (number 4) (number_exact 4) (number_exact 4))))))
    (λ o fits. refl) (λ o fits. refl)

-- the form of the options of a bridge is exact
pub bridge_options_exact : IsExact bridge_options
unfolding bridge_options
bridge_options_exact = made_exact _ _ (flag ⨾ number 2 ⨾ byte ⨾ byte ⨾ byte ⨾ number 4)
    (seq_exact flag _ flag_exact (seq_exact (number 2) _ (number_exact 2) (seq_exact byte _ byte_exact (seq_exact byte _ byte_exact (seq_exact byte (number 4) byte_exact (number_exact 4))))))
    (λ o fits. refl) (λ o fits. refl)

-- the form of the options of a bridge's port is exact
pub port_options_exact : IsExact port_options
unfolding port_options
port_options_exact = made_exact _ _ (number 2 ⨾ byte ⨾ flag) (seq_exact (number 2) _ (number_exact 2) (seq_exact byte flag byte_exact flag_exact)) (λ o fits. refl) (λ o fits. refl)

-- what is no more than its default
default_exact : {X : Type 0} (default : X) (is_default : X → Bool) → ((x : X) → is_default x ≡ true → default ≡ x) → is_default default ≡ true
    → IsExact (variant (λ (u : Unit {0}). default) (λ x. cond (is_default x) (Some tt) None) nothing)
default_exact {X = X} default is_default only is = variant_exact (λ (u : Unit {0}). default) (λ x. cond (is_default x) (Some tt) None) nothing nothing_exact
    (λ x u held. only x (taken (is_default x) u held)) (λ u fits. rw is refl)
  where
    taken : (b : Bool) (u : Unit {0}) → cond b (Some tt) None ≡ Some u → b ≡ true
    taken true u held = refl
    taken false u held = absurd cc

slow_is : (r : LacpRate) → not (is_fast r) ≡ true → Slow ≡ r
slow_is Slow is = refl
slow_is Fast is = absurd cc

layer2_is : (p : HashPolicy) → is_layer2 p ≡ true → Layer2 ≡ p
layer2_is Layer2 is = refl
layer2_is Layer23 is = absurd cc
layer2_is Layer34 is = absurd cc
layer2_is Encap23 is = absurd cc
layer2_is Encap34 is = absurd cc
layer2_is VlanSrcmac is = absurd cc

none_is : (o : Option (List ℕ)) → is_none o ≡ true → None ≡ o
none_is None is = refl
none_is (Some n) is = absurd cc

off_is : (b : Bool) → not b ≡ true → false ≡ b
off_is true is = absurd cc
off_is false is = refl

default_bond_is : (o : BondOpts) → is_default_bond o ≡ true → default_bond ≡ o
default_bond_is o is =
    let a = and_parts _ _ is in
    let b = and_parts _ _ a.0 in
    let c = and_parts _ _ b.0 in
    let d = and_parts _ _ c.0 in
    let e = and_parts _ _ d.0 in
    λ i. record { primary = none_is o.primary e.0 i; lacp_rate = slow_is o.lacp_rate e.1 i; hash_policy = layer2_is o.hash_policy d.1 i; miimon = (sym (eqb-true _ _ c.1)) i; updelay = (sym (eqb-true _ _ b.1)) i; downdelay = (sym (eqb-true _ _ a.1)) i }

default_bridge_is : (o : BridgeOpts) → is_default_bridge o ≡ true → default_bridge ≡ o
default_bridge_is o is =
    let a = and_parts _ _ is in
    let b = and_parts _ _ a.0 in
    let c = and_parts _ _ b.0 in
    let d = and_parts _ _ c.0 in
    let e = and_parts _ _ d.0 in
    λ i. record { stp = off_is o.stp e.0 i; priority = (sym (eqb-true _ _ e.1)) i; forward_delay = (sym (eqb-true _ _ d.1)) i; hello_time = (sym (eqb-true _ _ c.1)) i; max_age = (sym (eqb-true _ _ b.1)) i; mac_ageing = (sym (eqb-true _ _ a.1)) i }

pub bond_part_exact : (k : Kind) → IsExact (bond_part k)
bond_part_exact k = if_exact (is_bond k) _ _ bond_options_exact (default_exact default_bond is_default_bond default_bond_is refl)

pub bridge_part_exact : (k : Kind) → IsExact (bridge_part k)
bridge_part_exact k = if_exact (is_bridge k) _ _ bridge_options_exact (default_exact default_bridge is_default_bridge default_bridge_is refl)

-- ---- links

front_exact : IsExact front
front_exact = seq_exact name _ name_exact (seq_exact kind _ kind_exact (seq_exact flag _ flag_exact (seq_exact (number 4) _ (number_exact 4) (seq_exact mac maybe_name mac_exact maybe_name_exact))))

back_exact : (f : Front) → IsExact (back f)
back_exact f = seq_exact (bond_part f.1.0) _ (bond_part_exact f.1.0) (seq_exact (bridge_part f.1.0) _ (bridge_part_exact f.1.0) (seq_exact port_options (counted byte prefix) port_options_exact (counted_exact byte prefix byte_exact prefix_exact)))

-- the form of a link is exact
pub link_exact : IsExact link
unfolding link
link_exact = made_exact link_of link_parts (linked front back) (linked_exact front back front_exact back_exact) (λ l fits. refl) (λ p fits. refl)

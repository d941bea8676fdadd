-- The tests of sameness are equality.
use Rattle.std.proofs.Common.{◌≡◌, ℕ, Bool, true, false, not, ◌&&◌, ◌==◌, List, Option, Some, None, IsTrue, ◌↔◌, Ordering, Less, Equal, Greater, refl, sym, ap, subst, ◌∙◌, arith}
use Rattle.std.specs.Ordering.{is_eq}
use Rattle.std.specs.Option.{is_none}
use Rattle.std.specs.Cmp.{IsTotalOrder}
use Rattle.std.proofs.lemmas.Cmp.{tied_itself}
use Rattle.std.proofs.lemmas.Bool.Decides.{nat_tests}
use Rattle.net_model.specs.Address.{Address, Block}
use Rattle.net_model.specs.Rule.{RuleParts}
use Rattle.net_model.specs.Order.{address_cmp, block_cmp, target_cmp, rule_cmp}
use Rattle.net_model.specs.OrderLaws.{block_cmp_total, target_cmp_total, rule_cmp_total}
use Rattle.net_model.specs.Valid.{same_address, same_block, same_target, same_rule}
use Rattle.net_model.specs.Options.{default_bond, default_bridge, default_port, is_fast, is_layer2, is_default_bond, is_default_bridge, is_default_port}
use Rattle.net_model.specs.declared.rule.Target.{Target}
use Rattle.net_model.specs.declared.options.BondOpts.{BondOpts}
use Rattle.net_model.specs.declared.options.BridgeOpts.{BridgeOpts}
use Rattle.net_model.specs.declared.options.PortOpts.{PortOpts}
use Rattle.net_model.specs.declared.options.LacpRate.{LacpRate}
use Rattle.net_model.specs.declared.options.LacpRate.TheVariants.{Slow, Fast}
use Rattle.net_model.specs.declared.options.HashPolicy.{HashPolicy}
use Rattle.net_model.specs.declared.options.HashPolicy.TheVariants.{Layer2, Layer23, Layer34, Encap23, Encap34, VlanSrcmac}
use Rattle.net_model.proofs.lemmas.Truth.{and_left, and_right}
use Rattle.net_model.proofs.lemmas.Orders.{address_cmp_total}
use Rattle.net_model.proofs.lemmas.Ties.{addresses_tie, blocks_tie, targets_tie, rules_tie}
use Rattle.net_model.proofs.lemmas.Exact.{exact_addresses, exact_blocks, exact_targets, exact_rules}

is_equal : (r : Ordering) → is_eq r ≡ true → r ≡ Equal
is_equal Less h = cc
is_equal Equal h = refl
is_equal Greater h = cc

-- a test that an exact order ties is equality
same_exact : {X : Type 0} (E : X → X → Bool) (R : X → X → Ordering) → IsTotalOrder R → ((x y : X) → E x y ≡ is_eq (R x y)) → ((x y : X) → R x y ≡ Equal → x ≡ y) → (a b : X) → IsTrue (E a b) ↔ (a ≡ b)
same_exact E R total tie exact a b =
    (λ t. exact a b (is_equal (R a b) (sym (tie a b) ∙ t)), λ e. subst (λ c. E a c ≡ true) e (tie a a ∙ ap is_eq (tied_itself total a)))

-- addresses that are the same are equal
pub same_address_exact : (a b : Address) → IsTrue (same_address a b) ↔ (a ≡ b)
same_address_exact = same_exact same_address address_cmp address_cmp_total addresses_tie exact_addresses

-- blocks that are the same are equal
pub same_block_exact : (a b : Block) → IsTrue (same_block a b) ↔ (a ≡ b)
same_block_exact = same_exact same_block block_cmp block_cmp_total blocks_tie exact_blocks

-- targets that are the same are equal
pub same_target_exact : (a b : Target) → IsTrue (same_target a b) ↔ (a ≡ b)
same_target_exact = same_exact same_target target_cmp target_cmp_total targets_tie exact_targets

-- rules that are the same are equal
pub same_rule_exact : (a b : RuleParts) → IsTrue (same_rule a b) ↔ (a ≡ b)
same_rule_exact = same_exact same_rule rule_cmp rule_cmp_total rules_tie exact_rules

number : (m n : ℕ) → (m == n) ≡ true → m ≡ n
number m n h = grind (arith, nat_tests)

nothing : {X : Type 0} (o : Option X) → is_none o ≡ true → o ≡ None
nothing None h = refl
nothing (Some x) h = cc

slow : (r : LacpRate) → not (is_fast r) ≡ true → r ≡ Slow
slow Slow h = refl
slow Fast h = cc

layer2 : (p : HashPolicy) → is_layer2 p ≡ true → p ≡ Layer2
layer2 Layer2 h = refl
layer2 Layer23 h = absurd cc
layer2 Layer34 h = absurd cc
layer2 Encap23 h = absurd cc
layer2 Encap34 h = absurd cc
layer2 VlanSrcmac h = absurd cc

unset : (b : Bool) → not b ≡ true → b ≡ false
unset false h = refl
unset true h = cc

abbrev bond : Option (List ℕ) → LacpRate → HashPolicy → ℕ → ℕ → ℕ → BondOpts
bond p r h m u d = record { primary = p; lacp_rate = r; hash_policy = h; miimon = m; updelay = u; downdelay = d }

bond_is : (o : BondOpts) → is_default_bond o ≡ true → o ≡ default_bond
bond_is o h5 =
    let h4 = and_left (is_none o.primary && not (is_fast o.lacp_rate) && is_layer2 o.hash_policy && (o.miimon == 0) && (o.updelay == 0)) (o.downdelay == 0) h5 in
    let h3 = and_left (is_none o.primary && not (is_fast o.lacp_rate) && is_layer2 o.hash_policy && (o.miimon == 0)) (o.updelay == 0) h4 in
    let h2 = and_left (is_none o.primary && not (is_fast o.lacp_rate) && is_layer2 o.hash_policy) (o.miimon == 0) h3 in
    let h1 = and_left (is_none o.primary && not (is_fast o.lacp_rate)) (is_layer2 o.hash_policy) h2 in
    ap (λ x. bond x o.lacp_rate o.hash_policy o.miimon o.updelay o.downdelay) (nothing o.primary (and_left (is_none o.primary) (not (is_fast o.lacp_rate)) h1))
    ∙ ap (λ x. bond None x o.hash_policy o.miimon o.updelay o.downdelay) (slow o.lacp_rate (and_right (is_none o.primary) (not (is_fast o.lacp_rate)) h1))
    ∙ ap (λ x. bond None Slow x o.miimon o.updelay o.downdelay) (layer2 o.hash_policy (and_right (is_none o.primary && not (is_fast o.lacp_rate)) (is_layer2 o.hash_policy) h2))
    ∙ ap (λ x. bond None Slow Layer2 x o.updelay o.downdelay) (number o.miimon 0 (and_right (is_none o.primary && not (is_fast o.lacp_rate) && is_layer2 o.hash_policy) (o.miimon == 0) h3))
    ∙ ap (λ x. bond None Slow Layer2 0 x o.downdelay) (number o.updelay 0 (and_right (is_none o.primary && not (is_fast o.lacp_rate) && is_layer2 o.hash_policy && (o.miimon == 0)) (o.updelay == 0) h4))
    ∙ ap (λ x. bond None Slow Layer2 0 0 x) (number o.downdelay 0 (and_right (is_none o.primary && not (is_fast o.lacp_rate) && is_layer2 o.hash_policy && (o.miimon == 0) && (o.updelay == 0)) (o.downdelay == 0) h5))

-- options of a bond that are at their defaults
pub default_bond_exact : (o : BondOpts) → IsTrue (is_default_bond o) ↔ (o ≡ default_bond)
default_bond_exact o = (λ t. bond_is o t, λ e. ap is_default_bond e)

abbrev bridge : Bool → ℕ → ℕ → ℕ → ℕ → ℕ → BridgeOpts
bridge s p f h m a = record { stp = s; priority = p; forward_delay = f; hello_time = h; max_age = m; mac_ageing = a }

bridge_is : (o : BridgeOpts) → is_default_bridge o ≡ true → o ≡ default_bridge
bridge_is o h5 =
    let h4 = and_left (not o.stp && (o.priority == 32768) && (o.forward_delay == 15) && (o.hello_time == 2) && (o.max_age == 20)) (o.mac_ageing == 300) h5 in
    let h3 = and_left (not o.stp && (o.priority == 32768) && (o.forward_delay == 15) && (o.hello_time == 2)) (o.max_age == 20) h4 in
    let h2 = and_left (not o.stp && (o.priority == 32768) && (o.forward_delay == 15)) (o.hello_time == 2) h3 in
    let h1 = and_left (not o.stp && (o.priority == 32768)) (o.forward_delay == 15) h2 in
    ap (λ x. bridge x o.priority o.forward_delay o.hello_time o.max_age o.mac_ageing) (unset o.stp (and_left (not o.stp) (o.priority == 32768) h1))
    ∙ ap (λ x. bridge false x o.forward_delay o.hello_time o.max_age o.mac_ageing) (number o.priority 32768 (and_right (not o.stp) (o.priority == 32768) h1))
    ∙ ap (λ x. bridge false 32768 x o.hello_time o.max_age o.mac_ageing) (number o.forward_delay 15 (and_right (not o.stp && (o.priority == 32768)) (o.forward_delay == 15) h2))
    ∙ ap (λ x. bridge false 32768 15 x o.max_age o.mac_ageing) (number o.hello_time 2 (and_right (not o.stp && (o.priority == 32768) && (o.forward_delay == 15)) (o.hello_time == 2) h3))
    ∙ ap (λ x. bridge false 32768 15 2 x o.mac_ageing) (number o.max_age 20 (and_right (not o.stp && (o.priority == 32768) && (o.forward_delay == 15) && (o.hello_time == 2)) (o.max_age == 20) h4))
    ∙ ap (λ x. bridge false 32768 15 2 20 x) (number o.mac_ageing 300 (and_right (not o.stp && (o.priority == 32768) && (o.forward_delay == 15) && (o.hello_time == 2) && (o.max_age == 20)) (o.mac_ageing == 300) h5))

-- options of a bridge that are at their defaults
pub default_bridge_exact : (o : BridgeOpts) → IsTrue (is_default_bridge o) ↔ (o ≡ default_bridge)
default_bridge_exact o = (λ t. bridge_is o t, λ e. ap is_default_bridge e)

abbrev port : ℕ → ℕ → Bool → PortOpts
port c p h = record { cost = c; priority = p; hairpin = h }

port_is : (o : PortOpts) → is_default_port o ≡ true → o ≡ default_port
port_is o h2 =
    let h1 = and_left ((o.cost == 100) && (o.priority == 32)) (not o.hairpin) h2 in
    ap (λ x. port x o.priority o.hairpin) (number o.cost 100 (and_left (o.cost == 100) (o.priority == 32) h1))
    ∙ ap (λ x. port 100 x o.hairpin) (number o.priority 32 (and_right (o.cost == 100) (o.priority == 32) h1))
    ∙ ap (λ x. port 100 32 x) (unset o.hairpin (and_right ((o.cost == 100) && (o.priority == 32)) (not o.hairpin) h2))

-- options of a port that are at their defaults
pub default_port_exact : (o : PortOpts) → IsTrue (is_default_port o) ↔ (o ≡ default_port)
default_port_exact o = (λ t. port_is o t, λ e. ap is_default_port e)

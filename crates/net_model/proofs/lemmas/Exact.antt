-- What the orders of blocks and rules tie is one.
use Rattle.std.proofs.Common.{◌≡◌, ℕ, Bool, true, false, List, Option, Some, None, Ordering, Less, Equal, Greater, refl, ap, ◌∙◌}
use Rattle.std.specs.Ordering.{nat_cmp, bool_cmp, ordering_then}
use Rattle.std.specs.Option.{option_cmp}
use Rattle.std.proofs.lemmas.Map.Lookups.{exact_unsigned, exact_bytes}
use Rattle.net_model.specs.Address.{Address, Block}
use Rattle.net_model.specs.Rule.{RuleParts}
use Rattle.net_model.specs.Order.{name_cmp, address_cmp, block_cmp, target_cmp, target_rank, target_table, rule_cmp}
use Rattle.net_model.specs.declared.rule.Target.{Target}
use Rattle.net_model.specs.declared.rule.Target.TheVariants.{Table, Blackhole, Unreachable, Prohibit}

first_equal : (r s : Ordering) → ordering_then r s ≡ Equal → r ≡ Equal
first_equal Less s h = cc
first_equal Equal s h = refl
first_equal Greater s h = cc

second_equal : (r s : Ordering) → ordering_then r s ≡ Equal → s ≡ Equal
second_equal Less s h = cc
second_equal Equal s h = h
second_equal Greater s h = cc

exact_bools : (a b : Bool) → bool_cmp a b ≡ Equal → a ≡ b
exact_bools true true h = refl
exact_bools true false h = cc
exact_bools false true h = cc
exact_bools false false h = refl

exact_options : {X : Type 0} (R : X → X → Ordering) → ((x y : X) → R x y ≡ Equal → x ≡ y) → (a b : Option X) → option_cmp R a b ≡ Equal → a ≡ b
exact_options R exact None None h = refl
exact_options R exact None (Some y) h = cc
exact_options R exact (Some x) None h = cc
exact_options R exact (Some x) (Some y) h = ap Some (exact x y h)

-- tied addresses are equal
pub exact_addresses : (a b : Address) → address_cmp a b ≡ Equal → a ≡ b
exact_addresses a b h =
    let family = exact_bools a.v6 b.v6 (first_equal (bool_cmp a.v6 b.v6) (nat_cmp a.bits b.bits) h) in
    let bits = exact_unsigned a.bits b.bits (second_equal (bool_cmp a.v6 b.v6) (nat_cmp a.bits b.bits) h) in
    ap (λ (v : Bool). let x : Address = record { v6 = v; bits = a.bits } in x) family ∙ ap (λ (n : ℕ). let x : Address = record { v6 = b.v6; bits = n } in x) bits

-- tied blocks are equal
pub exact_blocks : (a b : Block) → block_cmp a b ≡ Equal → a ≡ b
exact_blocks a b h =
    let addr = exact_addresses a.addr b.addr (first_equal (address_cmp a.addr b.addr) (nat_cmp a.len b.len) h) in
    let len = exact_unsigned a.len b.len (second_equal (address_cmp a.addr b.addr) (nat_cmp a.len b.len) h) in
    ap (λ (d : Address). let x : Block = record { addr = d; len = a.len } in x) addr ∙ ap (λ (n : ℕ). let x : Block = record { addr = b.addr; len = n } in x) len

exact_ranks : (a b : Target) → target_rank a ≡ target_rank b → target_table a ≡ target_table b → a ≡ b
exact_ranks (Table a) (Table b) h k = ap Table k
exact_ranks (Table a) Blackhole h k = absurd cc
exact_ranks (Table a) Unreachable h k = absurd cc
exact_ranks (Table a) Prohibit h k = absurd cc
exact_ranks Blackhole (Table b) h k = absurd cc
exact_ranks Blackhole Blackhole h k = refl
exact_ranks Blackhole Unreachable h k = absurd cc
exact_ranks Blackhole Prohibit h k = absurd cc
exact_ranks Unreachable (Table b) h k = absurd cc
exact_ranks Unreachable Blackhole h k = absurd cc
exact_ranks Unreachable Unreachable h k = refl
exact_ranks Unreachable Prohibit h k = absurd cc
exact_ranks Prohibit (Table b) h k = absurd cc
exact_ranks Prohibit Blackhole h k = absurd cc
exact_ranks Prohibit Unreachable h k = absurd cc
exact_ranks Prohibit Prohibit h k = refl

-- tied targets are equal
pub exact_targets : (a b : Target) → target_cmp a b ≡ Equal → a ≡ b
exact_targets a b h =
    exact_ranks a b (exact_unsigned (target_rank a) (target_rank b) (first_equal (nat_cmp (target_rank a) (target_rank b)) (nat_cmp (target_table a) (target_table b)) h))
    (exact_unsigned (target_table a) (target_table b) (second_equal (nat_cmp (target_rank a) (target_rank b)) (nat_cmp (target_table a) (target_table b)) h))

abbrev rule_of : ℕ → Bool → Option Block → Option Block → Option (List ℕ) → ℕ → ℕ → Target → RuleParts
rule_of p v s d i m k t = record { priority = p; v6 = v; src = s; dst = d; iif = i; mark = m; mask = k; target = t }

-- tied rules are equal
pub exact_rules : (a b : RuleParts) → rule_cmp a b ≡ Equal → a ≡ b
exact_rules a b h7 =
    let t = second_equal _ (target_cmp a.target b.target) h7 in
    let h6 = first_equal _ (target_cmp a.target b.target) h7 in
    let k = second_equal _ (nat_cmp a.mask b.mask) h6 in
    let h5 = first_equal _ (nat_cmp a.mask b.mask) h6 in
    let m = second_equal _ (nat_cmp a.mark b.mark) h5 in
    let h4 = first_equal _ (nat_cmp a.mark b.mark) h5 in
    let i = second_equal _ (option_cmp name_cmp a.iif b.iif) h4 in
    let h3 = first_equal _ (option_cmp name_cmp a.iif b.iif) h4 in
    let d = second_equal _ (option_cmp block_cmp a.dst b.dst) h3 in
    let h2 = first_equal _ (option_cmp block_cmp a.dst b.dst) h3 in
    let s = second_equal _ (option_cmp block_cmp a.src b.src) h2 in
    let h1 = first_equal _ (option_cmp block_cmp a.src b.src) h2 in
    let v = second_equal _ (bool_cmp a.v6 b.v6) h1 in
    let p = first_equal _ (bool_cmp a.v6 b.v6) h1 in
    ap (λ x. rule_of x a.v6 a.src a.dst a.iif a.mark a.mask a.target) (exact_unsigned a.priority b.priority p)
    ∙ ap (λ x. rule_of b.priority x a.src a.dst a.iif a.mark a.mask a.target) (exact_bools a.v6 b.v6 v)
    ∙ ap (λ x. rule_of b.priority b.v6 x a.dst a.iif a.mark a.mask a.target) (exact_options block_cmp exact_blocks a.src b.src s)
    ∙ ap (λ x. rule_of b.priority b.v6 b.src x a.iif a.mark a.mask a.target) (exact_options block_cmp exact_blocks a.dst b.dst d)
    ∙ ap (λ x. rule_of b.priority b.v6 b.src b.dst x a.mark a.mask a.target) (exact_options name_cmp exact_bytes a.iif b.iif i)
    ∙ ap (λ x. rule_of b.priority b.v6 b.src b.dst b.iif x a.mask a.target) (exact_unsigned a.mark b.mark m)
    ∙ ap (λ x. rule_of b.priority b.v6 b.src b.dst b.iif b.mark x a.target) (exact_unsigned a.mask b.mask k)
    ∙ ap (λ x. rule_of b.priority b.v6 b.src b.dst b.iif b.mark b.mask x) (exact_targets a.target b.target t)

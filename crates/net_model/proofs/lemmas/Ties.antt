-- The tests of validity that say which are one, and the orders that tie them.
use Rattle.std.proofs.Common.{rules, ◌≡◌, Bool, true, false, ◌&&◌, ◌==◌, Option, Some, None, Ordering, Less, Equal, Greater, refl, sym, ap, ◌∙◌}
use Rattle.std.specs.Ordering.{is_lt, is_eq, nat_cmp, bool_cmp, on, ordering_then, ordering_reverse}
use Rattle.std.specs.Option.{option_eq, option_cmp}
use Rattle.std.specs.Cmp.{IsTotalOrder, unsigned_ties, both_tied}
use Rattle.std.specs.Cmp.Rules.{comparing}
use Rattle.std.specs.Cmp.Lexicographic.{texts_ties}
use Rattle.net_model.specs.Words.{bool_eq}
use Rattle.net_model.specs.Name.{same_bytes}
use Rattle.net_model.specs.Address.{Address, Block}
use Rattle.net_model.specs.Rule.{RuleParts}
use Rattle.net_model.specs.Order.{name_cmp, address_cmp, block_cmp, route_cmp, target_cmp, rule_cmp}
use Rattle.net_model.specs.Valid.{same_address, same_block, same_key, same_target, same_rule}
use Rattle.net_model.specs.declared.route.Route.{Route}
use Rattle.net_model.specs.declared.rule.Target.{Target}
use Rattle.net_model.specs.declared.rule.Target.TheVariants.{Table, Blackhole, Unreachable, Prohibit}
use Rattle.net_model.proofs.lemmas.Orders.{address_cmp_total}

bools_tie : (a b : Bool) → bool_eq a b ≡ is_eq (bool_cmp a b)
bools_tie true true = refl
bools_tie true false = refl
bools_tie false true = refl
bools_tie false false = refl

pub addresses_tie : (a b : Address) → same_address a b ≡ is_eq (address_cmp a b)
addresses_tie a b = both_tied (bool_eq a.v6 b.v6) (a.bits == b.bits) (bool_cmp a.v6 b.v6) (nat_cmp a.bits b.bits) (bools_tie a.v6 b.v6) (unsigned_ties a.bits b.bits)

pub blocks_tie : (a b : Block) → same_block a b ≡ is_eq (block_cmp a b)
blocks_tie a b = both_tied (same_address a.addr b.addr) (a.len == b.len) (address_cmp a.addr b.addr) (nat_cmp a.len b.len) (addresses_tie a.addr b.addr) (unsigned_ties a.len b.len)

pub keys_tie : (a b : Route) → same_key a b ≡ is_eq (route_cmp a b)
keys_tie a b =
    both_tied (same_block a.dest b.dest && (a.table == b.table)) (a.metric == b.metric) (ordering_then (block_cmp a.dest b.dest) (nat_cmp a.table b.table)) (nat_cmp a.metric b.metric)
    (both_tied (same_block a.dest b.dest) (a.table == b.table) (block_cmp a.dest b.dest) (nat_cmp a.table b.table) (blocks_tie a.dest b.dest) (unsigned_ties a.table b.table))
    (unsigned_ties a.metric b.metric)

-- targets tie exactly where they are the same
pub targets_tie : (a b : Target) → same_target a b ≡ is_eq (target_cmp a b)
targets_tie (Table a) (Table b) = unsigned_ties a b
targets_tie (Table a) Blackhole = refl
targets_tie (Table a) Unreachable = refl
targets_tie (Table a) Prohibit = refl
targets_tie Blackhole (Table b) = refl
targets_tie Blackhole Blackhole = refl
targets_tie Blackhole Unreachable = refl
targets_tie Blackhole Prohibit = refl
targets_tie Unreachable (Table b) = refl
targets_tie Unreachable Blackhole = refl
targets_tie Unreachable Unreachable = refl
targets_tie Unreachable Prohibit = refl
targets_tie Prohibit (Table b) = refl
targets_tie Prohibit Blackhole = refl
targets_tie Prohibit Unreachable = refl
targets_tie Prohibit Prohibit = refl

options_tie : {X : Type 0} (E : X → X → Bool) (R : X → X → Ordering) → ((x y : X) → E x y ≡ is_eq (R x y)) → (a b : Option X) → option_eq E a b ≡ is_eq (option_cmp R a b)
options_tie E R tie None None = refl
options_tie E R tie None (Some y) = refl
options_tie E R tie (Some x) None = refl
options_tie E R tie (Some x) (Some y) = tie x y

-- the same tests, grouped from the left
and_grouped : (p a b c d e f g : Bool) → (p && (a && b && c && d && e && f && g)) ≡ (p && a && b && c && d && e && f && g)
and_grouped true a b c d e f g = refl
and_grouped false a b c d e f g = refl

pub rules_tie : (a b : RuleParts) → same_rule a b ≡ is_eq (rule_cmp a b)
rules_tie a b =
    and_grouped (a.priority == b.priority) (bool_eq a.v6 b.v6) (option_eq same_block a.src b.src) (option_eq same_block a.dst b.dst) (option_eq same_bytes a.iif b.iif) (a.mark == b.mark) (a.mask == b.mask) (same_target a.target b.target)
    ∙ both_tied _ _ _ _
    (both_tied _ _ _ _
    (both_tied _ _ _ _
    (both_tied _ _ _ _
    (both_tied _ _ _ _
    (both_tied _ _ _ _
    (both_tied _ _ _ _ (unsigned_ties a.priority b.priority) (bools_tie a.v6 b.v6))
    (options_tie same_block block_cmp blocks_tie a.src b.src))
    (options_tie same_block block_cmp blocks_tie a.dst b.dst))
    (options_tie same_bytes name_cmp texts_ties a.iif b.iif))
    (unsigned_ties a.mark b.mark))
    (unsigned_ties a.mask b.mask))
    (targets_tie a.target b.target)

-- blocks by their addresses alone
abbrev pub by_address : Block → Block → Ordering
by_address = on (λ (b : Block). b.addr) address_cmp

pub by_address_total : IsTotalOrder by_address
by_address_total = search (comparing, rules, address_cmp_total)

first_turned : (r s t : Ordering) → r ≡ ordering_reverse s → is_lt (ordering_then r t) ≡ true → is_lt s ≡ false
first_turned r Less t e h = let g : is_lt (ordering_then Greater t) ≡ true = ap (λ q. is_lt (ordering_then q t)) (sym e) ∙ h in cc
first_turned r Equal t e h = refl
first_turned r Greater t e h = refl

-- the address of a later block isn't before that of an earlier one
pub address_not_back : (x y : Block) → is_lt (block_cmp x y) ≡ true → is_lt (by_address y x) ≡ false
address_not_back x y h = first_turned (by_address x y) (by_address y x) (nat_cmp x.len y.len) (by_address_total.antisymm x y) h

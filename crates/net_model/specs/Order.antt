-- The orders of what a network consists of.
use Rattle.std.specs.Prelude.{ℕ, List}
use Rattle.std.specs.declared.cmp.Ordering.{Ordering}
use Rattle.std.specs.Ordering.{nat_cmp, bool_cmp, then_cmp, on}
use Rattle.std.specs.Option.{option_cmp}
use Rattle.std.specs.Cmp.Lexicographic.{slice_cmp}
use Rattle.net_model.specs.Address.{Address, Block}
use Rattle.net_model.specs.Rule.{RuleParts}
use Rattle.net_model.specs.declared.link.Link.{Link}
use Rattle.net_model.specs.declared.route.Route.{Route}
use Rattle.net_model.specs.declared.rule.Target.{Target}
use Rattle.net_model.specs.declared.rule.Target.TheVariants.{Table, Blackhole, Unreachable, Prohibit}

-- by the first order, and where that ties by the second
infixl 10 ◌⨾◌
abbrev pub ◌⨾◌ : {K : Type 0} → (K → K → Ordering) → (K → K → Ordering) → K → K → Ordering
R ⨾ S = then_cmp R S

-- names and domains by their bytes
abbrev pub name_cmp : List ℕ → List ℕ → Ordering
name_cmp = slice_cmp nat_cmp

-- IPv4 first, then by the bits
abbrev pub address_cmp : Address → Address → Ordering
address_cmp = on (λ (a : Address). a.v6) bool_cmp ⨾ on (λ (a : Address). a.bits) nat_cmp

-- by the address, then by the length
abbrev pub block_cmp : Block → Block → Ordering
block_cmp = on (λ (b : Block). b.addr) address_cmp ⨾ on (λ (b : Block). b.len) nat_cmp

-- by name
abbrev pub link_cmp : Link → Link → Ordering
link_cmp = on (λ (l : Link). l.name) name_cmp

-- by destination, table and metric
abbrev pub route_cmp : Route → Route → Ordering
route_cmp = on (λ (r : Route). r.dest) block_cmp ⨾ on (λ (r : Route). r.table) nat_cmp ⨾ on (λ (r : Route). r.metric) nat_cmp

abbrev pub target_rank : Target → ℕ
target_rank (Table table) = 0
target_rank Blackhole = 1
target_rank Unreachable = 2
target_rank Prohibit = 3

abbrev pub target_table : Target → ℕ
target_table (Table table) = table
target_table _ = 0

-- tables first, by their numbers, then the actions
abbrev pub target_cmp : Target → Target → Ordering
target_cmp = on target_rank nat_cmp ⨾ on target_table nat_cmp

-- by all fields in their order, where nothing comes before something
abbrev pub rule_cmp : RuleParts → RuleParts → Ordering
rule_cmp =
    on (λ (r : RuleParts). r.priority) nat_cmp
    ⨾ on (λ (r : RuleParts). r.v6) bool_cmp
    ⨾ on (λ (r : RuleParts). r.src) (option_cmp block_cmp)
    ⨾ on (λ (r : RuleParts). r.dst) (option_cmp block_cmp)
    ⨾ on (λ (r : RuleParts). r.iif) (option_cmp name_cmp)
    ⨾ on (λ (r : RuleParts). r.mark) nat_cmp
    ⨾ on (λ (r : RuleParts). r.mask) nat_cmp
    ⨾ on (λ (r : RuleParts). r.target) target_cmp

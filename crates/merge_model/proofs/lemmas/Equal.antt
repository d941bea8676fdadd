-- Routes and rules that pass as the same are one value.
use Rattle.std.proofs.Common.{◌≡◌, ℕ, ◌==◌, Bool, true, false, ◌&&◌, List, Option, Some, None, Ordering, Less, Equal, Greater, refl, sym, ap, arith, ◌∙◌}
use Rattle.std.specs.Option.{option_eq}
use Rattle.std.specs.Ordering.{is_eq}
use Rattle.std.proofs.lemmas.Bool.Decides.{nat_tests}
use Rattle.net_model.specs.Name.{same_bytes}
use Rattle.net_model.specs.Address.{Address, Block}
use Rattle.net_model.specs.Words.{bool_eq}
use Rattle.net_model.specs.Rule.{RuleParts}
use Rattle.net_model.specs.Order.{block_cmp, rule_cmp}
use Rattle.net_model.specs.Valid.{same_address, same_block, same_rule, same_key}
use Rattle.net_model.specs.declared.Route.{Route}
use Rattle.net_model.proofs.lemmas.Exact.{exact_blocks, exact_rules}
use Rattle.net_model.proofs.lemmas.Ties.{blocks_tie, rules_tie}
use Rattle.net_model.proofs.lemmas.Found.{one_name}
use Rattle.net_model.proofs.lemmas.Truth.{and_left, and_right}
use Rattle.merge_model.specs.Routes.{same_route}

tie_equal : (o : Ordering) → is_eq o ≡ true → o ≡ Equal
tie_equal Less h = absurd cc
tie_equal Equal h = refl
tie_equal Greater h = absurd cc

-- rules that are the same
pub one_rule : (a b : RuleParts) → same_rule a b ≡ true → a ≡ b
one_rule a b h = exact_rules a b (tie_equal (rule_cmp a b) (sym (rules_tie a b) ∙ h))

-- numbers
pub same_of : (a b : ℕ) → (a == b) ≡ true → a ≡ b
same_of a b h = grind (arith, nat_tests)

-- subnets
pub one_block : (a b : Block) → same_block a b ≡ true → a ≡ b
one_block a b h = exact_blocks a b (tie_equal (block_cmp a b) (sym (blocks_tie a b) ∙ h))

same_bit : (a b : Bool) → bool_eq a b ≡ true → a ≡ b
same_bit true true h = refl
same_bit true false h = absurd cc
same_bit false true h = absurd cc
same_bit false false h = refl

one_address : (a b : Address) → same_address a b ≡ true → a ≡ b
one_address a b h =
    ap (λ (v : Bool). let x : Address = record { v6 = v; bits = a.bits } in x) (same_bit a.v6 b.v6 (and_left (bool_eq a.v6 b.v6) (a.bits == b.bits) h))
    ∙ ap (λ (n : ℕ). let x : Address = record { v6 = b.v6; bits = n } in x) (same_of a.bits b.bits (and_right (bool_eq a.v6 b.v6) (a.bits == b.bits) h))

one_gateway : (a b : Option Address) → option_eq same_address a b ≡ true → a ≡ b
one_gateway None None h = refl
one_gateway None (Some y) h = absurd cc
one_gateway (Some x) None h = absurd cc
one_gateway (Some x) (Some y) h = ap Some (one_address x y h)

abbrev route_of : Block → ℕ → ℕ → Option Address → List ℕ → Route
route_of dest table metric gateway dev = record { dest = dest; table = table; metric = metric; gateway = gateway; dev = dev }

-- routes that are the same
pub one_route : (a b : Route) → same_route a b ≡ true → a ≡ b
one_route a b h =
    let front = and_left (same_key a b && option_eq same_address a.gateway b.gateway) (same_bytes a.dev b.dev) h in
    let key = and_left (same_key a b) (option_eq same_address a.gateway b.gateway) front in
    let place = and_left (same_block a.dest b.dest && (a.table == b.table)) (a.metric == b.metric) key in
    ap (λ (x : Block). route_of x a.table a.metric a.gateway a.dev) (one_block a.dest b.dest (and_left (same_block a.dest b.dest) (a.table == b.table) place))
    ∙ ap (λ (x : ℕ). route_of b.dest x a.metric a.gateway a.dev) (same_of a.table b.table (and_right (same_block a.dest b.dest) (a.table == b.table) place))
    ∙ ap (λ (x : ℕ). route_of b.dest b.table x a.gateway a.dev) (same_of a.metric b.metric (and_right (same_block a.dest b.dest && (a.table == b.table)) (a.metric == b.metric) key))
    ∙ ap (λ (x : Option Address). route_of b.dest b.table b.metric x a.dev) (one_gateway a.gateway b.gateway (and_right (same_key a b) (option_eq same_address a.gateway b.gateway) front))
    ∙ ap (λ (x : List ℕ). route_of b.dest b.table b.metric b.gateway x) (one_name a.dev b.dev (and_right (same_key a b && option_eq same_address a.gateway b.gateway) (same_bytes a.dev b.dev) h))

-- Rules, routes and addresses that pass as the same are equal.
use Rattle.std.proofs.Common.{◌≡◌, ℕ, ◌==◌, true, false, not, ◌&&◌, List, [], ◌∷◌, Option, Some, None, refl, sym, ap, arith, ◌∙◌}
use Rattle.std.specs.Option.{option_eq}
use Rattle.std.specs.List.{list_any}
use Rattle.std.proofs.lemmas.Bool.Decides.{nat_tests}
use Rattle.net_model.specs.Name.{same_bytes}
use Rattle.net_model.specs.Words.{apart}
use Rattle.net_model.specs.Address.{Address, Block}
use Rattle.net_model.specs.Rule.{RuleParts}
use Rattle.net_model.specs.Valid.{same_address, same_block, same_rule, same_key, addresses_differ}
use Rattle.net_model.specs.declared.route.Route.{Route}
use Rattle.net_model.proofs.lemmas.Same.{same_address_exact, same_block_exact, same_rule_exact}
use Rattle.net_model.proofs.lemmas.Found.{one_name, itself}
use Rattle.net_model.proofs.lemmas.Truth.{and_left, and_right, and_both, not_true}
use Rattle.net_model.specs.Edits.{same_route}
use Rattle.plan_core.proofs.Places.{none_less}

number : (a b : ℕ) → (a == b) ≡ true → a ≡ b
number a b h = grind (arith, nat_tests)

number_itself : (a : ℕ) → (a == a) ≡ true
number_itself a = grind (arith, nat_tests)

-- what passes as the same is equal, and each passes as itself
pub one_rule : (a b : RuleParts) → same_rule a b ≡ true → a ≡ b
one_rule a b h = (same_rule_exact a b).0 h

pub rule_itself : (a : RuleParts) → same_rule a a ≡ true
rule_itself a = (same_rule_exact a a).1 refl

pub one_block : (a b : Block) → same_block a b ≡ true → a ≡ b
one_block a b h = (same_block_exact a b).0 h

pub block_itself : (a : Block) → same_block a a ≡ true
block_itself a = (same_block_exact a a).1 refl

pub one_address : (a b : Address) → same_address a b ≡ true → a ≡ b
one_address a b h = (same_address_exact a b).0 h

pub address_itself : (a : Address) → same_address a a ≡ true
address_itself a = (same_address_exact a a).1 refl

one_gateway : (a b : Option Address) → option_eq same_address a b ≡ true → a ≡ b
one_gateway None None h = refl
one_gateway None (Some y) h = absurd cc
one_gateway (Some x) None h = absurd cc
one_gateway (Some x) (Some y) h = ap Some (one_address x y h)

gateway_itself : (a : Option Address) → option_eq same_address a a ≡ true
gateway_itself None = refl
gateway_itself (Some x) = address_itself x

-- the parts of a key
pub record OneKey (a b : Route) : Type 0 where
  pub dest : a.dest ≡ b.dest
  pub table : a.table ≡ b.table
  pub metric : a.metric ≡ b.metric

pub one_key : (a b : Route) → same_key a b ≡ true → OneKey a b
one_key a b h =
    let place = and_left (same_block a.dest b.dest && (a.table == b.table)) (a.metric == b.metric) h in
    record {
      dest = one_block a.dest b.dest (and_left (same_block a.dest b.dest) (a.table == b.table) place);
      table = number a.table b.table (and_right (same_block a.dest b.dest) (a.table == b.table) place);
      metric = number a.metric b.metric (and_right (same_block a.dest b.dest && (a.table == b.table)) (a.metric == b.metric) h);
    }

pub key_of_one : (a b : Route) → OneKey a b → same_key a b ≡ true
key_of_one a b k = rw (k.dest, k.table, k.metric, block_itself b.dest, number_itself b.table, number_itself b.metric) refl

pub key_itself : (a : Route) → same_key a a ≡ true
key_itself a = rw (block_itself a.dest, number_itself a.table, number_itself a.metric) refl

pub key_both : (a b : Route) → same_key a b ≡ true → same_key b a ≡ true
key_both a b h = let k = one_key a b h in key_of_one b a (record { dest = sym k.dest; table = sym k.table; metric = sym k.metric })

pub key_of_both : (r a b : Route) → same_key r a ≡ true → same_key r b ≡ true → same_key a b ≡ true
key_of_both r a b h k =
    let x = one_key r a h in
    let y = one_key r b k in
    key_of_one a b (record { dest = sym x.dest ∙ y.dest; table = sym x.table ∙ y.table; metric = sym x.metric ∙ y.metric })

abbrev route_of : Block → ℕ → ℕ → Option Address → List ℕ → Route
route_of dest table metric gateway dev = record { dest = dest; table = table; metric = metric; gateway = gateway; dev = dev }

pub one_route : (a b : Route) → same_route a b ≡ true → a ≡ b
one_route a b h =
    let front = and_left (same_key a b && option_eq same_address a.gateway b.gateway) (same_bytes a.dev b.dev) h in
    let k = one_key a b (and_left (same_key a b) (option_eq same_address a.gateway b.gateway) front) in
    ap (λ (x : Block). route_of x a.table a.metric a.gateway a.dev) k.dest
    ∙ ap (λ (x : ℕ). route_of b.dest x a.metric a.gateway a.dev) k.table
    ∙ ap (λ (x : ℕ). route_of b.dest b.table x a.gateway a.dev) k.metric
    ∙ ap (λ (x : Option Address). route_of b.dest b.table b.metric x a.dev) (one_gateway a.gateway b.gateway (and_right (same_key a b) (option_eq same_address a.gateway b.gateway) front))
    ∙ ap (λ (x : List ℕ). route_of b.dest b.table b.metric b.gateway x) (one_name a.dev b.dev (and_right (same_key a b && option_eq same_address a.gateway b.gateway) (same_bytes a.dev b.dev) h))

pub route_itself : (a : Route) → same_route a a ≡ true
route_itself a = rw (key_itself a, gateway_itself a.gateway, itself a.dev) refl

-- what passes as the same has the same key
pub route_key : (a b : Route) → same_route a b ≡ true → same_key a b ≡ true
route_key a b h = and_left (same_key a b) (option_eq same_address a.gateway b.gateway) (and_left (same_key a b && option_eq same_address a.gateway b.gateway) (same_bytes a.dev b.dev) h)

pub block_key : (a b : Block) → same_block a b ≡ true → same_address a.addr b.addr ≡ true
block_key a b h = and_left (same_address a.addr b.addr) (a.len == b.len) h

pub address_both : (a b : Address) → same_address a b ≡ true → same_address b a ≡ true
address_both a b h = ap (λ x. same_address x a) (sym (one_address a b h)) ∙ address_itself a

-- sameness goes both ways and further
pub rule_both : (a b : RuleParts) → same_rule a b ≡ true → same_rule b a ≡ true
rule_both a b h = ap (λ x. same_rule x a) (sym (one_rule a b h)) ∙ rule_itself a

pub rule_of_both : (r a b : RuleParts) → same_rule r a ≡ true → same_rule r b ≡ true → same_rule a b ≡ true
rule_of_both r a b h k = ap (λ x. same_rule x b) (sym (one_rule r a h)) ∙ k

pub block_both : (a b : Block) → same_block a b ≡ true → same_block b a ≡ true
block_both a b h = ap (λ x. same_block x a) (sym (one_block a b h)) ∙ block_itself a

pub block_of_both : (r a b : Block) → same_block r a ≡ true → same_block r b ≡ true → same_block a b ≡ true
block_of_both r a b h k = ap (λ x. same_block x b) (sym (one_block r a h)) ∙ k

-- where no address stands twice no block does
pub block_once : (xs : List Block) → addresses_differ xs ≡ true → apart same_block xs ≡ true
block_once [] h = refl
block_once (x ∷ xs) h =
    let none : list_any (λ (b : Block). same_address x.addr b.addr) xs ≡ false = not_true (list_any (λ (b : Block). same_address x.addr b.addr) xs) (and_left (not (list_any (λ (b : Block). same_address x.addr b.addr) xs)) (addresses_differ xs) h) in
    and_both (not (list_any (same_block x) xs)) (apart same_block xs) (ap not (none_less (same_block x) (λ (b : Block). same_address x.addr b.addr) (block_key x) xs none)) (block_once xs (and_right (not (list_any (λ (b : Block). same_address x.addr b.addr) xs)) (addresses_differ xs) h))

-- Lists in order in which the same is found are equal.
use Rattle.std.specs.Prelude.{◌≡◌, ℕ, true, List, find}
use Rattle.net_model.specs.Address.{Block}
use Rattle.net_model.specs.Rule.{RuleParts}
use Rattle.net_model.specs.Words.{rises}
use Rattle.net_model.specs.Order.{block_cmp, link_cmp, route_cmp, rule_cmp}
use Rattle.net_model.specs.Links.{find_link}
use Rattle.net_model.specs.Valid.{same_block, same_key, same_rule}
use Rattle.net_model.specs.declared.link.Link.{Link}
use Rattle.net_model.specs.declared.route.Route.{Route}

abbrev pub SameLinks : Type 0
SameLinks = (a b : List Link) → rises link_cmp a ≡ true → rises link_cmp b ≡ true → ((name : List ℕ) → find_link name a ≡ find_link name b) → a ≡ b

abbrev pub SameAddresses : Type 0
SameAddresses = (a b : List Block) → rises block_cmp a ≡ true → rises block_cmp b ≡ true → ((block : Block) → find (same_block block) a ≡ find (same_block block) b) → a ≡ b

abbrev pub SameRoutes : Type 0
SameRoutes = (a b : List Route) → rises route_cmp a ≡ true → rises route_cmp b ≡ true → ((route : Route) → find (same_key route) a ≡ find (same_key route) b) → a ≡ b

abbrev pub SameRules : Type 0
SameRules = (a b : List RuleParts) → rises rule_cmp a ≡ true → rises rule_cmp b ≡ true → ((rule : RuleParts) → find (same_rule rule) a ≡ find (same_rule rule) b) → a ≡ b

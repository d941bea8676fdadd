-- How many calls a plan may have.
use Rattle.std.proofs.Common.{◌≡◌, ◌≤◌, ◌<◌, ◌^◌, ℕ, List, length, arith}
use Rattle.std.specs.Prelude.{not}
use Rattle.std.proofs.lemmas.List.Sums.{length-filter, count_by-le-length}
use Rattle.net_model.specs.Facts.{Facts}
use Rattle.net_model.specs.NetData.{NetData}
use Rattle.net_model.specs.declared.Call.{Call}
use Rattle.net_model.specs.declared.Link.{Link}
use Rattle.kernel_model.specs.Words.{has_link}
use Rattle.plan_model.specs.Plans.{most_calls, IsPlan}

-- their number fits 32 bits
pub few_calls : (from to : NetData) (calls : List Call) → Facts from → Facts to → IsPlan from to calls → length calls < 2 ^ 32
few_calls from to calls a b plan =
    omega (
      arith,
      plan.short,
      a.few_links,
      b.few_links,
      a.few_addresses,
      b.few_addresses,
      a.few_routes,
      b.few_routes,
      a.few_rules,
      b.few_rules,
      length-filter (λ (l : Link). not (has_link l.name from.links)) to.links,
      count_by-le-length (λ (l : Link). not (has_link l.name from.links)) to.links,
    )

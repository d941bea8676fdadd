use Rattle.std.proofs.Common.{◌≡◌, ◌≤◌, ◌*◌, ◌^◌, take}
use Rattle.scenario_model.specs.Counts.{metric_sum}
use Rattle.scenario.proofs.counts.metric_sum.Given as goal

abbrev pub invariant-loop-route : goal.invariant-loop-route
invariant-loop-route l = (l.sum ≡ metric_sum (take l.route-index l.routes)) × (l.sum ≤ l.route-index * 2 ^ 32)

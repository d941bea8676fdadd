use Rattle.std.proofs.Common.{◌≡◌, ◌≤◌, ◌*◌, ◌^◌, take}
use Rattle.scenario_model.specs.Counts.{id_sum}
use Rattle.scenario.proofs.counts.id_sum.Given as goal

abbrev pub invariant-loop-link : goal.invariant-loop-link
invariant-loop-link l = (l.sum ≡ id_sum (take l.link-index l.links)) × (l.sum ≤ l.link-index * 2 ^ 16)

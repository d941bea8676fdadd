use Rattle.std.proofs.Common.{◌≡◌, ◌*◌}
use Rattle.scenario_model.specs.Draws.{draw, devices}
use Rattle.scenario_trees.proofs.devices.devices.Given as goal

-- two draws were made for each device so far
abbrev pub invariant-loop-before : goal.invariant-loop-before
invariant-loop-before l = (l.made.items ≡ devices l.seed l.before) × (l.last ≡ draw l.seed (2 * l.before))

use Rattle.std.proofs.Common.{◌≡◌, ◌≤◌, ◌+◌, length}
use Rattle.top_model.specs.Lines.{lines_of, steps_from, steps_of}
use Rattle.order_reading.specs.Steps.{seen}
use Rattle.order_reading.proofs.Parts.{steps_before}
use Rattle.order_reading.proofs.script.steps_of.Given as goal

abbrev pub invariant-loop-rest : goal.invariant-loop-rest
invariant-loop-rest l = record {
  number : l.number + length l.rest ≤ 1 + length l.bytes;
  so_far : steps_before (seen l.steps) (steps_from l.past l.number (lines_of l.rest)) ≡ steps_of l.bytes;
}

abbrev pub decreases-loop-rest : goal.decreases-loop-rest
decreases-loop-rest l = length l.rest

use Rattle.std.proofs.Common.{◌≡◌, reverse}
use Rattle.yaml_read.specs.Flow.{flow}
use Rattle.yaml_read.specs.Brackets.{end_of, inside}
use Rattle.yaml_read.proofs.brackets.flow_end.Given as goal

abbrev pub invariant-loop-turn : goal.invariant-loop-turn
invariant-loop-turn l = inside l.repeats (reverse l.stack.items) l.rest ≡ end_of (flow l.repeats l.levels l.text)

use Rattle.std.proofs.Common.{◌≡◌, length}
use Rattle.yaml_plain.specs.Bytes.{skip_spaces}
use Rattle.yaml_plain.proofs.bytes.skip_spaces.Given as goal

abbrev pub decreases-loop-rest : goal.decreases-loop-rest
decreases-loop-rest l = length l.rest

abbrev pub invariant-loop-rest : goal.invariant-loop-rest
invariant-loop-rest l = skip_spaces l.rest ≡ skip_spaces l.text

use Rattle.std.proofs.Common.{◌≡◌, ◌+◌, drop}
use Rattle.yaml_plain.specs.Bytes.{leading_spaces}
use Rattle.yaml_plain.proofs.bytes.leading_spaces.Given as goal

abbrev pub invariant-loop-b : goal.invariant-loop-b
invariant-loop-b l = record { counted : l.count ≡ l.b-index; rest : l.count + leading_spaces (drop l.b-index l.text) ≡ leading_spaces l.text }

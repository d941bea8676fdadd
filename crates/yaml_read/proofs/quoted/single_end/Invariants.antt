use Rattle.std.proofs.Common.{◌≡◌, false, drop}
use Rattle.std.specs.Prelude.{option_map}
use Rattle.yaml_read.specs.Quoted.{single_quoted}
use Rattle.yaml_read.proofs.quoted.single_end.Given as goal

abbrev pub invariant-loop-i : goal.invariant-loop-i
invariant-loop-i l = option_map (λ p. p.1) (single_quoted l.pending (drop l.i l.text)) ≡ option_map (λ p. p.1) (single_quoted false l.text)

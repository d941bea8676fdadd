use Rattle.std.proofs.Common.{◌≡◌, false, drop}
use Rattle.std.specs.Prelude.{option_map}
use Rattle.yaml_read.specs.Quoted.{single_quoted}
use Rattle.yaml_plain.proofs.lemmas.Parts.{behind}
use Rattle.yaml_read.proofs.quoted.single_quoted.Given as goal

-- the scalar so far, in front of what is still read
abbrev pub invariant-loop-i : goal.invariant-loop-i
invariant-loop-i l = option_map (behind l.scalar.items) (single_quoted l.pending (drop l.i l.text)) ≡ single_quoted false l.text

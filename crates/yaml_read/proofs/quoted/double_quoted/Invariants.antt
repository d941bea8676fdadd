use Rattle.std.proofs.Common.{◌≡◌, false, take, drop}
use Rattle.std.specs.Prelude.{option_map}
use Rattle.yaml_read.specs.Quoted.{double_quoted}
use Rattle.yaml_plain.proofs.lemmas.Parts.{behind}
use Rattle.yaml_read.proofs.quoted.double_quoted.Given as goal

abbrev pub invariant-loop-i : goal.invariant-loop-i
invariant-loop-i l = option_map (behind (take l.i l.text)) (double_quoted l.escaped (drop l.i l.text)) ≡ double_quoted false l.text

use Rattle.std.proofs.Common.{◌≡◌, false, take, drop}
use Rattle.yaml_plain.specs.Plain.{plain_split}
use Rattle.yaml_plain.proofs.lemmas.Parts.{behind}
use Rattle.yaml_plain.proofs.plain.plain_split.Given as goal

abbrev pub invariant-loop-i : goal.invariant-loop-i
invariant-loop-i l = behind (take l.i l.text) (plain_split l.style l.spaced (drop l.i l.text)) ≡ plain_split l.style false l.text

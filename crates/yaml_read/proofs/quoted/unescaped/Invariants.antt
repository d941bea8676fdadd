use Rattle.std.proofs.Common.{◌≡◌, ◌-◌, ◌++◌, length}
use Rattle.std.specs.Prelude.{option_map}
use Rattle.yaml_read.specs.Quoted.{unescaped_within}
use Rattle.yaml_read.proofs.quoted.unescaped.Given as goal

abbrev pub invariant-loop-turn : goal.invariant-loop-turn
invariant-loop-turn l =
    option_map (λ more. l.scalar.items ++ more) (unescaped_within (length l.text - l._turn) l.rest) ≡ unescaped_within (length l.text) l.text

use Rattle.std.proofs.Common.{◌≡◌, ◌++◌, string_bytes, flat_map}
use Rattle.yaml_text.specs.Scalars.{doubled}
use Rattle.yaml_text.specs.Spelled.{spelled}
use Rattle.yaml_text.proofs.scalars.append_doubled.Given as goal

abbrev pub invariant-loop-c : goal.invariant-loop-c
invariant-loop-c l = string_bytes l.out ≡ string_bytes l.fn.out ++ flat_map (spelled doubled) l.yielded

use Rattle.std.proofs.Common.{◌≡◌, ◌≤◌, length, take}
use Rattle.yaml_plain.specs.Bytes.{trim_end}
use Rattle.yaml_plain.proofs.bytes.trim_end.Given as goal

abbrev pub decreases-loop-end : goal.decreases-loop-end
decreases-loop-end l = l.end

abbrev pub invariant-loop-end : goal.invariant-loop-end
invariant-loop-end l = record { within : l.end ≤ length l.text; same : trim_end (take l.end l.text) ≡ trim_end l.text }

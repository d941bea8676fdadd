use Rattle.std.proofs.Common.{◌≡◌, length}
use Rattle.yaml_read.specs.Outside.{has_tab}
use Rattle.yaml_read.proofs.outside.has_tab.Given as goal

abbrev pub decreases-loop-rest : goal.decreases-loop-rest
decreases-loop-rest l = length l.rest

abbrev pub invariant-loop-rest : goal.invariant-loop-rest
invariant-loop-rest l = has_tab l.rest ≡ has_tab l.line

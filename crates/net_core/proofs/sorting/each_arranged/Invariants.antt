use Rattle.std.proofs.Common.{◌≡◌, map}
use Rattle.net_model.specs.NetData.{arranged}
use Rattle.net_core.proofs.sorting.each_arranged.Given as goal

-- those so far are done
abbrev pub invariant-loop-link : goal.invariant-loop-link
invariant-loop-link l = l.done.items ≡ map arranged l.yielded

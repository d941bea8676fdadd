use Rattle.std.proofs.Common.{◌≤◌, ◌+◌, length}
use Rattle.reach.specs.Reach.{unmarked}
use Rattle.reach.specs.Following.{Works}
use Rattle.reach.proofs.follow.Given as goal

-- the arrows so far are followed
abbrev pub invariant-loop-target : goal.invariant-loop-target
invariant-loop-target l = record {
  works : Works l.arrows l.starts l.marks l.left.items l.place l.target-index;
  no_more : unmarked l.marks + length l.left.items ≤ unmarked l.initial.marks + length l.initial.left.items;
}

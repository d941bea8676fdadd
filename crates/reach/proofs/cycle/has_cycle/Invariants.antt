use Rattle.std.proofs.Common.{◌≡◌, ◌<◌, ℕ, true}
use Rattle.reach.specs.Reach.{is_marked}
use Rattle.reach.specs.Walk.{Rests}
use Rattle.reach.proofs.cycle.has_cycle.Given as goal

-- nothing is on the stack, and the places so far are entered
abbrev pub invariant-loop-place : goal.invariant-loop-place
invariant-loop-place l = record {
  rests : Rests l.arrows l.walk;
  there : (k : ℕ) → k < l.place → is_marked l.walk.entered.items k ≡ true;
}

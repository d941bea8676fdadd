use Rattle.reach.specs.Reach.{Within, is_marked}
use Rattle.reach.specs.Walk.{AtWork, steps_left}
use Rattle.reach.proofs.cycle.Walk.follow.Given as goal

-- the walk goes on, and what was entered stays so
abbrev pub invariant-loop-top : goal.invariant-loop-top
invariant-loop-top l = record {
  walks : AtWork l.arrows l.self;
  kept : Within (is_marked l.initial.self.entered.items) (is_marked l.self.entered.items);
}

abbrev pub decreases-loop-top : goal.decreases-loop-top
decreases-loop-top l = steps_left l.arrows l.self

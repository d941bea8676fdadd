use Rattle.std.specs.Prelude.{◌≢◌}
use Rattle.rollout_model.specs.Next.{next}
use Rattle.rollout_model.specs.declared.node.Action.TheVariants.{Finish}
use Rattle.rollout_core.specs.Did.{events_of}
use Rattle.rollout_run.proofs.Rolling.{finish_tells}
use Rattle.rollout_run.proofs.roll.advance.Goals as goal

pub returns : goal.returns
returns g c =
    let core = c.args.core.now in
    let told = c.rollout_step-told.result in
    let some : next core ≢ Finish = λ is. c.is_over.ensures.going c.if-is_over.false (finish_tells (next core) (events_of told) c.rollout_step-told.ensures.carries is) in
    record {
      now = c.now-now.result;
      events = events_of told;
      some = some;
      did = c.rollout_step-told.ensures.did;
      carries = c.rollout_step-told.ensures.carries;
      core_is = c.rollout_step-told.ensures.core;
      many = c.rollout_step-told.ensures.hosts;
      less = c.rollout_step-told.ensures.falls some;
      gave = c.now-now.ensures;
      halted_by = c.first_halting-ended.ensures;
      prints = c.print_events-ended.ensures;
    }

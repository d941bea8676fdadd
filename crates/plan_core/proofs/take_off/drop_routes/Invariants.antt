use Rattle.std.proofs.Common.{◌-◌, length}
use Rattle.net_model.specs.Edits.{same_route}
use Rattle.link_planner.specs.Drafts.{DraftData}
use Rattle.plan_core.specs.Parts.{RouteFits}
use Rattle.plan_core.specs.Steps.{TakesOff}
use Rattle.plan_core.proofs.Stepping.{OfLast}
use Rattle.plan_core.proofs.take_off.drop_routes.Given as goal

abbrev pub invariant-loop-at : goal.invariant-loop-at
invariant-loop-at l = TakesOff (length l.initial.draft.start.routes - l.at) (OfLast same_route (λ (e : DraftData). RouteFits e.target e.net) (λ (e : DraftData). e.start.routes) l.at) l.initial.draft l.draft

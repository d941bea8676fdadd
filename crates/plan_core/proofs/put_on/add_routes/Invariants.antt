use Rattle.net_model.specs.Edits.{same_route}
use Rattle.link_planner.specs.Drafts.{DraftData}
use Rattle.plan_core.specs.Parts.{HasRoute}
use Rattle.plan_core.specs.Steps.{PutsOn}
use Rattle.plan_core.proofs.Stepping.{OfFirst}
use Rattle.plan_core.proofs.put_on.add_routes.Given as goal

abbrev pub invariant-loop-route : goal.invariant-loop-route
invariant-loop-route l = PutsOn l.route-index (OfFirst same_route (λ (e : DraftData). HasRoute e.net) (λ (e : DraftData). e.target.routes) l.route-index) l.initial.draft l.draft

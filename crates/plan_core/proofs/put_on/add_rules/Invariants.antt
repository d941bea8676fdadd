use Rattle.net_model.specs.Valid.{same_rule}
use Rattle.link_planner.specs.Drafts.{DraftData}
use Rattle.plan_core.specs.Parts.{HasRule}
use Rattle.plan_core.specs.Steps.{PutsOn}
use Rattle.plan_core.proofs.Stepping.{OfFirst}
use Rattle.plan_core.proofs.put_on.add_rules.Given as goal

abbrev pub invariant-loop-rule : goal.invariant-loop-rule
invariant-loop-rule l = PutsOn l.rule-index (OfFirst same_rule (λ (e : DraftData). HasRule e.net) (λ (e : DraftData). e.target.rules) l.rule-index) l.initial.draft l.draft

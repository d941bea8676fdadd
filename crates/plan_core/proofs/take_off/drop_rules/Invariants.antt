use Rattle.std.proofs.Common.{◌-◌, length}
use Rattle.net_model.specs.Valid.{same_rule}
use Rattle.link_planner.specs.Drafts.{DraftData}
use Rattle.plan_core.specs.Parts.{RuleFits}
use Rattle.plan_core.specs.Steps.{TakesOff}
use Rattle.plan_core.proofs.Stepping.{OfLast}
use Rattle.plan_core.proofs.take_off.drop_rules.Given as goal

abbrev pub invariant-loop-at : goal.invariant-loop-at
invariant-loop-at l = TakesOff (length l.initial.draft.start.rules - l.at) (OfLast same_rule (λ (e : DraftData). RuleFits e.target e.net) (λ (e : DraftData). e.start.rules) l.at) l.initial.draft l.draft

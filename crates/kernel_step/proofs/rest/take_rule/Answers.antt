use Rattle.std.proofs.Common.{◌≡◌, ◌∙◌, List, not, filter, remove, subst}
use Rattle.net_model.specs.Rule.{RuleParts}
use Rattle.net_model.specs.Valid.{same_rule}
use Rattle.net_lists.proofs.lemmas.RouteLists.{none_removed}
use Rattle.kernel_step.proofs.rest.take_rule.Goals as goal

pub returns-in-At : goal.returns-in-At
returns-in-At c =
    let rule : RuleParts = c.args.rule.now in
    c.remove.ensures.items
    ∙ subst (λ (rs : List RuleParts). remove rs c.in-At.i ≡ filter (λ r. not (same_rule rule r)) rs) c.deref.ensures.value
    (c.in-At.ensures.removes (same_rule rule) (λ r h. h) c.in-At.ensures.same)

pub returns-in-Gap : goal.returns-in-Gap
returns-in-Gap c =
    let rule : RuleParts = c.args.rule.now in
    subst (λ (rs : List RuleParts). rs ≡ filter (λ r. not (same_rule rule r)) rs) c.deref.ensures.value
    (none_removed (same_rule rule) c.deref.result.now c.in-Gap.ensures.none)

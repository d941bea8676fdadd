use Rattle.std.proofs.Common.{arith, rules, ◌≡◌, ◌<◌, ◌≤◌, List, length, get_or, sym, ap, subst, ◌∙◌}
use Rattle.net_model.specs.Lists.{NetData}
use Rattle.net_model.specs.Rule.{RuleParts}
use Rattle.net_model.specs.Valid.{same_rule}
use Rattle.link_planner.specs.Drafts.{DraftData}
use Rattle.plan_core.specs.Parts.{HasRule}
use Rattle.plan_core.proofs.Exact.{one_rule, rule_itself}
use Rattle.plan_core.proofs.Places.{item_there}
use Rattle.plan_core.proofs.Stepping.{OfFirst, no_call_on, on_safe, next_on, all_on}
use Rattle.plan_core.proofs.put_on.add_rules.Goals as goal

pub loop-rule-init : goal.loop-rule-init
loop-rule-init c = no_call_on (OfFirst same_rule (λ (e : DraftData). HasRule e.net) (λ (e : DraftData). e.target.rules) 0) c.args.draft.now c.requires (λ y among. absurd cc)

pub add_some-requires : goal.add_some-requires
add_some-requires c = on_safe (λ e. (λ (e : DraftData). HasRule e.net) e c.rule-item.result) c.loop-rule.draft c.rule_on-call.result c.rule_on-call.ensures

pub loop-rule-preserved : goal.loop-rule-preserved
loop-rule-preserved c =
    let list : c.deref-rule-items.result.now ≡ c.args.draft.now.target.rules = search rules in
    let before : c.loop-rule.rule-index < length c.deref-rule-items.result.now = omega arith in
    rw c.in_ok-add_some.ensures (next_on same_rule one_rule rule_itself (λ (e : DraftData). HasRule e.net) (λ (e : DraftData). e.target.rules) (λ m a b advances. ap (λ (n : NetData). n.rules) advances.target) (λ a b advances part y h. part.rules y h) c.args.draft.now c.loop-rule.draft c.loop-rule.rule-index c.rule-item.result (subst (λ (xs : List RuleParts). c.loop-rule.rule-index < length xs) list before) (c.rule-item.is ∙ ap (λ (xs : List RuleParts). get_or xs c.loop-rule.rule-index c.rule-item.result) list) c.loop-rule.invariant c.rule_on-call.result c.rule_on-call.ensures)

pub returns : goal.returns
returns c =
    let list : c.deref-rule-items.result.now ≡ c.args.draft.now.target.rules = search rules in
    all_on same_rule one_rule rule_itself (λ (e : DraftData). HasRule e.net) (λ (e : DraftData). e.target.rules) (λ m a b advances. ap (λ (n : NetData). n.rules) advances.target) c.args.draft.now c.loop-rule.draft c.loop-rule.rule-index (subst (λ (xs : List RuleParts). length xs ≤ c.loop-rule.rule-index) list c.loop-rule-test.false) (subst (λ (xs : List RuleParts). c.loop-rule.rule-index ≤ length xs) list (omega arith)) c.loop-rule.invariant

pub rule_on-call-requires-clause-there : goal.rule_on-call-requires-clause-there
rule_on-call-requires-clause-there c =
    let list : c.deref-rule-items.result.now ≡ c.args.draft.now.target.rules = search rules in
    let before : c.loop-rule.rule-index < length c.deref-rule-items.result.now = omega arith in
    subst (λ t. HasRule t c.rule-item.result) (sym c.loop-rule.invariant.advances.target) (item_there same_rule rule_itself c.args.draft.now.target.rules c.loop-rule.rule-index c.rule-item.result (subst (λ (xs : List RuleParts). c.loop-rule.rule-index < length xs) list before) (c.rule-item.is ∙ ap (λ (xs : List RuleParts). get_or xs c.loop-rule.rule-index c.rule-item.result) list))

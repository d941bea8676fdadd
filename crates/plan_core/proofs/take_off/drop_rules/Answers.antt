use Rattle.std.proofs.Common.{arith, rules, ◌≡◌, ◌+◌, ◌-◌, ◌<◌, length, get_or, sym, ap, subst}
use Rattle.net_model.specs.Lists.{NetData}
use Rattle.net_model.specs.Valid.{same_rule}
use Rattle.link_planner.specs.Drafts.{DraftData}
use Rattle.plan_core.specs.Parts.{HasRule, RuleFits}
use Rattle.plan_core.specs.Steps.{TakesOff}
use Rattle.plan_core.proofs.Exact.{one_rule, rule_itself}
use Rattle.plan_core.proofs.Stepping.{OfLast, before_off}
use Rattle.plan_core.proofs.take_off.drop_rules.Goals as goal

pub loop-at-preserved : goal.loop-at-preserved
loop-at-preserved c =
    let up : c.loop-at.at ≡ (c.loop-at.at - 1) + 1 = omega arith in
    let count : c.len-at.result ≡ length c.args.draft.now.start.rules = search rules in
    let within : c.loop-at.at - 1 < length c.args.draft.now.start.rules = omega (arith, count) in
    let is : c.index.result.now ≡ get_or c.args.draft.now.start.rules (c.loop-at.at - 1) c.index.result.now = search rules in
    rw c.in_ok-add_some.ensures (before_off same_rule one_rule rule_itself (λ (e : DraftData). RuleFits e.target e.net) (λ (e : DraftData). e.start.rules) (λ m a b advances. ap (λ (n : NetData). n.rules) advances.start) (λ a b advances part y h has. subst (λ t. HasRule t y) (sym advances.target) (h (part.rules y has)))
    c.args.draft.now c.loop-at.draft (c.loop-at.at - 1) c.index.result.now within is
    (subst (λ k. TakesOff (length c.args.draft.now.start.rules - k) (OfLast same_rule (λ (e : DraftData). RuleFits e.target e.net) (λ (e : DraftData). e.start.rules) k) c.args.draft.now c.loop-at.draft) up c.loop-at.invariant) c.rule_off-call.result c.rule_off-call.ensures)

use Rattle.std.proofs.Common.{rules, ◌≡◌, false}
use Rattle.std.specs.List.{list_any}
use Rattle.net_model.specs.Valid.{same_rule}
use Rattle.plan_core.specs.Parts.{HasRule}
use Rattle.plan_core.proofs.Dropping.{rule_taking}
use Rattle.plan_core.proofs.take_off.rule_off.Goals as goal

pub returns-then-not-has_rule : goal.returns-then-not-has_rule
returns-then-not-has_rule c =
    let has : HasRule c.args.draft.now.net c.args.rule.now = search rules in
    let off : list_any (same_rule c.args.rule.now) c.args.draft.now.target.rules ≡ false = search rules in
    rule_taking c.args.draft.now c.laws.ensures c.args.rule.now has off

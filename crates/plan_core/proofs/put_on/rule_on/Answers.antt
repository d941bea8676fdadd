use Rattle.std.proofs.Common.{rules, ◌≡◌, false}
use Rattle.std.specs.List.{list_any}
use Rattle.net_model.specs.Valid.{same_rule}
use Rattle.plan_core.proofs.Adding.{rule_putting}
use Rattle.plan_core.proofs.put_on.rule_on.Goals as goal

pub returns-else-has_rule : goal.returns-else-has_rule
returns-else-has_rule c =
    let off : list_any (same_rule c.args.rule.now) c.args.draft.now.net.rules ≡ false = search rules in
    rule_putting c.args.draft.now c.laws.ensures c.requires.within c.args.rule.now c.requires.there off

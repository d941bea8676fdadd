use Rattle.std.proofs.Common.{◌&&◌, List, ap, ◌∙◌}
use Rattle.std.specs.List.{list_any}
use Rattle.std.specs.BTreeSet.{contains}
use Rattle.document_model.specs.declared.RuleEntry.{RuleEntry}
use Rattle.merge_model.specs.RuleNumbers.{rule_matches}
use Rattle.route_merge.specs.declared.absent_rules.StatedRule.{StatedRule}
use Rattle.route_merge.specs.AbsentRules.{stated_cmp, narrowed}
use Rattle.route_merge.proofs.AbsentRules.{found}
use Rattle.route_merge.proofs.absent_rules.AbsentRules.has.Goals as goal

pub returns : goal.returns
returns c =
    let in_it = c.self.inside in
    let r = c.args.rule.now in
    c.matches_any.ensures
    ∙ ap (λ (shapes : List StatedRule). list_any (λ s. contains stated_cmp in_it.stated (narrowed s r)) shapes) c.deref.ensures.value
    ∙ found in_it.shapes.items in_it.stated in_it.entries.now r c.self.invariant.0 c.self.invariant.1
    ∙ ap (λ (es : List RuleEntry). list_any (λ e. e.absent && rule_matches e r) es) c.self.view_is

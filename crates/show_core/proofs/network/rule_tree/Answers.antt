use Rattle.std.proofs.Common.{refl, subst}
use Rattle.net_model.specs.Rule.{RuleParts}
use Rattle.show_core.specs.Pairs.{IsTree}
use Rattle.show_core.specs.Network.{rule_tree}
use Rattle.show_core.proofs.network.rule_tree.Goals as goal

pub returns : goal.returns
returns c =
    let priority = c.put_number.ensures _ _ c.new.ensures refl in
    let family = c.put_word.ensures _ _ priority c.family_word.ensures in
    let src = c.put_some_subnet.ensures _ family in
    let dst = c.put_some_subnet-2.ensures _ src in
    let iif = c.put_some_name-pairs.ensures _ dst in
    let mark = c.put_mark-pairs.ensures _ iif in
    let target = c.put_target.ensures _ mark in
    subst (λ (r : RuleParts). IsTree (rule_tree r) c.into_tree.result) c.rule.view_is (c.into_tree.ensures _ target)

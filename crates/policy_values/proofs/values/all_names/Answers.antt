use Rattle.policy_values.specs.Tables.{names}
use Rattle.policy_lang.proofs.lemmas.Walks.{row_on}
use Rattle.policy_values.proofs.values.all_names.Goals as goal

pub loop-capture-preserved : goal.loop-capture-preserved
loop-capture-preserved c =
    row_on names c.args.captures.now c.loop-capture.capture-index c.loop-capture.all.items c.loop-capture.invariant c.capture-item.result _ c.in_ok-names.field-0
    c.loop-capture-test.true c.capture-item.is c.in_ok-names.ensures c.in_ok-push.ensures.items

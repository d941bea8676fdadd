use Rattle.std.proofs.Common.{◌∙◌, ap}
use Rattle.policy_values.specs.Tables.{found_in, have_values, seen}
use Rattle.policy_lang.proofs.lemmas.Walks.{row_on}
use Rattle.policy_values.proofs.values.are_ready.Goals as goal

pub loop-these-preserved : goal.loop-these-preserved
loop-these-preserved c =
    let ready = have_values (found_in c.args.captures.now (seen c.args.table.now)) in
    row_on ready c.args.names.now c.loop-these.these-index c.loop-these.ready.items c.loop-these.invariant c.these-item.result _ c.have_values.result
    c.loop-these-test.true c.these-item.is (c.have_values.ensures ∙ ap ready (c.deref.ensures.value ∙ c.items.ensures)) c.in_ok-push.ensures.items

use Rattle.policy_model.specs.Policies.{capture_site}
use Rattle.policy_lang.proofs.lemmas.Walks.{row_on}
use Rattle.policy_lang.proofs.Walks.{rows_all}
use Rattle.policy_lang.proofs.sites.capture_sites.Goals as goal

pub loop-capture-preserved : goal.loop-capture-preserved
loop-capture-preserved c =
    row_on capture_site c.args.captures.now c.loop-capture.capture-index c.loop-capture.sites.items c.loop-capture.invariant c.capture-item.result _ c.in_ok-capture_site.field-0
    c.loop-capture-test.true c.capture-item.is c.in_ok-capture_site.ensures c.in_ok-push.ensures.items

pub returns : goal.returns
returns c = rows_all capture_site c.args.captures.now c.loop-capture.capture-index c.loop-capture.sites.items c.loop-capture.invariant c.loop-capture-test.false

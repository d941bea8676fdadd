use Rattle.std.proofs.Common.{◌∙◌}
use Rattle.reach.specs.Positions.{positions}
use Rattle.policy_model.specs.Policies.{names_capture}
use Rattle.policy_lang.proofs.lemmas.Walks.{row_on}
use Rattle.policy_lang.proofs.Walks.{rows_all}
use Rattle.policy_lang.proofs.cycles.arrows.Goals as goal

pub loop-capture-preserved : goal.loop-capture-preserved
loop-capture-preserved c =
    row_on (λ d. positions (names_capture d) 0 c.args.captures.now) c.args.captures.now c.loop-capture.capture-index c.loop-capture.arrows.items c.loop-capture.invariant c.capture-item.result _ c.of.result
    c.loop-capture-test.true c.capture-item.is (c.of.ensures ∙ c.in_ok-places.ensures) c.in_ok-push.ensures.items

pub returns : goal.returns
returns c = rows_all (λ d. positions (names_capture d) 0 c.args.captures.now) c.args.captures.now c.loop-capture.capture-index c.loop-capture.arrows.items c.loop-capture.invariant c.loop-capture-test.false

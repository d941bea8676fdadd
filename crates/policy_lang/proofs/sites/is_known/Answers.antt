use Rattle.std.proofs.Common.{◌∙◌, ◌||◌, List, sym, ap}
use Rattle.policy_model.specs.Policies.{is_known}
use Rattle.policy_model.specs.declared.Capture.{Capture}
use Rattle.policy_lang.proofs.lemmas.Walks.{passed, settles, all_passed}
use Rattle.policy_lang.proofs.sites.is_known.Goals as goal

pub loop-capture-preserved : goal.loop-capture-preserved
loop-capture-preserved c =
    let among : List Capture → _ = λ cs. is_known cs c.args.name.now in
    passed among c.args.captures.now c.loop-capture.capture-index _ c.loop-capture.invariant among c.capture-item.result c.loop-capture-test.true c.capture-item.is (λ rest. ap (λ b. b || among rest) (sym c.if-has_name.false ∙ c.has_name.ensures))

pub returns-then-has_name : goal.returns-then-has_name
returns-then-has_name c =
    let among : List Capture → _ = λ cs. is_known cs c.args.name.now in
    settles among c.args.captures.now c.loop-capture.capture-index _ c.loop-capture.invariant _ c.capture-item.result c.loop-capture-test.true c.capture-item.is (λ rest. ap (λ b. b || among rest) (sym c.if-has_name.true ∙ c.has_name.ensures))

pub returns : goal.returns
returns c = all_passed (λ (cs : List Capture). is_known cs c.args.name.now) c.args.captures.now c.loop-capture.capture-index _ c.loop-capture.invariant c.loop-capture-test.false

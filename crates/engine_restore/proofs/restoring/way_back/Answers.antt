use Rattle.std.proofs.Common.{◌≡◌, ◌∙◌, sym, rules}
use Rattle.net_model.specs.Hardware.{hardware}
use Rattle.engine_model.proofs.lemmas.OtherDevices.{same_devices}
use Rattle.engine_restore.proofs.restoring.way_back.Goals as goal

pub returns-in-Ok : goal.returns-in-Ok
returns-in-Ok c = (
  c.in-Ok.ensures,
  λ none.
      let wrong = c.if-not-same_hardware.ensures.1 (sym (same_devices c.args.saved.now c.args.found.now c.laws-2.ensures.net c.laws.ensures.net (c.in-Ok.ensures ∙ none))) in
      search (rules, wrong),
)

pub returns-in-Err : goal.returns-in-Err
returns-in-Err c = tt

pub returns-in-Ok-plan : goal.returns-in-Ok-plan
returns-in-Ok-plan c =
    let same : hardware c.args.found.now.links ≡ hardware c.args.saved.now.links = search (rules, c.if-not-same_hardware.ensures.0) in
    (c.laws.ensures.net, sym same, c.in-Ok-plan.ensures)

pub returns-in-Err-plan : goal.returns-in-Err-plan
returns-in-Err-plan c = tt

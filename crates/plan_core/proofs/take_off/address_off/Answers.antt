use Rattle.std.proofs.Common.{rules, ◌≡◌, false}
use Rattle.plan_model.specs.Wants.{has_address}
use Rattle.plan_core.specs.Parts.{HasAddress}
use Rattle.plan_core.proofs.Dropping.{address_taking}
use Rattle.plan_core.proofs.take_off.address_off.Goals as goal

pub returns-then-not-has_address : goal.returns-then-not-has_address
returns-then-not-has_address c =
    let has : HasAddress c.args.draft.now.net c.args.name.now c.args.addr.now = search rules in
    let off : has_address c.args.draft.now.target c.args.name.now c.args.addr.now ≡ false = search rules in
    address_taking c.args.draft.now c.laws.ensures c.args.name.now c.args.addr.now has off

use Rattle.std.proofs.Common.{rules, ◌≡◌, false}
use Rattle.plan_model.specs.Wants.{has_address}
use Rattle.plan_core.proofs.AddingAddress.{address_putting}
use Rattle.plan_core.proofs.put_on.address_on.Goals as goal

pub returns-else-has_address : goal.returns-else-has_address
returns-else-has_address c =
    let off : has_address c.args.draft.now.net c.args.name.now c.args.addr.now ≡ false = search rules in
    address_putting c.args.draft.now c.laws.ensures c.requires.within c.args.name.now c.args.addr.now c.requires.there off

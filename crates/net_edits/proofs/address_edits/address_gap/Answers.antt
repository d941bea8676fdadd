use Rattle.std.proofs.Common.{◌≡◌, ◌∙◌, true, false, sym}
use Rattle.net_model.specs.Valid.{same_block}
use Rattle.net_model.proofs.lemmas.Places.{any_at}
use Rattle.net_edits.proofs.address_edits.address_gap.Goals as goal

pub returns-in-At-clause-puts : goal.returns-in-At-clause-puts
returns-in-At-clause-puts c =
    let wrong : true ≡ false = sym (any_at (same_block c.args.addr.now) c.args.addrs.now c.in-At.field-0 c.args.addr.now c.in-At.ensures.inside (c.in-At.ensures.same c.args.addr.now)) ∙ c.requires.new in
    absurd cc

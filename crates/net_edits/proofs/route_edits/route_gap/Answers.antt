use Rattle.std.proofs.Common.{◌≡◌, ◌∙◌, true, false, sym}
use Rattle.net_model.specs.Valid.{same_key}
use Rattle.net_model.proofs.lemmas.Places.{any_at}
use Rattle.net_edits.proofs.route_edits.route_gap.Goals as goal

pub returns-in-At-clause-puts : goal.returns-in-At-clause-puts
returns-in-At-clause-puts c =
    let wrong : true ≡ false = sym (any_at (same_key c.args.route.now) c.args.routes.now c.in-At.field-0 c.args.route.now c.in-At.ensures.inside (c.in-At.ensures.same c.args.route.now)) ∙ c.requires.new in
    absurd cc

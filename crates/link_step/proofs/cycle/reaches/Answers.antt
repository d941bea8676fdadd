use Rattle.std.proofs.Common.{◌≡◌, ◌∙◌, ℕ, List, false, ap, arith}
use Rattle.reach.proofs.lemmas.Marks.{any_default}
use Rattle.net_model.proofs.lemmas.Found.{names_differ-rises}
use Rattle.link_step.proofs.Walking.{marked_reaches}
use Rattle.link_step.proofs.cycle.reaches.Goals as goal

pub returns : goal.returns
returns c = λ d.
    let a = c.in_ok-marks.ensures.dependents d in
    c.index.ensures
    ∙ any_default c.in_ok-marks.marks.items c.args.port c.index.result.now false (omega (arith, a.long, c.requires.port))
    ∙ marked_reaches c.args.net.now.links d (names_differ-rises c.args.net.now.links c.laws.ensures.net.in_order.links) c.args.at c.requires.inside c.in_ok-marks.marks.items a c.args.port c.requires.port c.requires.other

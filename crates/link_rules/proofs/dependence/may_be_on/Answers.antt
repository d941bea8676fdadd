use Rattle.std.proofs.Common.{◌≡◌, true, sym, ◌∙◌, rules}
use Rattle.link_rules.proofs.Candidates.{off_by, holds}
use Rattle.link_rules.proofs.dependence.may_be_on.Goals as goal

pub returns-else-not-good : goal.returns-else-not-good
returns-else-not-good c = λ h.
    let good : c.args.good ≡ true = search rules in
    off_by c.args.arrows.now c.args.numbers.now c.args.at (c.requires.good good) (sym c.falls.ensures ∙ holds c.falls.result h)

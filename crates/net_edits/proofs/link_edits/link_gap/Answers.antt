use Rattle.std.proofs.Common.{◌∙◌, sym, refl}
use Rattle.net_edits.proofs.link_edits.link_gap.Goals as goal

pub returns-in-At-clause-puts : goal.returns-in-At-clause-puts
returns-in-At-clause-puts c =
    let wrong = sym (c.in-At.ensures.found c.args.link.now) ∙ c.requires.new in
    absurd cc

pub returns-in-Gap-clause-puts : goal.returns-in-Gap-clause-puts
returns-in-Gap-clause-puts c = c.in-Gap.ensures.puts c.args.link.now refl

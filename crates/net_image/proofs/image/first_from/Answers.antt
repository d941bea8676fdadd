use Rattle.std.proofs.Common.{◌∙◌, sym, subst}
use Rattle.net_image.specs.Reading.{Gives}
use Rattle.net_image.proofs.Coding.{not_first, is_first}
use Rattle.net_image.proofs.image.first_from.Goals as goal

pub returns-then-not-fits_first : goal.returns-then-not-fits_first
returns-then-not-fits_first c = not_first c.args.parts (sym c.fits_first.ensures ∙ c.if-not-fits_first.true)

pub returns : goal.returns
returns c = subst (Gives (λ net. net) c.net_from.result) (sym (is_first c.args.parts (sym c.fits_first.ensures ∙ c.if-not-fits_first.false))) c.net_from.ensures

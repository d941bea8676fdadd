use Rattle.std.proofs.Common.{◌++◌, sym, ap, ◌∙◌}
use Rattle.std.specs.Option.{option_to_list}
use Rattle.link_members.proofs.Raised.{no_more}
use Rattle.link_members.proofs.lifted.add.Goals as goal

pub returns-in-None : goal.returns-in-None
returns-in-None c = no_more c.args.places.now.items ∙ ap (λ o. c.args.places.now.items ++ option_to_list o) (sym c.in-None.is)

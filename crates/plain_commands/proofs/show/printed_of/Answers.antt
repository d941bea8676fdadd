use Rattle.std.proofs.Common.{◌∙◌, ap, refl, ℕ, List, Option}
use Rattle.top_model.specs.Said.{printed, shown}
use Rattle.plain_commands.proofs.show.printed_of.Goals as goal

pub returns-in-Ok : goal.returns-in-Ok
returns-in-Ok c = (printed c.args.only.now c.args.json c.args.net.now, refl, c.in-Ok.ensures ∙ ap (λ (only : Option (List ℕ)). shown only c.args.json c.args.net.now) c.name_of.ensures)

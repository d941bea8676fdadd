use Rattle.std.specs.Prelude.{Ok}
use Rattle.top_model.specs.Said.{printed}
use Rattle.command_laws.proofs.lemmas.Looks.{looks_fault, looks_text}
use Rattle.plain_commands.proofs.show.printed.Goals as goal

pub returns-in-Ok-clause-text : goal.returns-in-Ok-clause-text
returns-in-Ok-clause-text g c =
    looks_text g.H.Host.tells g.H.Host.honest (λ net. Ok (printed c.args.only.now c.args.json net)) (g.H.Host.told c.args.host.now) (g.H.Host.told c.look.new.host) c.in-Ok.net c.printed_of.result c.in-Ok.ensures.finds c.printed_of.ensures

pub returns-in-Err-clause-text : goal.returns-in-Err-clause-text
returns-in-Err-clause-text g c =
    looks_fault g.H.Host.tells g.H.Host.honest (λ net. Ok (printed c.args.only.now c.args.json net)) (g.H.Host.told c.args.host.now) (g.H.Host.told c.look.new.host) c.in-Err.cause c.in-Err.ensures.finds

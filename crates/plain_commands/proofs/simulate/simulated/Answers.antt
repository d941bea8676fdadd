use Rattle.top_model.specs.Machine.{print_simulated, simulated}
use Rattle.command_laws.proofs.lemmas.Looks.{looks_fault, looks_text}
use Rattle.plain_commands.proofs.simulate.simulated.Goals as goal

pub returns-in-Ok-clause-text : goal.returns-in-Ok-clause-text
returns-in-Ok-clause-text g c =
    looks_text g.H.Host.tells g.H.Host.honest (λ net. print_simulated (simulated 1 c.args.calls.now net)) (g.H.Host.told c.args.host.now) (g.H.Host.told c.look.new.host) c.in-Ok.net c.simulated_of.result c.in-Ok.ensures.finds c.simulated_of.ensures

pub returns-in-Err-clause-text : goal.returns-in-Err-clause-text
returns-in-Err-clause-text g c =
    looks_fault g.H.Host.tells g.H.Host.honest (λ net. print_simulated (simulated 1 c.args.calls.now net)) (g.H.Host.told c.args.host.now) (g.H.Host.told c.look.new.host) c.in-Err.cause c.in-Err.ensures.finds

use Rattle.command_laws.proofs.lemmas.Simulates.{text_to, text_not}
use Rattle.plain_commands.proofs.simulate.simulated_of.Goals as goal

pub returns-in-Ok : goal.returns-in-Ok
returns-in-Ok c = text_to c.args.calls.now c.args.net c.in-Ok.net c.printed_of.result c.in-Ok.ensures c.printed_of.ensures

pub returns-in-Err : goal.returns-in-Err
returns-in-Err c = text_not c.args.calls.now c.args.net c.in-Err.cause c.in-Err.ensures

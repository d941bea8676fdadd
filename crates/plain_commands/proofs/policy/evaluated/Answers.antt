use Rattle.policy_lang.specs.Held.{data_of}
use Rattle.top_model.specs.Machine.{say_value}
use Rattle.top_model.specs.Orders.{value_on}
use Rattle.command_laws.proofs.lemmas.Looks.{looks_fault, looks_text}
use Rattle.plain_commands.proofs.policy.evaluated.Goals as goal

pub returns-in-Ok-clause-text : goal.returns-in-Ok-clause-text
returns-in-Ok-clause-text g c =
    looks_text g.H.Host.tells g.H.Host.honest (λ net. say_value (value_on (data_of c.args.policy.now) net)) (g.H.Host.told c.args.host.now) (g.H.Host.told c.look.new.host) c.in-Ok.net c.value_text.result c.in-Ok.ensures.finds c.value_text.ensures

pub returns-in-Err-clause-text : goal.returns-in-Err-clause-text
returns-in-Err-clause-text g c =
    looks_fault g.H.Host.tells g.H.Host.honest (λ net. say_value (value_on (data_of c.args.policy.now) net)) (g.H.Host.told c.args.host.now) (g.H.Host.told c.look.new.host) c.in-Err.cause c.in-Err.ensures.finds

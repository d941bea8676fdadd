use Rattle.std.proofs.Common.{arith}
use Rattle.std.proofs.lemmas.Bool.Decides.{nat_tests}
use Rattle.policy_values.proofs.Items.{number_read, number_large}
use Rattle.policy_values.proofs.leading.number.Goals as goal

pub returns-in-Ok : goal.returns-in-Ok
returns-in-Ok c = number_read c.args.key.now c.from_str_radix.result c.in-Ok.number c.in-Ok.is c.requires c.from_str_radix.ensures.value

pub returns-in-Err : goal.returns-in-Err
returns-in-Err c = number_large c.args.key.now c.from_str_radix.result c.in-Err.field-0 c.in-Err.is (grind (arith, nat_tests)) c.requires c.from_str_radix.ensures.value

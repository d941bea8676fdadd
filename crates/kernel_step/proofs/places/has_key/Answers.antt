use Rattle.std.proofs.Common.{sym}
use Rattle.net_model.specs.Order.{route_cmp}
use Rattle.net_model.specs.Valid.{same_key}
use Rattle.kernel_step.proofs.Searching.{met_any, missed_any, key_tie}
use Rattle.kernel_step.proofs.places.has_key.Goals as goal

pub returns-in-Ok : goal.returns-in-Ok
returns-in-Ok c = sym (met_any route_cmp same_key key_tie c.args.route.now c.args.routes.now c.in-Ok.field-0 c.in-Ok.ensures)

pub returns-in-Err : goal.returns-in-Err
returns-in-Err c = sym (missed_any route_cmp same_key key_tie c.args.route.now c.args.routes.now c.in-Err.field-0 c.in-Err.ensures)

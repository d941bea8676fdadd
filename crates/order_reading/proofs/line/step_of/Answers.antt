use Rattle.order_reading.proofs.Parts.{step_line, no_step}
use Rattle.order_reading.proofs.line.step_of.Goals as goal

pub returns-in-Ok : goal.returns-in-Ok
returns-in-Ok c =
    let timed = rw c.in-Ok.ensures.cases.0 at c.timed.ensures in
    rw (step_line c.args.line.now c.in-Ok.ensures.cases.1) timed

pub returns-in-Err : goal.returns-in-Err
returns-in-Err c = no_step c.args.line.now c.in-Err.ensures.cases.0

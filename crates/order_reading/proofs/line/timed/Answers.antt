use Rattle.order_reading.specs.Steps.{words_seen}
use Rattle.order_reading.proofs.Parts.{step_there}
use Rattle.order_reading.proofs.line.timed.Goals as goal

pub returns-in-Some-2 : goal.returns-in-Some-2
returns-in-Some-2 c =
    let words = rw c.in-Some-2.is at c.in_ok-words.ensures in
    step_there c.args.line.now c.in-Some.moment.now c.in-Some.rest.now c.in-Some-moment_of.at (words_seen c.in-Some-2.words) c.in-Some.ensures.0 c.in-Some-moment_of.ensures words

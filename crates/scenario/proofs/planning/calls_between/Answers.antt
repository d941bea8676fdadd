use Rattle.std.proofs.Common.{◌<◌, ◌^◌, length, arith}
use Rattle.scenario.proofs.Lengths.{few_calls}
use Rattle.scenario.proofs.planning.calls_between.Goals as goal

pub overflow_cast-result : goal.overflow_cast-result
overflow_cast-result c =
    let few : length c.in_ok-calls.calls.items < 2 ^ 32 = few_calls c.args.from.now c.args.to.now c.in_ok-calls.calls.items c.laws.ensures.facts c.laws-2.ensures.facts c.in_ok-calls.ensures in
    omega (arith, few, c.len.ensures, c.in_ok-calls.calls.ok)

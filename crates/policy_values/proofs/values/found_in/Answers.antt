use Rattle.std.proofs.Common.{◌∙◌, sym}
use Rattle.policy_values.proofs.Known.{found_on}
use Rattle.policy_values.proofs.values.found_in.Goals as goal

pub loop-i-preserved : goal.loop-i-preserved
loop-i-preserved c =
    found_on c.args.captures.now c.args.table.now c.args.name.now c.loop-i.i c.index-captures-i.result _ c.loop-i-test.true c.requires c.index-captures-i.is (sym c.has_name.ensures ∙ c.if-has_name.false) c.loop-i.invariant

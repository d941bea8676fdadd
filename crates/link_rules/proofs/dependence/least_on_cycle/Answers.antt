use Rattle.std.proofs.Common.{◌≡◌, true, rules}
use Rattle.net_model.specs.Dependence.{no_cycle}
use Rattle.link_rules.proofs.NoCycle.{none_least}
use Rattle.link_rules.proofs.dependence.least_on_cycle.Goals as goal

pub returns : goal.returns
returns c =
    let none : no_cycle c.args.merged.now ≡ true = search rules in
    none_least c.args.merged.now none

use Rattle.std.proofs.Common.{◌≡◌, ◌∙◌, IfOk, rules, ap}
use Rattle.std.proofs.lemmas.Result.{IfOk-weaker}
use Rattle.net_model.specs.Words.{rises}
use Rattle.net_model.specs.Order.{name_cmp}
use Rattle.link_planner.proofs.Taking.{names_rise}
use Rattle.link_planner.proofs.deletions.in_order.Goals as goal

pub returns-clause-rise : goal.returns-clause-rise
returns-clause-rise c =
    let all : IfOk c.collect.result (λ list. list.items ≡ c.args.names.now.keys) = search rules in
    IfOk-weaker c.collect.result _ _ (λ list is. ap (rises name_cmp) is ∙ names_rise c.args.names.now.keys c.iter.ensures.ordered) all

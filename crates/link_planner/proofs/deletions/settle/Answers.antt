use Rattle.std.proofs.Common.{◌∙◌, sym, ap, subst}
use Rattle.std.proofs.lemmas.Result.{on_ok_weaker}
use Rattle.net_model.specs.Words.{rises}
use Rattle.net_model.specs.Order.{name_cmp}
use Rattle.link_planner.specs.Drafts.{Holds}
use Rattle.link_planner.proofs.Noted.{noted_as}
use Rattle.link_planner.proofs.deletions.settle.Goals as goal

pub take_out-requires-clause-names : goal.take_out-requires-clause-names
take_out-requires-clause-names c = ap (rises name_cmp) c.deref.ensures.value ∙ c.in_ok-names.ensures.rise

pub take_out-requires-clause-holds : goal.take_out-requires-clause-holds
take_out-requires-clause-holds c = subst Holds (sym (noted_as c.args.deletions.now c.args.draft.now c.deref.result.now (c.deref.ensures.value ∙ c.in_ok-names.ensures.all))) c.requires

pub returns-clause-settled : goal.returns-clause-settled
returns-clause-settled c =
    let all = noted_as c.args.deletions.now c.args.draft.now c.deref.result.now (c.deref.ensures.value ∙ c.in_ok-names.ensures.all) in
    on_ok_weaker c.take_out.result (λ made. made ∙ all) c.take_out.ensures.made

pub returns-clause-none : goal.returns-clause-none
returns-clause-none c = on_ok_weaker c.take_out.result (λ moved. record { names = c.clear.ensures.empty; calls = moved }) c.take_out.ensures.moved

use Rattle.std.proofs.Common.{◌∙◌, ap}
use Rattle.net_model.specs.Words.{rises}
use Rattle.net_model.specs.Order.{name_cmp, link_cmp}
use Rattle.net_model.specs.Lists.{NetData}
use Rattle.net_model.specs.OfName.{over}
use Rattle.net_lists.proofs.lemmas.LinkLists.{over_rise}
use Rattle.net_core.proofs.parts.Parts.over.Goals as goal

pub returns-clause-sorted : goal.returns-clause-sorted
returns-clause-sorted c = λ up.
    ap (rises name_cmp) (c.at.ensures ∙ c.self.invariant.lists.over c.args.base.now) ∙ over_rise c.self.inside.links.items c.args.base.now (ap (λ (n : NetData). rises link_cmp n.links) c.self.view_is ∙ up)

pub returns-clause-names : goal.returns-clause-names
returns-clause-names c = c.at.ensures ∙ c.self.invariant.lists.over c.args.base.now ∙ ap (λ (n : NetData). over n.links c.args.base.now) c.self.view_is

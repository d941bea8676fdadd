use Rattle.std.proofs.Common.{◌∙◌, ap}
use Rattle.net_model.specs.Words.{rises}
use Rattle.net_model.specs.Order.{name_cmp, link_cmp}
use Rattle.net_model.specs.Lists.{NetData}
use Rattle.net_model.specs.Links.{ports_of}
use Rattle.net_lists.proofs.lemmas.LinkLists.{ports_rise}
use Rattle.net_core.proofs.parts.Parts.ports_of.Goals as goal

pub returns-clause-sorted : goal.returns-clause-sorted
returns-clause-sorted c = λ up.
    ap (rises name_cmp) (c.at.ensures ∙ c.self.invariant.lists.ports c.args.controller.now) ∙ ports_rise c.self.inside.links.items c.args.controller.now (ap (λ (n : NetData). rises link_cmp n.links) c.self.view_is ∙ up)

pub returns-clause-names : goal.returns-clause-names
returns-clause-names c = c.at.ensures ∙ c.self.invariant.lists.ports c.args.controller.now ∙ ap (λ (n : NetData). ports_of n.links c.args.controller.now) c.self.view_is

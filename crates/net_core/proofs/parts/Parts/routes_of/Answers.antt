use Rattle.std.proofs.Common.{◌∙◌, ap}
use Rattle.net_model.specs.Words.{rises}
use Rattle.net_model.specs.Order.{route_cmp}
use Rattle.net_model.specs.Lists.{NetData}
use Rattle.net_model.specs.OfName.{routes_of}
use Rattle.net_model.specs.KeyOrder.{key_cmp}
use Rattle.net_lists.proofs.lemmas.RouteLists.{routes_rise}
use Rattle.net_core.proofs.parts.Parts.routes_of.Goals as goal

pub returns-clause-sorted : goal.returns-clause-sorted
returns-clause-sorted c = λ up.
    ap (rises key_cmp) (c.at.ensures ∙ c.self.invariant.lists.by_dev c.args.dev.now) ∙ routes_rise c.self.inside.routes.items c.args.dev.now (ap (λ (n : NetData). rises route_cmp n.routes) c.self.view_is ∙ up)

pub returns-clause-keys : goal.returns-clause-keys
returns-clause-keys c = c.at.ensures ∙ c.self.invariant.lists.by_dev c.args.dev.now ∙ ap (λ (n : NetData). routes_of n.routes c.args.dev.now) c.self.view_is

use Rattle.std.proofs.Common.{sym, ap, ◌∙◌, subst, IsSorted}
use Rattle.net_model.specs.Lists.{NetData}
use Rattle.net_model.specs.Order.{route_cmp, rule_cmp}
use Rattle.net_core.proofs.valid.least_broken_after_cycles.Goals as goal

pub routes_stand-requires-clause-routes : goal.routes_stand-requires-clause-routes
routes_stand-requires-clause-routes c = subst (IsSorted route_cmp) (ap (λ (n : NetData). n.routes) (sym c.parts.view_is) ∙ sym c.deref-6.ensures.value) c.requires.sorted.routes

pub rules_differ-requires : goal.rules_differ-requires
rules_differ-requires c = subst (IsSorted rule_cmp) (ap (λ (n : NetData). n.rules) (sym c.parts.view_is) ∙ sym c.deref-7.ensures.value) c.requires.sorted.rules

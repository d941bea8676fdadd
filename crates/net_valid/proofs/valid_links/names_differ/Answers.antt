use Rattle.std.proofs.Common.{sym, ◌∙◌}
use Rattle.net_model.specs.Order.{link_cmp}
use Rattle.net_model.specs.Links.{same_name}
use Rattle.net_model.proofs.lemmas.Orders.{link_cmp_total}
use Rattle.net_model.proofs.lemmas.Rises.{apart-steps, rises-steps}
use Rattle.net_model.proofs.lemmas.Found.{names_tie}
use Rattle.net_valid.proofs.valid_links.names_differ.Goals as goal

pub returns-clause-differ : goal.returns-clause-differ
returns-clause-differ c = c.links_in_order.ensures ∙ sym (rises-steps link_cmp link_cmp_total c.args.links.now) ∙ sym (apart-steps same_name link_cmp link_cmp_total names_tie c.args.links.now c.requires)

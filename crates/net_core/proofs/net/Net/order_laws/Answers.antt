use Rattle.net_model.proofs.lemmas.Ordered.{any_order, in_order}
use Rattle.net_model.proofs.lemmas.InOrder.{least_broken-rearranged, is_net_exact}
use Rattle.net_core.proofs.net.Net.order_laws.Goals as goal

pub returns-clause-any_order : goal.returns-clause-any_order
returns-clause-any_order c = any_order

pub returns-clause-in_order : goal.returns-clause-in_order
returns-clause-in_order c = in_order

pub returns-clause-rearranged : goal.returns-clause-rearranged
returns-clause-rearranged c = least_broken-rearranged

pub returns-clause-tested : goal.returns-clause-tested
returns-clause-tested c = is_net_exact

use Rattle.net_model.proofs.lemmas.Same.{same_address_exact, same_block_exact, same_rule_exact}
use Rattle.net_core.proofs.net.Net.equality_laws.Goals as goal

pub returns-clause-addresses : goal.returns-clause-addresses
returns-clause-addresses c = same_address_exact

pub returns-clause-blocks : goal.returns-clause-blocks
returns-clause-blocks c = same_block_exact

pub returns-clause-rules : goal.returns-clause-rules
returns-clause-rules c = same_rule_exact

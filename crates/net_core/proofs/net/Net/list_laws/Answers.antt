use Rattle.net_model.proofs.lemmas.SameLists.{same_links, same_addresses, same_routes, same_rules}
use Rattle.net_core.proofs.net.Net.list_laws.Goals as goal

pub returns-clause-links : goal.returns-clause-links
returns-clause-links c = same_links

pub returns-clause-addresses : goal.returns-clause-addresses
returns-clause-addresses c = same_addresses

pub returns-clause-routes : goal.returns-clause-routes
returns-clause-routes c = same_routes

pub returns-clause-rules : goal.returns-clause-rules
returns-clause-rules c = same_rules

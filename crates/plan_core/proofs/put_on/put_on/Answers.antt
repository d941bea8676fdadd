use Rattle.std.proofs.Common.{length}
use Rattle.plan_core.specs.Parts.{HasRule, EachRule}
use Rattle.plan_core.proofs.Linking.{on_count, on_routes, on_rules}
use Rattle.plan_core.proofs.Same.{links_one}
use Rattle.plan_core.proofs.put_on.put_on.Goals as goal

pub add_routes-requires-clause-links : goal.add_routes-requires-clause-links
add_routes-requires-clause-links c = links_one c.add_addresses.new.draft.target c.add_addresses.new.draft.net c.laws.ensures.target c.laws.ensures.net c.in_ok-add_addresses.ensures.within c.in_ok-add_addresses.ensures.done

pub set_dns-requires-clause-links : goal.set_dns-requires-clause-links
set_dns-requires-clause-links c =
    c.in_ok-add_rules.ensures.links (c.in_ok-add_routes.ensures.links (links_one c.add_addresses.new.draft.target c.add_addresses.new.draft.net c.laws.ensures.target c.laws.ensures.net c.in_ok-add_addresses.ensures.within c.in_ok-add_addresses.ensures.done))

pub set_dns-requires-clause-routes : goal.set_dns-requires-clause-routes
set_dns-requires-clause-routes c =
    on_routes (length c.add_addresses.new.draft.target.routes) c.add_addresses.new.draft c.add_routes.new.draft c.add_rules.new.draft c.laws-2.ensures c.in_ok-add_routes.ensures (length c.add_routes.new.draft.target.rules) (λ e. EachRule e.target.rules (HasRule e.net)) c.in_ok-add_rules.ensures

pub set_dns-requires-clause-rules : goal.set_dns-requires-clause-rules
set_dns-requires-clause-rules c = on_rules (length c.add_routes.new.draft.target.rules) c.add_routes.new.draft c.add_rules.new.draft c.laws-2.ensures c.in_ok-add_rules.ensures

pub returns-clause-advances : goal.returns-clause-advances
returns-clause-advances c =
    on_count c.args.draft.now c.add_addresses.new.draft c.add_routes.new.draft c.add_rules.new.draft c.set_dns.new.draft c.in_ok-add_addresses.ensures.advances c.in_ok-add_routes.ensures.advances c.in_ok-add_rules.ensures.advances c.in_ok-set_dns.ensures.advances

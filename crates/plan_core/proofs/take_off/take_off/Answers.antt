use Rattle.std.proofs.Common.{length}
use Rattle.net_model.specs.Valid.{address_count}
use Rattle.plan_core.proofs.Linking.{off_ready, off_count}
use Rattle.plan_core.proofs.take_off.take_off.Goals as goal

pub returns-clause-ready : goal.returns-clause-ready
returns-clause-ready c =
    off_ready (length c.args.draft.now.start.rules) (length c.drop_rules.new.draft.start.routes) (address_count c.drop_routes.new.draft.start.links) c.args.draft.now c.drop_rules.new.draft c.drop_routes.new.draft c.drop_addresses.new.draft
    c.laws.ensures c.requires c.in_ok-drop_rules.ensures c.in_ok-drop_routes.ensures c.in_ok-drop_addresses.ensures

pub returns-clause-advances : goal.returns-clause-advances
returns-clause-advances c = off_count c.args.draft.now c.drop_rules.new.draft c.drop_routes.new.draft c.drop_addresses.new.draft c.in_ok-drop_rules.ensures.advances c.in_ok-drop_routes.ensures.advances c.in_ok-drop_addresses.ensures.advances

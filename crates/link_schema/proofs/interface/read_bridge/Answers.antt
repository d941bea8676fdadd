use Rattle.link_schema.proofs.Drafts.{with_bridge}
use Rattle.link_schema.proofs.interface.read_bridge.Goals as goal

pub returns-clause-right : goal.returns-clause-right
returns-clause-right c = with_bridge c.args.entry.now c.requires c.in_ok-entry.field-0 c.in_ok-entry.ensures.right

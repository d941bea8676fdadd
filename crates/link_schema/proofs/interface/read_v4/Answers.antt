use Rattle.link_schema.proofs.Drafts.{with_v4}
use Rattle.link_schema.proofs.interface.read_v4.Goals as goal

pub returns-clause-right : goal.returns-clause-right
returns-clause-right c = with_v4 c.args.entry.now c.requires c.in_ok-ip.field-0 c.in_ok-ip.ensures.right

use Rattle.link_schema.proofs.Drafts.{with_v6}
use Rattle.link_schema.proofs.interface.read_v6.Goals as goal

pub returns-clause-right : goal.returns-clause-right
returns-clause-right c = with_v6 c.args.entry.now c.requires c.in_ok-ip.field-0 c.in_ok-ip.ensures.right

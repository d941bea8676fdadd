use Rattle.link_schema.proofs.Drafts.{with_vrf}
use Rattle.link_schema.proofs.interface.read_vrf.Goals as goal

pub returns-clause-right : goal.returns-clause-right
returns-clause-right c = with_vrf c.args.entry.now c.requires c.in_ok-entry.field-0 c.in_ok-entry.ensures.short

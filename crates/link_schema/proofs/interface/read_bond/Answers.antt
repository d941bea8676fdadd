use Rattle.link_schema.proofs.Drafts.{with_bond}
use Rattle.link_schema.proofs.interface.read_bond.Goals as goal

pub returns-clause-right : goal.returns-clause-right
returns-clause-right c = with_bond c.args.entry.now c.requires c.in_ok-entry.field-0 c.in_ok-entry.ensures.short

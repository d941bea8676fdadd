use Rattle.link_schema.proofs.Drafts.{with_cost, with_priority}
use Rattle.link_schema.proofs.bridge.PortKeysSection.read_key.Goals as goal

pub returns-in_ok-number_u16-in-text-clause-right : goal.returns-in_ok-number_u16-in-text-clause-right
returns-in_ok-number_u16-in-text-clause-right c = with_cost c.args.entry.now c.requires c.in_ok-number_u16-in-text.field-0 c.in_ok-number_u16-in-text.ensures.within

pub returns-in_ok-number_u8-in-text-2-clause-right : goal.returns-in_ok-number_u8-in-text-2-clause-right
returns-in_ok-number_u8-in-text-2-clause-right c = with_priority c.args.entry.now c.requires c.in_ok-number_u8-in-text-2.field-0 c.in_ok-number_u8-in-text-2.ensures.within

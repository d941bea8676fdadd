use Rattle.link_schema.proofs.Drafts.{with_delay, with_hello, with_age}
use Rattle.link_schema.proofs.bridge.StpSection.read_key.Goals as goal

pub returns-in_ok-number_u8-in-text-clause-right : goal.returns-in_ok-number_u8-in-text-clause-right
returns-in_ok-number_u8-in-text-clause-right c = with_delay c.args.entry.now c.requires c.in_ok-number_u8-in-text.field-0 c.in_ok-number_u8-in-text.ensures.within

pub returns-in_ok-number_u8-in-text-2-clause-right : goal.returns-in_ok-number_u8-in-text-2-clause-right
returns-in_ok-number_u8-in-text-2-clause-right c = with_hello c.args.entry.now c.requires c.in_ok-number_u8-in-text-2.field-0 c.in_ok-number_u8-in-text-2.ensures.within

pub returns-in_ok-number_u8-in-text-3-clause-right : goal.returns-in_ok-number_u8-in-text-3-clause-right
returns-in_ok-number_u8-in-text-3-clause-right c = with_age c.args.entry.now c.requires c.in_ok-number_u8-in-text-3.field-0 c.in_ok-number_u8-in-text-3.ensures.within

use Rattle.link_schema.proofs.Drafts.{with_ip, with_len}
use Rattle.link_schema.proofs.ip.AddressKeysSection.read_key.Goals as goal

pub returns-in_ok-own_address-in-ip-clause-right : goal.returns-in_ok-own_address-in-ip-clause-right
returns-in_ok-own_address-in-ip-clause-right c = with_ip c.args.self.now.v6 c.args.entry.now c.requires c.in_ok-own_address-in-ip.field-0 c.in_ok-own_address-in-ip.ensures.right

pub returns-in_ok-address_len-in-text-clause-right : goal.returns-in_ok-address_len-in-text-clause-right
returns-in_ok-address_len-in-text-clause-right c = with_len c.args.self.now.v6 c.args.entry.now c.requires c.in_ok-address_len-in-text.field-0 c.in_ok-address_len-in-text.ensures.right

use Rattle.link_schema.proofs.Drafts.{with_addrs}
use Rattle.link_schema.proofs.ip.IpKeysSection.read_key.Goals as goal

pub returns-in_ok-read_list-in-address-clause-right : goal.returns-in_ok-read_list-in-address-clause-right
returns-in_ok-read_list-in-address-clause-right c = with_addrs c.args.self.now.v6 c.args.entry.now c.in_ok-read_list-in-address.field-0 c.in_ok-read_list-in-address.ensures.right c.in_ok-read_list-in-address.ensures.short

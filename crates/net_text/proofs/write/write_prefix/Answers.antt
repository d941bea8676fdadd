use Rattle.net_text.proofs.lemmas.Addresses.{prefix_text-reads}
use Rattle.net_text.proofs.write.write_prefix.Goals as goal

pub returns-in_err-push_prefix-clause-reads_back : goal.returns-in_err-push_prefix-clause-reads_back
returns-in_err-push_prefix-clause-reads_back c = prefix_text-reads c.args.prefix.now c.push_prefix.ensures.addr_fits c.push_prefix.ensures.len_fits

pub returns-in_err-extend_from_slice-clause-reads_back :
    goal.returns-in_err-extend_from_slice-clause-reads_back
returns-in_err-extend_from_slice-clause-reads_back c = prefix_text-reads c.args.prefix.now c.push_prefix.ensures.addr_fits c.push_prefix.ensures.len_fits

pub returns-clause-reads_back : goal.returns-clause-reads_back
returns-clause-reads_back c = prefix_text-reads c.args.prefix.now c.push_prefix.ensures.addr_fits c.push_prefix.ensures.len_fits

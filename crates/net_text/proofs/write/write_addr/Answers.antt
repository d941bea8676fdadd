use Rattle.net_text.proofs.lemmas.Addresses.{addr_text-reads}
use Rattle.net_text.proofs.write.write_addr.Goals as goal

pub returns-in_err-push_addr-clause-reads_back : goal.returns-in_err-push_addr-clause-reads_back
returns-in_err-push_addr-clause-reads_back c = addr_text-reads c.args.addr.now c.push_addr.ensures.fits

pub returns-in_err-extend_from_slice-clause-reads_back :
    goal.returns-in_err-extend_from_slice-clause-reads_back
returns-in_err-extend_from_slice-clause-reads_back c = addr_text-reads c.args.addr.now c.push_addr.ensures.fits

pub returns-clause-reads_back : goal.returns-clause-reads_back
returns-clause-reads_back c = addr_text-reads c.args.addr.now c.push_addr.ensures.fits

use Rattle.addr_text.proofs.lemmas.MacLaws.{mac_text-reads}
use Rattle.addr_text.proofs.mac.mac_text.Goals as goal

pub returns-in_err-push_pairs-clause-reads_back : goal.returns-in_err-push_pairs-clause-reads_back
returns-in_err-push_pairs-clause-reads_back c = mac_text-reads c.args.bytes.now c.told-bytes c.fits-bytes

pub returns-clause-reads_back : goal.returns-clause-reads_back
returns-clause-reads_back c = mac_text-reads c.args.bytes.now c.told-bytes c.fits-bytes

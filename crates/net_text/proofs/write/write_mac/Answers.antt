use Rattle.addr_text.specs.Mac.{mac_text}
use Rattle.net_text.proofs.lemmas.Addresses.{hardware_complete}
use Rattle.net_text.proofs.write.write_mac.Goals as goal

pub returns-in_err-push_mac-clause-reads_back : goal.returns-in_err-push_mac-clause-reads_back
returns-in_err-push_mac-clause-reads_back c = hardware_complete (mac_text c.args.mac.now.bytes) c.args.mac.now c.push_mac.ensures.reads_back

pub returns-in_err-extend_from_slice-clause-reads_back :
    goal.returns-in_err-extend_from_slice-clause-reads_back
returns-in_err-extend_from_slice-clause-reads_back c = hardware_complete (mac_text c.args.mac.now.bytes) c.args.mac.now c.push_mac.ensures.reads_back

pub returns-clause-reads_back : goal.returns-clause-reads_back
returns-clause-reads_back c = hardware_complete (mac_text c.args.mac.now.bytes) c.args.mac.now c.push_mac.ensures.reads_back

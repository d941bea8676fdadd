-- What is printed of MAC addresses is read again.
use Rattle.std.proofs.Common.{◌≡◌, Some}
use Rattle.addr_text.specs.Mac.{mac_text}
use Rattle.addr_text.proofs.lemmas.MacLaws.{mac_text-reads}
use Rattle.net_model.specs.declared.mac.Mac.{Mac}
use Rattle.net_search.specs.Ranges.{MacRanges}
use Rattle.net_text.specs.AddrText.{hardware_of}
use Rattle.net_text.proofs.lemmas.Addresses.{hardware_complete}
use Rattle.shown_reading.proofs.Lists.{bytes_small}

-- the text of a MAC address is read as it
pub mac_reads : (m : Mac) → MacRanges m → hardware_of (mac_text m.bytes) ≡ Some m
mac_reads m r = hardware_complete (mac_text m.bytes) m (mac_text-reads m.bytes r.whole (bytes_small m.bytes r.bytes))

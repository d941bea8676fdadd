-- Which networks are printed as a document that can be read.
use Rattle.std.specs.Prelude.{◌≡◌, true, false}
use Rattle.std.specs.List.{All}
use Rattle.net_model.specs.Address.{Block}
use Rattle.net_model.specs.NetData.{NetData}
use Rattle.net_model.specs.OnLink.{is_link_local}
use Rattle.net_model.specs.declared.link.Link.{Link}
use Rattle.document_model.specs.Entries.{is_station}

-- no address of a link is in fe80::/10, and the MAC of each link has an even first byte and isn't all zero
pub record IsPrintable (net : NetData) : Type 0 where
  pub no_link_local : All (λ (l : Link). All (λ (b : Block). is_link_local b.addr ≡ false) l.addrs) net.links
  pub stations : All (λ (l : Link). is_station l.mac ≡ true) net.links

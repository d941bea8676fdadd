-- The lists of a network.
use Rattle.std.specs.Prelude.{List, []}
use Rattle.net_model.specs.Rule.{RuleParts}
use Rattle.net_model.specs.declared.link.Link.{Link}
use Rattle.net_model.specs.declared.route.Route.{Route}
use Rattle.net_model.specs.declared.dns.Dns.{Dns}

pub record NetData : Type 0 where
  pub links : List Link
  pub routes : List Route
  pub rules : List RuleParts
  pub dns : Dns

abbrev pub net_of : List Link → List Route → List RuleParts → Dns → NetData
net_of links routes rules dns = record { links = links; routes = routes; rules = rules; dns = dns }

abbrev pub no_dns : Dns
no_dns = record { servers = []; search = [] }

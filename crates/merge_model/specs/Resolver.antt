-- The merged settings of DNS.
use Rattle.std.specs.Prelude.{◌&&◌, Option, Some, None, if◌then◌else◌, is_none}
use Rattle.std.specs.Option.{unwrap_or}
use Rattle.net_model.specs.Lists.{no_dns}
use Rattle.net_model.specs.declared.Dns.{Dns}
use Rattle.document_model.specs.declared.DnsEntry.{DnsEntry}

-- an entry without lists clears both; else each stated list replaces the current one, and the other stays
abbrev pub dns_by : DnsEntry → Dns → Dns
dns_by e now = if is_none e.servers && is_none e.search then no_dns else record { servers = unwrap_or e.servers now.servers; search = unwrap_or e.search now.search }

-- without an entry both lists stay
abbrev pub merged_dns : Option DnsEntry → Dns → Dns
merged_dns None now = now
merged_dns (Some e) now = dns_by e now

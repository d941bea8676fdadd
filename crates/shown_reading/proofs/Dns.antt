-- The settings of DNS.
use Rattle.std.proofs.Common.{◌≡◌, ℕ, true, List, ◌++◌, map, codes, slice_index_or, Some, Ok, refl}
use Rattle.net_model.specs.Address.{Address}
use Rattle.net_model.specs.Domain.{is_domain}
use Rattle.net_model.specs.declared.dns.Dns.{Dns}
use Rattle.net_search.specs.Ranges.{DnsRanges}
use Rattle.document_model.specs.declared.DnsEntry.{DnsEntry}
use Rattle.doc_tree.specs.Shape.{text, list, mapping, Shapes, Pairs, pairs_of, shapes_of}
use Rattle.show_core.specs.Fields.{fields, field}
use Rattle.show_core.specs.Fields as show
use Rattle.show_core.specs.Network.{dns_tree, running}
use Rattle.tree_schema.specs.Reading.{given, item, read_list}
use Rattle.route_schema.specs.Dns.{dns_config, dns}
use Rattle.route_schema.specs.Words.{domain_from, domain}
use Rattle.route_schema.specs.Words as schema
use Rattle.shown_model.specs.Shown.{shown_dns}
use Rattle.shown_reading.proofs.Prefixes.{address_reads}
use Rattle.shown_reading.proofs.Steps.{list_itself, item_reads}
use Rattle.shown_reading.proofs.Values.{formed_reads, passing_reads}

domain_reads : (t : List ℕ) → is_domain t ≡ true → domain (text t) ≡ Ok t
domain_reads t h = formed_reads domain_from t t (passing_reads is_domain t h)

config_at : (ss ts : Shapes) (servers : List Address) (search : List (List ℕ)) → read_list (item schema.address) (list ss) ≡ given servers → read_list (item domain) (list ts) ≡ given search
    → dns_config (fields (field (codes "server") (list ss) ++ field (codes "search") (list ts))) ≡ given (record { servers = Some servers; search = Some search })
config_at ss ts servers search h k = rw (h, k) refl

config_reads : (d : Dns) → DnsRanges d → dns_config (dns_tree d) ≡ given (shown_dns d)
config_reads d r =
    config_at (shapes_of (map show.address d.servers)) (shapes_of (map text d.search)) d.servers d.search
    (list_itself show.address (item schema.address) d.servers (λ i e lt. item_reads schema.address (show.address (slice_index_or d.servers i e)) (slice_index_or d.servers i e) (address_reads (slice_index_or d.servers i e) (r.servers i e lt))))
    (list_itself text (item domain) d.search (λ i e lt. item_reads domain (text (slice_index_or d.search i e)) (slice_index_or d.search i e) (domain_reads (slice_index_or d.search i e) (r.search i e lt).domain)))

running_at : (ps : Pairs) (e : DnsEntry) → dns_config (mapping ps) ≡ given e → dns (running (mapping ps)) ≡ given (Some e)
running_at ps e h = rw h refl

-- the settings of DNS are read as they are shown
pub dns_reads : (d : Dns) → DnsRanges d → dns (running (dns_tree d)) ≡ given (Some (shown_dns d))
dns_reads d r = running_at (pairs_of (field (codes "server") (show.each show.address d.servers) ++ field (codes "search") (show.each text d.search))) (shown_dns d) (config_reads d r)

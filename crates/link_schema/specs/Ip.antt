-- `ipv4` and `ipv6` of an interface.
use Rattle.std.specs.Prelude.{ℕ, nat_le, Bool, false, ◌&&◌, List, [], ◌∷◌, Option, Some, None, if◌then◌else◌, codes}
use Rattle.std.specs.Option.{option_map_or}
use Rattle.net_model.specs.Address.{Block, block, max_len}
use Rattle.net_model.specs.OnLink.{is_link_local}
use Rattle.net_text.specs.AddrText.{addr_of}
use Rattle.document_model.specs.Entries.{passes, is_own}
use Rattle.document_model.specs.declared.IpEntry.{IpEntry}
use Rattle.doc_tree.specs.Shape.{Shape}
use Rattle.tree_schema.specs.Reading.{Reading, given_over, with_value, and_then, read_list}
use Rattle.tree_schema.specs.Values.{number, boolean, is_string}
use Rattle.tree_schema.specs.Tables.{Row, Table, value, part, read_map, needed, value_under, unknown}
use Rattle.link_schema.specs.Words.{own_address, off}
use Rattle.link_schema.specs.declared.draft.AddressDraft.{AddressDraft}

-- ---- `address[]`

abbrev pub address_table : Bool → Table AddressDraft
address_table v6 = record {
  keys =
      value "ip" (own_address v6) (λ (e : AddressDraft) ip. record e { ip = Some ip })
      ∷ value "prefix-length" (number 0 (max_len v6)) (λ (e : AddressDraft) len. record e { len = Some len })
      ∷ [];
  over = codes "valid-life-time" ∷ codes "preferred-life-time" ∷ [];
  others = unknown;
}

abbrev pub no_address : AddressDraft
no_address = record { ip = None; len = None }

-- what holds of it whichever keys were met
abbrev pub is_address_draft : Bool → AddressDraft → Bool
is_address_draft v6 e = passes (is_own v6) e.ip && passes (λ n. nat_le n (max_len v6)) e.len

-- both are needed
abbrev pub address_of : AddressDraft → Reading Block
address_of e = and_then (needed "ip" e.ip) (λ ip. with_value (block ip) (needed "prefix-length" e.len))

-- the entry's `ip` is a string of an address in `fe80::/10`
unfoldable pub is_link_local_text : List ℕ → Bool
is_link_local_text t = option_map_or is_link_local (addr_of t) false

abbrev pub has_link_local : Shape → Bool
has_link_local s = is_string is_link_local_text (value_under "ip" s)

-- a link-local address is read over, under `ipv6`
abbrev pub address : Bool → Shape → Reading (Option Block)
address v6 s = if v6 && has_link_local s then given_over None else with_value Some (and_then (read_map (address_table v6) no_address s) address_of)

abbrev pub addresses : Bool → Shape → Reading (List Block)
addresses v6 s = read_list (address v6) s

-- ---- the section

-- a key of `ipv6` alone
abbrev pub of_v6 : Bool → Row IpEntry → Row IpEntry
of_v6 v6 row = record { key = row.key; read = λ s e. if v6 then row.read s e else unknown e }

abbrev pub ip_table : Bool → Table IpEntry
ip_table v6 = record {
  keys =
      value "enabled" boolean (λ (e : IpEntry) enabled. record e { enabled = Some enabled })
      ∷ value "dhcp" off (λ (e : IpEntry) b. e)
      ∷ of_v6 v6 (value "autoconf" off (λ (e : IpEntry) b. e))
      ∷ part "address" (addresses v6) (λ (e : IpEntry) addrs. record e { addrs = Some addrs })
      ∷ [];
  over =
      codes "auto-dns" ∷ codes "auto-gateway" ∷ codes "auto-routes" ∷ codes "auto-route-table-id"
      ∷ codes "addr-gen-mode" ∷ codes "allow-extra-address" ∷ codes "forwarding"
      ∷ [];
  others = unknown;
}

abbrev pub no_ip : IpEntry
no_ip = record { enabled = None; addrs = None }

abbrev pub ip : Bool → Shape → Reading IpEntry
ip v6 s = read_map (ip_table v6) no_ip s

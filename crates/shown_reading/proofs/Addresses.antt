-- The addresses of a link.
use Rattle.std.proofs.Common.{◌≡◌, ◌∙◌, ℕ, ◌≤◌, Bool, true, false, not, map, List, [], ◌∷◌, ◌++◌, codes, Option, Some, None, Ok, refl, ap, sym, subst, arith}
use Rattle.std.specs.Prelude.{option_and_then, if◌then◌else◌}
use Rattle.std.specs.List.{All}
use Rattle.std.specs.Option.{option_map_or}
use Rattle.std.proofs.lemmas.Bool.{and_from, not_from_false}
use Rattle.net_model.specs.Address.{Address, Block, block, max_len, IsAddress}
use Rattle.net_model.specs.OnLink.{is_link_local}
use Rattle.net_model.specs.Words.{bool_eq, is_empty}
use Rattle.net_search.specs.Ranges.{PrefixRanges}
use Rattle.net_text.specs.AddrText.{addr_text}
use Rattle.net_text.proofs.lemmas.Addresses.{addr_text-reads}
use Rattle.document_model.specs.Entries.{is_own}
use Rattle.doc_tree.specs.Shape.{truth, text, list, Shapes, shapes_of}
use Rattle.show_core.specs.Fields.{fields, field, each}
use Rattle.show_core.specs.Fields as show
use Rattle.show_core.specs.Links.{address_tree, ip_tree, of_family}
use Rattle.tree_schema.specs.Reading.{Reading, given, with_value, and_then}
use Rattle.tree_schema.specs.Tables.{read_map}
use Rattle.tree_schema.specs.Values.{number, passing}
use Rattle.link_schema.specs.Words.{own_address_from, own_address}
use Rattle.link_schema.specs.Ip.{address_table, no_address, address_of, is_link_local_text, address, addresses, ip}
use Rattle.shown_model.specs.Shown.{shown_ip}
use Rattle.shown_reading.proofs.Lists.{all_kept}
use Rattle.shown_reading.proofs.Steps.{list_itself}
use Rattle.shown_reading.proofs.Values.{number_reads, formed_reads, passing_reads}

-- two booleans that are tested to be the same
same_bool : (a b : Bool) → bool_eq a b ≡ true → a ≡ b
same_bool true b h = sym h
same_bool false true h = h
same_bool false false h = refl

-- ---- an address

own_reads : (v6 : Bool) (a : Address) → IsAddress a → bool_eq a.v6 v6 ≡ true → is_link_local a ≡ false → own_address v6 (show.address a) ≡ Ok a
own_reads v6 a fits family far =
    let own : is_own v6 a ≡ true = and_from (bool_eq a.v6 v6) (not (is_link_local a)) family (not_from_false (is_link_local a) far) in
    formed_reads (own_address_from v6) (addr_text a) a (ap (option_and_then (passing (is_own v6))) (addr_text-reads a fits) ∙ passing_reads (is_own v6) a own)

not_local : (a : Address) → IsAddress a → is_link_local a ≡ false → is_link_local_text (addr_text a) ≡ false
unfolding is_link_local_text
not_local a fits far = ap (λ o. option_map_or is_link_local o false) (addr_text-reads a fits) ∙ far

-- an address entry by what its two values are read as
entry_reads : (v6 : Bool) (t : List ℕ) (n : ℕ) (a : Address) → own_address v6 (text t) ≡ Ok a → number 0 (max_len v6) (show.number n) ≡ Ok n
    → with_value Some (and_then (read_map (address_table v6) no_address (fields (field (codes "ip") (text t) ++ field (codes "prefix-length") (show.number n)))) address_of) ≡ given (Some (block a n))
entry_reads v6 t n a own within = rw (own, within) refl

looked_at : (v6 : Bool) (t : List ℕ) (n : ℕ) (r : Reading (Option Block)) → is_link_local_text t ≡ false
    → with_value Some (and_then (read_map (address_table v6) no_address (fields (field (codes "ip") (text t) ++ field (codes "prefix-length") (show.number n)))) address_of) ≡ r
    → address v6 (fields (field (codes "ip") (text t) ++ field (codes "prefix-length") (show.number n))) ≡ r
looked_at true t n r far h = rw far h
looked_at false t n r far h = h

address_reads : (v6 : Bool) (b : Block) → PrefixRanges b → bool_eq b.addr.v6 v6 ≡ true → is_link_local b.addr ≡ false → address v6 (address_tree b) ≡ given (Some b)
address_reads v6 b ranges family far =
    let within = subst (λ v. b.len ≤ max_len v) (same_bool b.addr.v6 v6 family) ranges.len in
    looked_at v6 (addr_text b.addr) b.len (given (Some b)) (not_local b.addr ranges.addr far)
    (entry_reads v6 (addr_text b.addr) b.len b.addr (own_reads v6 b.addr ranges.addr family far) (number_reads 0 (max_len v6) b.len (omega arith) within))

-- ---- the section of a family

-- an address with its ranges that isn't link-local
pub record IsFar (b : Block) : Type 0 where
  pub ranges : PrefixRanges b
  pub far : is_link_local b.addr ≡ false

section_reads : (v6 : Bool) (ss : Shapes) (addrs : List Block) → addresses v6 (list ss) ≡ given addrs
    → ip v6 (fields (field (codes "enabled") (truth true) ++ field (codes "address") (list ss))) ≡ given (record { enabled = Some true; addrs = Some addrs })
section_reads v6 ss addrs h = rw h refl

by_count : (v6 : Bool) (own : List Block) → addresses v6 (each address_tree own) ≡ given own → ip v6 (ip_tree own) ≡ given (record { enabled = Some (not (is_empty own)); addrs = if is_empty own then None else Some own })
by_count v6 [] h = refl
by_count v6 (b ∷ bs) h = section_reads v6 (shapes_of (map address_tree (b ∷ bs))) (b ∷ bs) h

-- the addresses of a family are read as they are shown
pub ip_reads : (v6 : Bool) (addrs : List Block) → All IsFar addrs → ip v6 (ip_tree (of_family v6 addrs)) ≡ given (shown_ip v6 addrs)
ip_reads v6 addrs all =
    let own = of_family v6 addrs in
    let read = all_kept (λ (b : Block). bool_eq b.addr.v6 v6) IsFar (λ b. address v6 (address_tree b) ≡ given (Some b)) (λ b family is. address_reads v6 b is.ranges family is.far) addrs all in
    by_count v6 own (list_itself address_tree (address v6) own read)

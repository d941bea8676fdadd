-- What the values of routes and rules are read as.
use Rattle.std.proofs.Common.{◌≡◌, ◌∙◌, ℕ, ◌-◌, ◌%◌, ◌≤◌, ◌<◌, ◌^◌, ◌==◌, true, false, List, Some, Ok, refl, ap, arith}
use Rattle.std.specs.Prelude.{option_map, if◌then◌else◌}
use Rattle.std.proofs.lemmas.Bool.{ne_eqb}
use Rattle.net_model.specs.Address.{Address, Block, address, block, block_size, subnet_of, IsAddress}
use Rattle.net_model.specs.Name.{is_name}
use Rattle.net_search.specs.Ranges.{TableRanges, SubnetRanges}
use Rattle.net_text.specs.AddrText.{addr_text, prefix_text, addr_of}
use Rattle.net_text.proofs.lemmas.Addresses.{addr_text-reads, prefix_text-reads}
use Rattle.doc_tree.specs.Shape.{text}
use Rattle.show_core.specs.Fields as show
use Rattle.tree_schema.specs.declared.Reason.TheVariants.{OutOfRange}
use Rattle.tree_schema.specs.Values.{and_if, name, mark, unless_empty}
use Rattle.route_schema.specs.Words.{subnet_from, subnet, table}
use Rattle.route_schema.specs.Words as schema
use Rattle.shown_reading.proofs.Values.{u32_reads, formed_reads, name_reads, stated_reads}

-- ---- addresses and prefixes

-- the text of an address is read as it
pub address_reads : (a : Address) → IsAddress a → schema.address (show.address a) ≡ Ok a
address_reads a h = formed_reads addr_of (addr_text a) a (addr_text-reads a h)

-- the same where it may be left out
pub gateway_reads : (a : Address) → IsAddress a → unless_empty schema.address (show.address a) ≡ Ok (Some a)
gateway_reads a h = stated_reads schema.address OutOfRange (addr_text a) a refl (address_reads a h)

less_nothing : (n r : ℕ) → r ≡ 0 → n - r ≡ n
less_nothing n r h = omega (arith, h)

-- without host bits a prefix is its own subnet
own_subnet : (b : Block) → SubnetRanges b → subnet_of b ≡ b
own_subnet b r = ap (λ n. block (address b.addr.v6 n) b.len) (less_nothing b.addr.bits (b.addr.bits % block_size b) r.subnet.no_host_bits)

-- the text of a subnet is read as it
pub subnet_reads : (b : Block) → SubnetRanges b → subnet (show.prefix b) ≡ Ok b
subnet_reads b r = formed_reads subnet_from (prefix_text b) b (ap (option_map subnet_of) (prefix_text-reads b r.addr r.subnet.within) ∙ ap Some (own_subnet b r))

-- the same where it may be left out
pub source_reads : (b : Block) → SubnetRanges b → unless_empty subnet (show.prefix b) ≡ Ok (Some b)
source_reads b r = stated_reads subnet OutOfRange (prefix_text b) b refl (subnet_reads b r)

-- the name of a link, where it may be left out
pub iif_reads : (t : List ℕ) → is_name t ≡ true → unless_empty name (text t) ≡ Ok (Some t)
iif_reads t h = stated_reads name OutOfRange t t refl (name_reads t h)

-- ---- numbers

not_zero : (n : ℕ) → 1 ≤ n → (n == 0) ≡ false
not_zero n h = ne_eqb n 0 (λ e. absurd (omega arith))

-- the number of a table, which is never 0
pub table_reads : (n : ℕ) → TableRanges n → table (show.number n) ≡ Ok n
table_reads n r =
    ap (λ v. and_if v (λ m. Ok (if m == 0 then 254 else m))) (u32_reads n r.most)
    ∙ ap (λ b. Ok (if b then 254 else n)) (not_zero n r.least)

-- a mark or a mask
pub mark_reads : (n : ℕ) → n < 2 ^ 32 → mark (show.number n) ≡ Ok n
mark_reads n h = u32_reads n h

-- The lengths and bytes of names and of search domains.
use Rattle.std.proofs.Common.{◌≡◌, ℕ, true, not, eqb, leb, ◌&&◌, List, [], ◌∷◌, length, arith}
use Rattle.std.specs.Prelude.{IsTrue, All}
use Rattle.std.specs.List.{list_all}
use Rattle.std.proofs.lemmas.Bool.{and_parts, leb-true}
use Rattle.std.proofs.lemmas.List.Elements.{All-nil, All-cons}
use Rattle.net_model.specs.Domain.{is_domain, is_domain_byte}
use Rattle.net_model.specs.Name.{is_name, is_name_byte}
use Rattle.net_search.specs.Ranges.{IsU8, NameRanges, DomainRanges}

-- the bytes of a name are below 256
name_bytes : (bytes : List ℕ) → list_all is_name_byte bytes ≡ true → All IsU8 bytes
name_bytes [] all = All-nil IsU8
name_bytes (b ∷ bytes) all =
    let parts = and_parts (is_name_byte b) (list_all is_name_byte bytes) all in
    let small = leb-true b 0x7e (and_parts (leb 0x21 b) (leb b 0x7e) (and_parts (leb 0x21 b && leb b 0x7e) _ (and_parts (leb 0x21 b && leb b 0x7e && not (eqb b 0x2f)) _ parts.0).0).0).1 in
    All-cons IsU8 b bytes (omega arith) (name_bytes bytes parts.1)

-- a name has 1 to 15 bytes
pub name_ranges : (bytes : List ℕ) → IsTrue (is_name bytes) → NameRanges bytes
name_ranges bytes is =
    let parts = and_parts _ (list_all is_name_byte bytes) is in
    let lengths = and_parts _ _ (and_parts (leb 1 (length bytes) && leb (length bytes) 15) _ parts.0).0 in
    record { named = is; least = leb-true 1 (length bytes) lengths.0; most = leb-true (length bytes) 15 lengths.1; bytes = name_bytes bytes parts.1 }

-- the bytes of a search domain are below 256
domain_bytes : (bytes : List ℕ) → list_all is_domain_byte bytes ≡ true → All IsU8 bytes
domain_bytes [] all = All-nil IsU8
domain_bytes (b ∷ bytes) all =
    let parts = and_parts (is_domain_byte b) (list_all is_domain_byte bytes) all in
    let small = leb-true b 0x7e (and_parts (leb 0x21 b) (leb b 0x7e) (and_parts (leb 0x21 b && leb b 0x7e) _ parts.0).0).1 in
    All-cons IsU8 b bytes (omega arith) (domain_bytes bytes parts.1)

-- a search domain has 1 to 253 bytes
pub domain_ranges : (bytes : List ℕ) → IsTrue (is_domain bytes) → DomainRanges bytes
domain_ranges bytes is =
    let parts = and_parts (leb 1 (length bytes) && leb (length bytes) 253) (list_all is_domain_byte bytes) is in
    let lengths = and_parts _ _ parts.0 in
    record { domain = is; least = leb-true 1 (length bytes) lengths.0; most = leb-true (length bytes) 253 lengths.1; bytes = domain_bytes bytes parts.1 }

-- What is printed of names, domains, addresses, prefixes and MAC addresses is ASCII.
use Rattle.std.proofs.Common.{◌≡◌, ◌+◌, ◌/◌, ◌%◌, ◌<◌, ◌^◌, ℕ, suc, zero, List, [], ◌∷◌, Bool, true, false, cond, not, nat_le, map, take, drop, refl, arith}
use Rattle.std.specs.Prelude.{◌&&◌, ◌==◌, length}
use Rattle.std.specs.Char.{digit_value}
use Rattle.std.specs.Fmt.{decimal, digit_glyph}
use Rattle.std.specs.List.{All, list_all}
use Rattle.std.specs.Str.Parse.{AllDigits}
use Rattle.std.proofs.lemmas.Bool.{and_parts, leb-true}
use Rattle.std.proofs.lemmas.Bool.Decides.{nat_tests}
use Rattle.std.proofs.lemmas.Fmt.{IsAscii-decimal, digits_is_IsNumeral}
use Rattle.std.proofs.lemmas.List.Elements.{All-head, All-tail}
use Rattle.addr_text.specs.Dotted.{dotted}
use Rattle.addr_text.specs.Mac.{pair_text, mac_text}
use Rattle.addr_text.specs.Parts.{joined}
use Rattle.addr_text.specs.V6Text.{fields_of, hex, fields_text, longest, first_run, shortened, v6_text}
use Rattle.addr_text.proofs.lemmas.Written.{AreSmall, fields_small}
use Rattle.net_model.specs.Address.{Address, Block, address, max_len, IsAddress, IsPrefix}
use Rattle.net_model.specs.Domain.{is_domain_byte}
use Rattle.net_model.specs.Name.{is_name_byte, is_reserved}
use Rattle.net_model.specs.declared.limits.TheConstants.{MAX_NAME_LEN, MAX_DOMAIN_LEN}
use Rattle.net_model.specs.declared.mac.Mac.{Mac}
use Rattle.net_search.specs.Ranges.{IsU8, NameRanges, DomainRanges, MacRanges}
use Rattle.net_text.specs.AddrText.{addr_text, prefix_text}
use Rattle.net_text.proofs.lemmas.Addresses.{max_len_small}
use Rattle.shown_apply.proofs.Low.{low, both_low, more_low, ascii_low, low_by}

-- ---- names and domains

name_byte_low : (b : ℕ) → is_name_byte b ≡ true → b < 128
name_byte_low b is =
    let first = and_parts (nat_le 0x21 b && nat_le b 0x7e && not (b == 0x2f)) (not (b == 0x3a)) is in
    let second = and_parts (nat_le 0x21 b && nat_le b 0x7e) (not (b == 0x2f)) first.0 in
    let le = leb-true b 0x7e (and_parts (nat_le 0x21 b) (nat_le b 0x7e) second.0).1 in
    omega (arith, le)

-- a name
pub name_low : (name : List ℕ) → NameRanges name → low name ≡ true
name_low name r = low_by is_name_byte name_byte_low name (and_parts ((nat_le 1 (length name) && nat_le (length name) MAX_NAME_LEN) && not (is_reserved name)) (list_all is_name_byte name) r.named).1

domain_byte_low : (b : ℕ) → is_domain_byte b ≡ true → b < 128
domain_byte_low b is =
    let first = and_parts (nat_le 0x21 b && nat_le b 0x7e) (not (b == 0x2c)) is in
    let le = leb-true b 0x7e (and_parts (nat_le 0x21 b) (nat_le b 0x7e) first.0).1 in
    omega (arith, le)

-- a search domain
pub domain_low : (name : List ℕ) → DomainRanges name → low name ≡ true
domain_low name r = low_by is_domain_byte domain_byte_low name (and_parts (nat_le 1 (length name) && nat_le (length name) MAX_DOMAIN_LEN) (list_all is_domain_byte name) r.domain).1

-- ---- numbers and parts

-- a number in decimal digits
pub decimal_low : (n : ℕ) → n < 2 ^ 64 → low (decimal n) ≡ true
decimal_low n lt = ascii_low (decimal n) (IsAscii-decimal n lt)

hex_digit_low : (c : ℕ) → digit_value c < 16 → c < 128
hex_digit_low c h = grind (arith, nat_tests)

hex_digits_low : (ds : List ℕ) → AllDigits 16 ds → low ds ≡ true
hex_digits_low [] all = refl
hex_digits_low (d ∷ ds) all = more_low d ds (hex_digit_low d all.0) (hex_digits_low ds all.1)

hex_low : (n : ℕ) → n < 65536 → low (hex n) ≡ true
hex_low n lt = hex_digits_low (hex n) (digits_is_IsNumeral 16 false (omega arith) (omega arith) n (omega (arith, lt))).0.1

-- each of these texts is
abbrev AllLow : List (List ℕ) → Type 0
AllLow [] = Unit {0}
AllLow (p ∷ ps) = (low p ≡ true) × AllLow ps

joined_low : (sign : ℕ) → sign < 128 → (ps : List (List ℕ)) → AllLow ps → low (joined sign ps) ≡ true
joined_low sign lt [] all = refl
joined_low sign lt (p ∷ []) all = all.0
joined_low sign lt (p ∷ q ∷ ps) all = both_low p (sign ∷ joined sign (q ∷ ps)) all.0 (more_low sign (joined sign (q ∷ ps)) lt (joined_low sign lt (q ∷ ps) all.1))

-- ---- addresses

dotted_low : (n : ℕ) → n < 2 ^ 32 → low (dotted n) ≡ true
dotted_low n lt =
    joined_low 46 (omega arith) (decimal (n / 2 ^ 24) ∷ decimal (n / 2 ^ 16 % 256) ∷ decimal (n / 2 ^ 8 % 256) ∷ decimal (n % 256) ∷ [])
    (decimal_low (n / 2 ^ 24) (omega (arith, lt)), (decimal_low (n / 2 ^ 16 % 256) (omega arith), (decimal_low (n / 2 ^ 8 % 256) (omega arith), (decimal_low (n % 256) (omega arith), tt))))

small-take : (n : ℕ) (xs : List ℕ) → AreSmall xs → AreSmall (take n xs)
small-take zero xs h = tt
small-take (suc n) [] h = tt
small-take (suc n) (x ∷ xs) h = (h.0, small-take n xs h.1)

small-drop : (n : ℕ) (xs : List ℕ) → AreSmall xs → AreSmall (drop n xs)
small-drop zero xs h = h
small-drop (suc n) [] h = tt
small-drop (suc n) (x ∷ xs) h = small-drop n xs h.1

hexes_low : (fs : List ℕ) → AreSmall fs → AllLow (map hex fs)
hexes_low [] h = tt
hexes_low (f ∷ fs) h = (hex_low f h.0, hexes_low fs h.1)

fields_low : (fs : List ℕ) → AreSmall fs → low (fields_text fs) ≡ true
fields_low fs h = joined_low 58 (omega arith) (map hex fs) (hexes_low fs h)

shortened_low : (fs : List ℕ) (start n : ℕ) → AreSmall fs → low (shortened fs start n) ≡ true
shortened_low fs start n h =
    let back = fields_text (drop (start + n) fs) in
    both_low (fields_text (take start fs)) (58 ∷ 58 ∷ back) (fields_low (take start fs) (small-take start fs h))
    (more_low 58 (58 ∷ back) (omega arith) (more_low 58 back (omega arith) (fields_low (drop (start + n) fs) (small-drop (start + n) fs h))))

either_low : (b : Bool) (xs ys : List ℕ) → low xs ≡ true → low ys ≡ true → low (cond b xs ys) ≡ true
either_low true xs ys a b = a
either_low false xs ys a b = b

v6_low : (bits : ℕ) → low (v6_text bits) ≡ true
v6_low bits =
    let fs = fields_of 8 bits in
    let small = fields_small 8 bits in
    let n = longest fs in
    either_low (nat_le n 1) (fields_text fs) (shortened fs (first_run n fs) n) (fields_low fs small) (shortened_low fs (first_run n fs) n small)

of_family_low : (v6 : Bool) (bits : ℕ) → bits < 2 ^ max_len v6 → low (addr_text (address v6 bits)) ≡ true
of_family_low true bits lt = v6_low bits
of_family_low false bits lt = dotted_low bits lt

-- an address
pub addr_low : (a : Address) → IsAddress a → low (addr_text a) ≡ true
addr_low a is = of_family_low a.v6 a.bits is

-- the length of a prefix has 32 bits
pub prefix_len_narrow : (b : Block) → IsPrefix b → b.len < 2 ^ 32
prefix_len_narrow b within = omega (arith, within, max_len_small b.addr.v6)

-- a prefix
pub prefix_low : (b : Block) → IsAddress b.addr → IsPrefix b → low (prefix_text b) ≡ true
prefix_low b is within =
    both_low (addr_text b.addr) (47 ∷ decimal b.len) (addr_low b.addr is)
    (more_low 47 (decimal b.len) (omega arith) (decimal_low b.len (omega (arith, within, max_len_small b.addr.v6))))

-- ---- MAC addresses

glyph_low : (d : ℕ) → d < 16 → digit_glyph true d < 128
glyph_low d h = grind (arith, nat_tests)

pair_low : (b : ℕ) → b < 256 → low (pair_text b) ≡ true
pair_low b lt =
    more_low (digit_glyph true (b / 16)) (digit_glyph true (b % 16) ∷ []) (glyph_low (b / 16) (omega (arith, lt)))
    (more_low (digit_glyph true (b % 16)) [] (glyph_low (b % 16) (omega arith)) refl)

pairs_low : (bytes : List ℕ) → All IsU8 bytes → AllLow (map pair_text bytes)
pairs_low [] all = tt
pairs_low (b ∷ bytes) all = (pair_low b (All-head IsU8 b bytes all), pairs_low bytes (All-tail IsU8 b bytes all))

-- a MAC address
pub mac_low : (m : Mac) → MacRanges m → low (mac_text m.bytes) ≡ true
mac_low m r = joined_low 58 (omega arith) (map pair_text m.bytes) (pairs_low m.bytes r.bytes)

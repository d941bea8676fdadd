-- What stands between the spaces of a spelling is of printable ASCII bytes.
use Rattle.std.proofs.Common.{◌≡◌, ◌∙◌, ◌<◌, ◌≤◌, ◌+◌, ◌-◌, ◌/◌, ◌%◌, ◌^◌, ◌==◌, ℕ, zero, suc, List, [], ◌∷◌, ◌++◌, Bool, true, false, not, ◌&&◌, Option, Some, None, length, map, refl, sym, ap, subst, arith, inl, inr}
use Rattle.std.specs.Prelude.{nat_lt, nat_le, IsTrue, All, flat_map}
use Rattle.std.specs.Char.{digit_value, is_ascii_graphic}
use Rattle.std.specs.Fmt.{decimal, digits, digit_glyph}
use Rattle.std.specs.List.{list_all}
use Rattle.std.specs.Str.Parse.{AllDigits}
use Rattle.std.proofs.lemmas.Bool.{cases_Bool, and_parts, ltb-true, ltb-false, lt-ltb, le-ltb, le-leb, leb-true, ne_eqb}
use Rattle.std.proofs.lemmas.Fmt.{decimal_is_IsNumeral}
use Rattle.std.proofs.lemmas.Str.Parse.{digit_from_value}
use Rattle.std.proofs.lemmas.List.Elements.{All-head, All-tail}
use Rattle.addr_text.specs.Digits.{is_field, is_hex_digit}
use Rattle.addr_text.specs.Dotted.{IsDotted, dotted}
use Rattle.addr_text.specs.Mac.{pair_text, mac_text}
use Rattle.addr_text.specs.Parts.{joined}
use Rattle.addr_text.specs.V6.{AreFields, IsRun, IsV6}
use Rattle.addr_text.proofs.lemmas.Numbers.{all_below, each_below}
use Rattle.addr_text.proofs.lemmas.Split.{lacks}
use Rattle.addr_text.proofs.lemmas.Written.{v6_text-reads}
use Rattle.net_model.specs.Address.{Address, Block, address, max_len, IsAddress, IsPrefix}
use Rattle.net_model.specs.Domain.{is_domain, is_domain_byte}
use Rattle.net_model.specs.Name.{is_name, is_name_byte, is_reserved}
use Rattle.net_model.specs.declared.limits.TheConstants.{MAX_NAME_LEN, MAX_DOMAIN_LEN}
use Rattle.net_text.specs.AddrText.{addr_text, prefix_text}

-- ---- lists of bytes

-- what passes the one test passes the other
pub weaken : (p q : ℕ → Bool) → ((b : ℕ) → p b ≡ true → q b ≡ true) → (t : List ℕ) → list_all p t ≡ true → list_all q t ≡ true
weaken p q h [] all = refl
weaken p q h (b ∷ t) all =
    let (first, rest) = and_parts (p b) (list_all p t) all in
    rw (h b first, weaken p q h t rest) refl

pub all-append : (p : ℕ → Bool) (xs ys : List ℕ) → list_all p xs ≡ true → list_all p ys ≡ true → list_all p (xs ++ ys) ≡ true
all-append p [] ys h k = k
all-append p (x ∷ xs) ys h k =
    let (first, rest) = and_parts (p x) (list_all p xs) h in
    rw (first, all-append p xs ys rest k) refl

pub all-sign : (p : ℕ → Bool) (xs : List ℕ) (s : ℕ) (ys : List ℕ) → list_all p xs ≡ true → p s ≡ true → list_all p ys ≡ true → list_all p (xs ++ s ∷ ys) ≡ true
all-sign p xs s ys h e k = all-append p xs (s ∷ ys) h (rw (e, k) refl)

-- parts that pass, joined by a sign that passes
pub all-joined : (p : ℕ → Bool) (s : ℕ) → p s ≡ true → (ps : List (List ℕ)) → list_all (list_all p) ps ≡ true → list_all p (joined s ps) ≡ true
all-joined p s e [] h = refl
all-joined p s e (x ∷ []) h = (and_parts (list_all p x) true h).0
all-joined p s e (x ∷ y ∷ ps) h =
    let (first, rest) = and_parts (list_all p x) (list_all (list_all p) (y ∷ ps)) h in
    all-sign p x s (joined s (y ∷ ps)) first e (all-joined p s e (y ∷ ps) rest)

-- no byte is the sign where none that passes is
pub passes_lack : (p : ℕ → Bool) (s : ℕ) → ((b : ℕ) → p b ≡ true → (b == s) ≡ false) → (t : List ℕ) → list_all p t ≡ true → lacks s t ≡ true
passes_lack p s h [] all = refl
passes_lack p s h (b ∷ t) all =
    let (first, rest) = and_parts (p b) (list_all p t) all in
    rw (h b first, passes_lack p s h t rest) refl

-- ---- printable bytes

abbrev pub graphic : List ℕ → Bool
graphic t = list_all is_ascii_graphic t

pub graphic_within : (c : ℕ) → 33 ≤ c → c ≤ 126 → is_ascii_graphic c ≡ true
graphic_within c low high = rw (le-leb 33 c low, le-leb c 126 high) refl

-- printable bytes are 33 to 126
pub within_graphic : (c : ℕ) → is_ascii_graphic c ≡ true → (33 ≤ c) × (c ≤ 126)
within_graphic c h = let (low, high) = and_parts (nat_le 33 c) (nat_le c 126) h in (leb-true 33 c low, leb-true c 126 high)

no_space : (c : ℕ) → is_ascii_graphic c ≡ true → (c == 32) ≡ false
no_space c h = let w = within_graphic c h in ne_eqb c 32 (omega (arith, w.0))

-- printable bytes are no spaces
pub graphic_lacks : (t : List ℕ) → graphic t ≡ true → lacks 32 t ≡ true
graphic_lacks t h = passes_lack is_ascii_graphic 32 no_space t h

-- ---- names, domains, numbers

name_byte : (b : ℕ) → is_name_byte b ≡ true → is_ascii_graphic b ≡ true
name_byte b h =
    let x = (and_parts (nat_le 0x21 b && nat_le b 0x7e && not (b == 0x2f)) (not (b == 0x3a)) h).0 in
    (and_parts (nat_le 0x21 b && nat_le b 0x7e) (not (b == 0x2f)) x).0

-- a name is printable
pub name_graphic : (n : List ℕ) → is_name n ≡ true → graphic n ≡ true
name_graphic n h = weaken is_name_byte is_ascii_graphic name_byte n (and_parts (nat_le 1 (length n) && nat_le (length n) MAX_NAME_LEN && not (is_reserved n)) (list_all is_name_byte n) h).1

domain_byte : (b : ℕ) → is_domain_byte b ≡ true → is_ascii_graphic b ≡ true
domain_byte b h = (and_parts (nat_le 0x21 b && nat_le b 0x7e) (not (b == 0x2c)) h).0

-- a domain is printable
pub domain_graphic : (d : List ℕ) → is_domain d ≡ true → graphic d ≡ true
domain_graphic d h = weaken is_domain_byte is_ascii_graphic domain_byte d (and_parts (nat_le 1 (length d) && nat_le (length d) MAX_DOMAIN_LEN) (list_all is_domain_byte d) h).1

no_comma : (b : ℕ) → is_domain_byte b ≡ true → (b == 44) ≡ false
no_comma b h =
    let n = (and_parts (nat_le 0x21 b && nat_le b 0x7e) (not (b == 0x2c)) h).1 in
    elim (cases_Bool (b == 44)) [ inl is ↦ let w = rw is at n in absurd cc | inr other ↦ other ]

-- a domain holds no comma
pub domain_lacks : (d : List ℕ) → is_domain d ≡ true → lacks 44 d ≡ true
domain_lacks d h = passes_lack is_domain_byte 44 no_comma d (and_parts (nat_le 1 (length d) && nat_le (length d) MAX_DOMAIN_LEN) (list_all is_domain_byte d) h).1

digits_graphic : (t : List ℕ) → AllDigits 10 t → graphic t ≡ true
digits_graphic [] h = refl
digits_graphic (c ∷ t) h =
    let k = digit_from_value c h.0 in
    rw (graphic_within c (omega (arith, k)) (omega (arith, k)), digits_graphic t h.1) refl

-- a decimal number is printable
pub decimal_graphic : (n : ℕ) → n < 2 ^ 64 → graphic (decimal n) ≡ true
decimal_graphic n h = digits_graphic (decimal n) (decimal_is_IsNumeral n h).0.1

-- ---- MAC addresses

glyph_graphic : (d : ℕ) → d < 16 → is_ascii_graphic (digit_glyph true d) ≡ true
glyph_graphic d h = each_below (λ k. is_ascii_graphic (digit_glyph true k)) 16 d refl h

pair_graphic : (b : ℕ) → b < 2 ^ 8 → graphic (pair_text b) ≡ true
pair_graphic b h =
    let high : b / 16 < 16 = omega arith in
    let low : b % 16 < 16 = omega arith in
    rw (glyph_graphic (b / 16) high, glyph_graphic (b % 16) low) refl

pairs_graphic : (bytes : List ℕ) → All (λ b. b < 2 ^ 8) bytes → list_all (list_all is_ascii_graphic) (map pair_text bytes) ≡ true
pairs_graphic [] h = refl
pairs_graphic (b ∷ bytes) h =
    rw (pair_graphic b (All-head (λ b. b < 2 ^ 8) b bytes h), pairs_graphic bytes (All-tail (λ b. b < 2 ^ 8) b bytes h)) refl

-- a MAC address is printable
pub mac_graphic : (bytes : List ℕ) → All (λ b. b < 2 ^ 8) bytes → graphic (mac_text bytes) ≡ true
mac_graphic bytes h = all-joined is_ascii_graphic 58 refl (map pair_text bytes) (pairs_graphic bytes h)

-- ---- addresses: hexadecimal digits, colons and dots

-- what hexadecimal digits are
pub hex_within : (c : ℕ) → is_hex_digit c ≡ true → (48 ≤ c) × (c ≤ 102)
hex_within c h = elim (cases_Bool (nat_lt c 48)) [
  | inl low ↦ let w = rw low at h in absurd cc
  | inr high ↦ (ltb-false c 48 high, top c (ltb-false c 48 high) h)
]
  where
    top : (c : ℕ) → 48 ≤ c → is_hex_digit c ≡ true → c ≤ 102
    top c low h = elim (cases_Bool (nat_lt c 103)) [
      | inl is ↦ let w : c < 103 = ltb-true c 103 is in omega (arith, w)
      | inr not ↦
          let past : 103 ≤ c = ltb-false c 103 not in
          let a = le-ltb c 48 (omega (arith, past)) in
          let b = le-ltb c 58 (omega (arith, past)) in
          let d = le-ltb c 65 (omega (arith, past)) in
          let e = le-ltb c 91 (omega (arith, past)) in
          let f = le-ltb c 97 (omega (arith, past)) in
          elim (cases_Bool (nat_lt c 123)) [
            | inl letter ↦
                let w = rw (a, b, d, e, f, letter) at h in
                let x : c - 87 < 16 = ltb-true (c - 87) 16 w in
                absurd (omega (arith, x, past))
            | inr none ↦ let w = rw (a, b, d, e, f, none) at h in absurd cc
          ]
    ]

module _ (p : ℕ → Bool) (hex : (b : ℕ) → is_hex_digit b ≡ true → p b ≡ true) (colon : p 58 ≡ true) (dot : p 46 ≡ true) where
  field_all : (t : List ℕ) → is_field t ≡ true → list_all p t ≡ true
  field_all t h = weaken is_hex_digit p hex t (and_parts (nat_le 1 (length t) && nat_le (length t) 4) (list_all is_hex_digit t) h).1

  octet_hex : (n : ℕ) → n < 256 → list_all is_hex_digit (decimal n) ≡ true
  unfolding digits
  octet_hex n h = each_below (λ k. list_all is_hex_digit (decimal k)) 256 n refl h

  pub octet_all : (n : ℕ) → n < 256 → list_all p (decimal n) ≡ true
  octet_all n h = weaken is_hex_digit p hex (decimal n) (octet_hex n h)

  dotted_all : (t : List ℕ) (n : ℕ) → IsDotted t n → list_all p t ≡ true
  dotted_all t n h =
      let a = octet_all (n / 2 ^ 24) (omega (arith, h.0)) in
      let b = octet_all (n / 2 ^ 16 % 256) (omega arith) in
      let c = octet_all (n / 2 ^ 8 % 256) (omega arith) in
      let d = octet_all (n % 256) (omega arith) in
      let all : list_all p (dotted n) ≡ true =
      all-sign p (decimal (n / 2 ^ 24)) 46 _ a dot (all-sign p (decimal (n / 2 ^ 16 % 256)) 46 _ b dot (all-sign p (decimal (n / 2 ^ 8 % 256)) 46 (decimal (n % 256)) c dot d)) in
      subst (λ (t : List ℕ). list_all p t ≡ true) (sym h.1) all

  fields_all : (ps : List (List ℕ)) (vs : List ℕ) → AreFields ps vs → list_all p (joined 58 ps) ≡ true
  fields_all [] vs h = refl
  fields_all (t ∷ ps) [] h = absurd h
  fields_all (t ∷ []) (v ∷ vs) h = field_all t h.0.0
  fields_all (t ∷ q ∷ ps) (v ∷ vs) h = all-sign p t 58 (joined 58 (q ∷ ps)) (field_all t h.0.0) colon (fields_all (q ∷ ps) vs h.1)

  run_all : (ps : List (List ℕ)) (vs : List ℕ) → IsRun ps vs → list_all p (joined 58 ps) ≡ true
  run_all [] vs h = refl
  run_all (t ∷ []) vs h = elim h [
    | inl f ↦ fields_all (t ∷ []) vs f
    | inr d ↦ dotted_all t d.0 d.1.0
  ]
  run_all (t ∷ q ∷ ps) [] h = absurd h
  run_all (t ∷ q ∷ ps) (v ∷ vs) h = all-sign p t 58 (joined 58 (q ∷ ps)) (field_all t h.0.0) colon (run_all (q ∷ ps) vs h.1)

  v6_all : (t : List ℕ) (bits : ℕ) → IsV6 t bits → list_all p t ≡ true
  v6_all t bits (inl w) = subst (λ (t : List ℕ). list_all p t ≡ true) (sym w.written) (run_all w.parts w.fields w.run)
  v6_all t bits (inr s) =
      let back : list_all p (58 ∷ joined 58 s.right) ≡ true = rw (colon, run_all s.right s.back s.back_run) refl in
      subst (λ (t : List ℕ). list_all p t ≡ true) (sym s.written) (all-sign p (joined 58 s.left) 58 (58 ∷ joined 58 s.right) (fields_all s.left s.front s.front_fields) colon back)

  text_all : (v6 : Bool) (bits : ℕ) → bits < 2 ^ max_len v6 → list_all p (addr_text (address v6 bits)) ≡ true
  text_all false bits h = dotted_all (dotted bits) bits (h, refl)
  text_all true bits h = v6_all (addr_text (address true bits)) bits (v6_text-reads bits h)

  pub addr_all : (a : Address) → IsAddress a → list_all p (addr_text a) ≡ true
  addr_all a h = text_all a.v6 a.bits h

hex_graphic : (b : ℕ) → is_hex_digit b ≡ true → is_ascii_graphic b ≡ true
hex_graphic b h = let w = hex_within b h in graphic_within b (omega (arith, w.0)) (omega (arith, w.1))

-- an address is printable
pub addr_graphic : (a : Address) → IsAddress a → graphic (addr_text a) ≡ true
addr_graphic a h = addr_all is_ascii_graphic hex_graphic refl refl a h

small : (v6 : Bool) (n : ℕ) → n ≤ max_len v6 → n < 256
small true n h = omega arith
small false n h = omega arith

-- a prefix is printable
pub prefix_graphic : (b : Block) → IsAddress b.addr → IsPrefix b → graphic (prefix_text b) ≡ true
prefix_graphic b h k =
    all-sign is_ascii_graphic (addr_text b.addr) 47 (decimal b.len) (addr_graphic b.addr h) refl
    (octet_all is_ascii_graphic hex_graphic refl refl b.len (small b.addr.v6 b.len k))

-- a byte that isn't a comma
abbrev no_comma_sign : ℕ → Bool
no_comma_sign b = not (b == 44)

hex_no_comma : (b : ℕ) → is_hex_digit b ≡ true → no_comma_sign b ≡ true
hex_no_comma b h = let w = hex_within b h in rw (ne_eqb b 44 (omega (arith, w.0))) refl

not_comma : (b : ℕ) → no_comma_sign b ≡ true → (b == 44) ≡ false
not_comma b n = elim (cases_Bool (b == 44)) [ inl is ↦ let w = rw is at n in absurd cc | inr other ↦ other ]

-- an address holds no comma
pub addr_lacks : (a : Address) → IsAddress a → lacks 44 (addr_text a) ≡ true
addr_lacks a h = passes_lack no_comma_sign 44 not_comma (addr_text a) (addr_all no_comma_sign hex_no_comma refl refl a h)

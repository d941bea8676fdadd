-- What the types of the model hold has bytes, and which these are.
use Rattle.std.proofs.Common.{◌≡◌, ℕ, zero, suc, ◌≤◌, ◌<◌, ◌^◌, Bool, true, false, not, cond, eqb, leb, ◌&&◌, List, [], ◌∷◌, ◌++◌, length, get_or, Some, None, refl, sym, ap, subst, ◌∙◌, append_assoc, arith}
use Rattle.std.specs.List.{list_all}
use Rattle.std.proofs.lemmas.Bool.{and_parts, and_from, lt-ltb, le-leb, eq-eqb, leb-true}
use Rattle.net_model.specs.Address.{Address, Block, address, max_len, IsAddress, IsPrefix, IsSubnet}
use Rattle.net_model.specs.Domain.{is_domain, is_domain_byte}
use Rattle.net_model.specs.Name.{is_name, is_name_byte}
use Rattle.net_image.specs.Form.{is_byte, number}
use Rattle.net_image.specs.Fields.{text, name, maybe_name, domain, family_number, address_form, gateway, prefix, subnet}
use Rattle.net_image.proofs.lemmas.Short.{name_length}

name_bytes : (bytes : List ℕ) → list_all is_name_byte bytes ≡ true → list_all is_byte bytes ≡ true
name_bytes [] all = refl
name_bytes (b ∷ bytes) all =
    let parts = and_parts (is_name_byte b) (list_all is_name_byte bytes) all in
    let small = leb-true b 0x7e (and_parts _ _ (and_parts _ _ (and_parts (leb 0x21 b && leb b 0x7e && not (eqb b 0x2f)) _ parts.0).0).0).1 in
    and_from (is_byte b) (list_all is_byte bytes) (lt-ltb b 256 (omega arith)) (name_bytes bytes parts.1)

pub record Named (bytes : List ℕ) : Type 0 where
  pub short : length bytes < 256
  pub written : name.write bytes ≡ length bytes ∷ bytes
  pub fits : name.fits bytes ≡ true

-- a name is written as its length and its bytes, and fits
pub names : (bytes : List ℕ) → is_name bytes ≡ true → Named bytes
unfolding name text
names bytes is =
    let n = name_length bytes is in
    let all = name_bytes bytes (and_parts _ _ is).1 in
    record {
      short = omega arith;
      written = refl;
      fits = and_from (is_name bytes) (is_byte (length bytes) && (eqb (length bytes) (length bytes) && list_all is_byte bytes)) is (and_from (is_byte (length bytes)) (eqb (length bytes) (length bytes) && list_all is_byte bytes) (lt-ltb (length bytes) 256 (omega arith)) (and_from (eqb (length bytes) (length bytes)) (list_all is_byte bytes) (eq-eqb (length bytes) (length bytes) refl) all));
    }

written_as : (v6 : Bool) (bits : ℕ) → address_form.write (address v6 bits) ≡ family_number v6 ∷ (number (cond v6 16 4)).write bits
unfolding address_form
written_as true bits = refl
written_as false bits = refl

fits_as : (v6 : Bool) (bits : ℕ) → bits < 2 ^ max_len v6 → address_form.fits (address v6 bits) ≡ true
unfolding address_form
fits_as true bits lt = lt-ltb bits (2 ^ 128) lt
fits_as false bits lt = lt-ltb bits (2 ^ 32) lt

pub record Addressed (a : Address) : Type 0 where
  pub six : a.v6 ≡ true → address_form.write a ≡ 6 ∷ (number 16).write a.bits
  pub four : a.v6 ≡ false → address_form.write a ≡ 4 ∷ (number 4).write a.bits
  pub low : a.v6 ≡ false → a.bits < 2 ^ 32
  pub fits : address_form.fits a ≡ true

-- an address is written as the number of its family and its bits, and fits
pub addresses : (a : Address) → IsAddress a → Addressed a
addresses a is = record {
  six = λ v6. written_as a.v6 a.bits ∙ ap (λ (v : Bool). family_number v ∷ (number (cond v 16 4)).write a.bits) v6;
  four = λ v4. written_as a.v6 a.bits ∙ ap (λ (v : Bool). family_number v ∷ (number (cond v 16 4)).write a.bits) v4;
  low = λ v4. subst (λ (v : Bool). a.bits < 2 ^ max_len v) v4 is;
  fits = fits_as a.v6 a.bits is;
}

pub record Gatewayed (a : Address) : Type 0 where
  pub written : gateway.write (Some a) ≡ address_form.write a
  pub fits : address_form.fits a ≡ true → gateway.fits (Some a) ≡ true

gateway_as : (v6 : Bool) (bits : ℕ) → gateway.write (Some (address v6 bits)) ≡ address_form.write (address v6 bits)
unfolding gateway address_form
gateway_as true bits = refl
gateway_as false bits = refl

gateway_fits : (v6 : Bool) (bits : ℕ) → address_form.fits (address v6 bits) ≡ true → gateway.fits (Some (address v6 bits)) ≡ true
unfolding gateway address_form
gateway_fits true bits fits = fits
gateway_fits false bits fits = fits

pub gateways : (a : Address) → Gatewayed a
gateways a = record { written = gateway_as a.v6 a.bits; fits = gateway_fits a.v6 a.bits }

pub record Subnetted (b : Block) : Type 0 where
  pub written : subnet.write b ≡ address_form.write b.addr ++ b.len ∷ []
  pub fits : address_form.fits b.addr ≡ true → subnet.fits b ≡ true

len_below : (v6 : Bool) (n : ℕ) → n ≤ max_len v6 → n < 256
len_below true n le = omega arith
len_below false n le = omega arith

-- a subnet is written as its address and its length, and fits
pub subnets : (b : Block) → IsSubnet b → Subnetted b
unfolding subnet prefix
subnets b is = record {
  written = refl;
  fits = λ fits. and_from _ _ (eq-eqb _ _ is.no_host_bits) (and_from _ _ (le-leb _ _ is.within) (and_from _ _ fits (lt-ltb _ _ (len_below b.addr.v6 b.len is.within))));
}

-- one byte behind the old ones, and the rest behind it
pub appended : (old mid new all rest : List ℕ) (b : ℕ) → mid ≡ old ++ b ∷ [] → new ≡ mid ++ rest → all ≡ b ∷ rest → new ≡ old ++ all
appended old mid new all rest b one two is = two ∙ ap (λ (l : List ℕ). l ++ rest) one ∙ append_assoc old (b ∷ []) rest ∙ ap (λ (l : List ℕ). old ++ l) (sym is)

-- what is below 256 is bytes
pub all_bytes : (bytes : List ℕ) → ((i : ℕ) → get_or bytes i 0 < 256) → list_all is_byte bytes ≡ true
all_bytes [] are = refl
all_bytes (b ∷ bytes) are = and_from (is_byte b) (list_all is_byte bytes) (lt-ltb b 256 (are 0)) (all_bytes bytes (λ i. are (suc i)))

-- a name that may be missing is written as the name, or as a length of 0
pub maybe_named : (bytes : List ℕ) → is_name bytes ≡ true → maybe_name.write (Some bytes) ≡ name.write bytes
unfolding maybe_name name
maybe_named [] is = absurd cc
maybe_named (b ∷ bytes) is = refl

-- a name fits where one may be missing
pub maybe_fits : (bytes : List ℕ) → is_name bytes ≡ true → maybe_name.fits (Some bytes) ≡ true
unfolding maybe_name name
maybe_fits [] is = absurd cc
maybe_fits (b ∷ bytes) is = (names (b ∷ bytes) is).fits

pub no_name : maybe_name.write None ≡ 0 ∷ []
unfolding maybe_name text
no_name = refl

pub no_name_fits : maybe_name.fits None ≡ true
unfolding maybe_name text
no_name_fits = refl

domain_bytes : (bytes : List ℕ) → list_all is_domain_byte bytes ≡ true → list_all is_byte bytes ≡ true
domain_bytes [] all = refl
domain_bytes (b ∷ bytes) all =
    let parts = and_parts (is_domain_byte b) (list_all is_domain_byte bytes) all in
    let small = leb-true b 0x7e (and_parts _ _ (and_parts (leb 0x21 b && leb b 0x7e) _ parts.0).0).1 in
    and_from (is_byte b) (list_all is_byte bytes) (lt-ltb b 256 (omega arith)) (domain_bytes bytes parts.1)

pub record Searched (bytes : List ℕ) : Type 0 where
  pub short : length bytes < 256
  pub written : domain.write bytes ≡ length bytes ∷ bytes
  pub fits : domain.fits bytes ≡ true

-- a domain is written as its length and its bytes, and fits
pub domains : (bytes : List ℕ) → is_domain bytes ≡ true → Searched bytes
unfolding domain text
domains bytes is =
    let parts = and_parts (leb 1 (length bytes) && leb (length bytes) 253) (list_all is_domain_byte bytes) is in
    let most = leb-true (length bytes) 253 (and_parts _ _ parts.0).1 in
    let all = domain_bytes bytes parts.1 in
    record {
      short = omega arith;
      written = refl;
      fits = and_from (is_domain bytes) (is_byte (length bytes) && (eqb (length bytes) (length bytes) && list_all is_byte bytes)) is (and_from (is_byte (length bytes)) (eqb (length bytes) (length bytes) && list_all is_byte bytes) (lt-ltb (length bytes) 256 (omega arith)) (and_from (eqb (length bytes) (length bytes)) (list_all is_byte bytes) (eq-eqb (length bytes) (length bytes) refl) all));
    }

pub record Prefixed (b : Block) : Type 0 where
  pub written : prefix.write b ≡ address_form.write b.addr ++ b.len ∷ []
  pub fits : address_form.fits b.addr ≡ true → prefix.fits b ≡ true

-- a prefix is written as its address and its length, and fits
pub prefixes : (b : Block) → IsPrefix b → Prefixed b
unfolding prefix
prefixes b is = record { written = refl; fits = λ fits. and_from _ _ (le-leb _ _ is) (and_from _ _ fits (lt-ltb _ _ (len_below b.addr.v6 b.len is))) }

-- what was written behind the old bytes, and more behind it
pub behind : (old mid new x y : List ℕ) → mid ≡ old ++ x → new ≡ mid ++ y → new ≡ old ++ (x ++ y)
behind old mid new x y one two = two ∙ ap (λ (l : List ℕ). l ++ y) one ∙ append_assoc old x y

-- a test that all pass is passed by each
pub each_passes : {X : Type 0} (test : X → Bool) (xs : List X) (i : ℕ) (d : X) → i < length xs → list_all test xs ≡ true → test (get_or xs i d) ≡ true
each_passes test [] i d lt all = absurd (omega arith)
each_passes test (x ∷ xs) zero d lt all = (and_parts (test x) (list_all test xs) all).0
each_passes test (x ∷ xs) (suc i) d lt all = each_passes test xs i d (omega arith) (and_parts (test x) (list_all test xs) all).1

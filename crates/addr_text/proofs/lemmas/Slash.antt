-- No text of an address holds a slash.
use Rattle.std.proofs.Common.{◌≡◌, ℕ, ◌/◌, ◌%◌, ◌^◌, ◌<◌, true, ◌&&◌, nat_le, List, [], ◌∷◌, ◌++◌, length, refl, sym, subst, arith, inl, inr}
use Rattle.std.proofs.lemmas.Bool.{and_parts}
use Rattle.std.specs.Fmt.{decimal}
use Rattle.std.specs.List.{list_all}
use Rattle.addr_text.specs.Digits.{is_field, is_hex_digit}
use Rattle.addr_text.specs.Dotted.{IsDotted, dotted}
use Rattle.addr_text.specs.Parts.{joined}
use Rattle.addr_text.specs.V6.{AreFields, IsRun, IsV6}
use Rattle.addr_text.proofs.Marks.{lacks-all, lacks-append}
use Rattle.addr_text.proofs.lemmas.Numbers.{decimal_lacks_slash}
use Rattle.addr_text.proofs.lemmas.Split.{lacks}

-- no text of an IPv4 address holds a slash
pub dotted_lacks_slash : (t : List ℕ) (n : ℕ) → IsDotted t n → lacks 47 t ≡ true
dotted_lacks_slash t n h =
    let a = decimal (n / 2 ^ 24) in
    let b = decimal (n / 2 ^ 16 % 256) in
    let c = decimal (n / 2 ^ 8 % 256) in
    let d = decimal (n % 256) in
    let top : n / 2 ^ 24 < 256 = omega (arith, h.0) in
    let cd = lacks-append 47 c (46 ∷ d) (decimal_lacks_slash (n / 2 ^ 8 % 256) (omega arith)) (decimal_lacks_slash (n % 256) (omega arith)) in
    let bcd = lacks-append 47 b (46 ∷ c ++ 46 ∷ d) (decimal_lacks_slash (n / 2 ^ 16 % 256) (omega arith)) cd in
    let l : lacks 47 (dotted n) ≡ true = lacks-append 47 a (46 ∷ b ++ 46 ∷ (c ++ 46 ∷ d)) (decimal_lacks_slash (n / 2 ^ 24) top) bcd in
    subst (λ t. lacks 47 t ≡ true) (sym h.1) l

field_lacks : (p : List ℕ) → is_field p ≡ true → lacks 47 p ≡ true
field_lacks p h =
    let b = and_parts (nat_le 1 (length p) && nat_le (length p) 4) (list_all is_hex_digit p) h in
    lacks-all is_hex_digit 47 p refl b.1

fields_lack : (ps : List (List ℕ)) (vs : List ℕ) → AreFields ps vs → lacks 47 (joined 58 ps) ≡ true
fields_lack [] vs h = refl
fields_lack (p ∷ ps) [] h = absurd h
fields_lack (p ∷ []) (v ∷ vs) h = field_lacks p h.0.0
fields_lack (p ∷ q ∷ ps) (v ∷ vs) h = lacks-append 47 p (58 ∷ joined 58 (q ∷ ps)) (field_lacks p h.0.0) (fields_lack (q ∷ ps) vs h.1)

run_lacks : (ps : List (List ℕ)) (vs : List ℕ) → IsRun ps vs → lacks 47 (joined 58 ps) ≡ true
run_lacks [] vs h = refl
run_lacks (p ∷ []) vs h =
    elim h [
      | inl f ↦ fields_lack (p ∷ []) vs f
      | inr t ↦ dotted_lacks_slash p t.0 t.1.0
    ]
run_lacks (p ∷ q ∷ ps) [] h = absurd h
run_lacks (p ∷ q ∷ ps) (v ∷ vs) h = lacks-append 47 p (58 ∷ joined 58 (q ∷ ps)) (field_lacks p h.0.0) (run_lacks (q ∷ ps) vs h.1)

-- no text of an IPv6 address holds a slash
pub v6_lacks_slash : (t : List ℕ) (bits : ℕ) → IsV6 t bits → lacks 47 t ≡ true
v6_lacks_slash t bits (inl w) = subst (λ t. lacks 47 t ≡ true) (sym w.written) (run_lacks w.parts w.fields w.run)
v6_lacks_slash t bits (inr s) =
    subst (λ t. lacks 47 t ≡ true) (sym s.written)
    (lacks-append 47 (joined 58 s.left) (58 ∷ 58 ∷ joined 58 s.right) (fields_lack s.left s.front s.front_fields) (run_lacks s.right s.back s.back_run))

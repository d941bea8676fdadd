-- The text of an IPv6 address that is written is one of it.
use Rattle.std.proofs.Common.{◌≡◌, ℕ, ◌+◌, ◌-◌, ◌*◌, ◌/◌, ◌%◌, ◌^◌, ◌<◌, ◌≤◌, nat_le, map, List, [], ◌∷◌, ◌++◌, length, take, drop, replicate, refl, ap, sym, ◌∙◌, subst, arith, suc, zero, inl, inr, length-append, length-take, length-drop}
use Rattle.std.proofs.lemmas.Bool.{cond-true, cond-false, cases_Bool}
use Rattle.std.proofs.lemmas.Bool.Decides.{nat_tests}
use Rattle.std.proofs.lemmas.Grind.{pow_more}
use Rattle.std.proofs.Math.Nat.{div-lt_iff_lt-mul}
use Rattle.addr_text.specs.V6.{AreFields, IsRun, fields_number, IsV6}
use Rattle.addr_text.specs.V6Text.{fields_of, hex, fields_text, longest, first_run, shortened, compressed, v6_text}
use Rattle.addr_text.proofs.lemmas.Exact.{fields_number-append}
use Rattle.addr_text.proofs.Hex.{hex_field}
use Rattle.addr_text.proofs.Runs.{run_within, run_whole}

-- each field is below 2 ^ 16
abbrev pub AreSmall : List ℕ → Type 0
AreSmall [] = Unit {0}
AreSmall (v ∷ vs) = (v < 65536) × AreSmall vs

small-append : (xs ys : List ℕ) → AreSmall xs → AreSmall ys → AreSmall (xs ++ ys)
small-append [] ys h k = k
small-append (x ∷ xs) ys h k = (h.0, small-append xs ys h.1 k)

small-take : (n : ℕ) (xs : List ℕ) → AreSmall xs → AreSmall (take n xs)
small-take zero xs h = tt
small-take (suc n) [] h = tt
small-take (suc n) (x ∷ xs) h = (h.0, small-take n xs h.1)

small-drop : (n : ℕ) (xs : List ℕ) → AreSmall xs → AreSmall (drop n xs)
small-drop zero xs h = h
small-drop (suc n) [] h = tt
small-drop (suc n) (x ∷ xs) h = small-drop n xs h.1

-- each field of a number is below 2 ^ 16
pub fields_small : (k n : ℕ) → AreSmall (fields_of k n)
fields_small zero n = tt
fields_small (suc k) n = small-append (fields_of k (n / 65536)) (n % 65536 ∷ []) (fields_small k (n / 65536)) (omega arith, tt)

-- a number has as many fields as asked for
pub fields_length : (k n : ℕ) → length (fields_of k n) ≡ k
fields_length zero n = refl
fields_length (suc k) n = length-append (fields_of k (n / 65536)) (n % 65536 ∷ []) ∙ rw (fields_length k (n / 65536)) (omega arith)

-- the fields of a number make it
pub fields_value : (k n : ℕ) → n < 65536 ^ k → fields_number (fields_of k n) ≡ n
fields_value zero n h = omega arith
fields_value (suc k) n h =
    let up : k + 1 ≡ suc k = omega arith in
    let less : n < 65536 ^ k * 65536 = subst (λ p. n < p) (pow_more 65536 k) (subst (λ m. n < 65536 ^ m) (sym up) h) in
    let part : n / 65536 < 65536 ^ k = (div-lt_iff_lt-mul (omega arith)).1 less in
    fields_number-append (fields_of k (n / 65536)) (n % 65536 ∷ []) ∙ rw (fields_value k (n / 65536) part) (omega arith)

hex_fields : (vs : List ℕ) → AreSmall vs → AreFields (map hex vs) vs
hex_fields [] h = refl
hex_fields (v ∷ vs) h = (hex_field v h.0, hex_fields vs h.1)

fields_run : (ps : List (List ℕ)) (vs : List ℕ) → AreFields ps vs → IsRun ps vs
fields_run [] vs h = h
fields_run (p ∷ []) vs h = inl h
fields_run (p ∷ q ∷ ps) [] h = h
fields_run (p ∷ q ∷ ps) (v ∷ vs) h = (h.0, fields_run (q ∷ ps) vs h.1)

whole_text : (fs : List ℕ) (bits : ℕ) → AreSmall fs → length fs ≡ 8 → fields_number fs ≡ bits → IsV6 (fields_text fs) bits
whole_text fs bits s l v = inl (record { parts = map hex fs; fields = fs; written = refl; run = fields_run (map hex fs) fs (hex_fields fs s); eight = l; value = sym v })

short_text : (fs : List ℕ) (bits n : ℕ) → AreSmall fs → length fs ≡ 8 → fields_number fs ≡ bits → n ≡ longest fs → 2 ≤ n → IsV6 (shortened fs (first_run n fs) n) bits
short_text fs bits n s l v e two =
    let start = first_run n fs in
    let front = take start fs in
    let back = drop (start + n) fs in
    let within : start + n ≤ length fs = run_within fs n e in
    let a : length front ≡ start = length-take start fs ∙ omega arith in
    let b : length back ≡ 8 - (start + n) = omega (arith, length-drop (start + n) fs) in
    let gap : 8 - (length front + length back) ≡ n = omega arith in
    inr (record {
      left = map hex front;
      right = map hex back;
      front = front;
      back = back;
      written = refl;
      front_fields = hex_fields front (small-take start fs s);
      back_run = fields_run (map hex back) back (hex_fields back (small-drop (start + n) fs s));
      stands_for_one = omega arith;
      value = sym v ∙ ap fields_number (sym (run_whole fs n e)) ∙ ap (λ m. fields_number (front ++ replicate m 0 ++ back)) (sym gap);
    })

-- a text of eight fields, the longest run of zeros left out, is one of their number
pub compressed_text : (fs : List ℕ) (bits : ℕ) → AreSmall fs → length fs ≡ 8 → fields_number fs ≡ bits → IsV6 (compressed fs) bits
compressed_text fs bits s l v =
    elim (cases_Bool (nat_le (longest fs) 1)) [
      | inl e ↦ subst (λ t. IsV6 t bits) (sym (cond-true (nat_le (longest fs) 1) (fields_text fs) (shortened fs (first_run (longest fs) fs) (longest fs)) e)) (whole_text fs bits s l v)
      | inr e ↦ subst (λ t. IsV6 t bits) (sym (cond-false (nat_le (longest fs) 1) (fields_text fs) (shortened fs (first_run (longest fs) fs) (longest fs)) e)) (short_text fs bits (longest fs) s l v refl (grind (arith, nat_tests)))
    ]

-- what is written for a number below 2 ^ 128 is a text of it
pub v6_text-reads : (bits : ℕ) → bits < 2 ^ 128 → IsV6 (v6_text bits) bits
v6_text-reads bits h = compressed_text (fields_of 8 bits) bits (fields_small 8 bits) (fields_length 8 bits) (fields_value 8 bits (omega arith))

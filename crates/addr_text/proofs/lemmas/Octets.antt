-- Reading four decimal numbers: a text is read exactly where it is that of a number.
use Rattle.std.proofs.Common.{◌≡◌, ℕ, ◌+◌, ◌*◌, ◌/◌, ◌%◌, ◌^◌, ◌<◌, ◌≤◌, ◌==◌, true, not, ◌&&◌, List, [], ◌∷◌, ◌++◌, Option, Some, None, length, take, drop, refl, ap, sym, ◌∙◌, subst, arith, suc, zero, inl, inr, ◌||◌, nat_le, slice_index}
use Rattle.std.proofs.lemmas.Bool.{leb-true, and_parts}
use Rattle.std.proofs.lemmas.Bool.Decides.{nat_tests}
use Rattle.std.proofs.lemmas.Fmt.{decimal_digit, decimal_step}
use Rattle.std.proofs.lemmas.Nat.{div-add-mod', div-mul-add}
use Rattle.std.proofs.lemmas.Grind.{pow_more}
use Rattle.std.proofs.Math.Nat.{div-lt_iff_lt-mul, one-le-pow, mul-add-mod_self_right, mod-eq_of_lt}
use Rattle.std.specs.Char.{digit_value}
use Rattle.std.specs.Fmt.{decimal}
use Rattle.std.specs.List.{position, list_all}
use Rattle.addr_text.specs.Digits.{octet_of, is_octet, is_decimal_digit, number}
use Rattle.addr_text.specs.Dotted.{octets_of, octet_before, dotted, dotted_of, IsDotted}
use Rattle.addr_text.proofs.lemmas.Cases.{placed_or_none, kept}
use Rattle.addr_text.proofs.lemmas.Numbers.{octet_of-decimal, decimal_lacks_dot}
use Rattle.addr_text.proofs.lemmas.Split.{position-front, split-at, take-front, drop-front}

-- a byte that is a decimal digit is the one of its value
ascii_digit : (x : ℕ) → is_decimal_digit x ≡ true → (x ≡ 48 + digit_value x) × (digit_value x < 10)
ascii_digit x h = grind (arith, nat_tests)

two_digits : (a b : ℕ) → 1 ≤ a → a < 10 → b < 10 → decimal (a * 10 + b) ≡ (48 + a) ∷ (48 + b) ∷ []
two_digits a b h i j =
    let n : ℕ = a * 10 + b in
    let q : n / 10 ≡ a = omega arith in
    let r : n % 10 ≡ b = omega arith in
    decimal_step n (omega arith) (omega arith) ∙ rw (q, r, decimal_digit a i) refl

three_digits : (a b c : ℕ) → 1 ≤ a → a < 10 → b < 10 → c < 10 → decimal ((a * 10 + b) * 10 + c) ≡ (48 + a) ∷ (48 + b) ∷ (48 + c) ∷ []
three_digits a b c h i j k =
    let n : ℕ = (a * 10 + b) * 10 + c in
    let q : n / 10 ≡ a * 10 + b = omega arith in
    let r : n % 10 ≡ c = omega arith in
    decimal_step n (omega arith) (omega arith) ∙ rw (q, r, two_digits a b h i j) refl

-- what an octet's test says
record Passes (t : List ℕ) : Type 0 where
  some_digits : nat_le 1 (length t) ≡ true
  few : nat_le (length t) 3 ≡ true
  digits : list_all is_decimal_digit t ≡ true
  no_leading_zero : (nat_le (length t) 1 || not (slice_index t 0 == 48)) ≡ true
  small : nat_le (number 10 t) 255 ≡ true

passes : (t : List ℕ) → is_octet t ≡ true → Passes t
passes t h =
    let a = nat_le 1 (length t) in
    let b = nat_le (length t) 3 in
    let c = list_all is_decimal_digit t in
    let d = nat_le (length t) 1 || not (slice_index t 0 == 48) in
    let last = and_parts (a && b && c && d) (nat_le (number 10 t) 255) h in
    let third = and_parts (a && b && c) d last.0 in
    let second = and_parts (a && b) c third.0 in
    let first = and_parts a b second.0 in
    record { some_digits = first.0; few = first.1; digits = second.1; no_leading_zero = third.1; small = last.1 }

-- a text that passes as an octet is the decimal text of its number
octet_text : (t : List ℕ) → Passes t → decimal (number 10 t) ≡ t
octet_text [] p = let h = p.some_digits in cc
octet_text (x ∷ []) p =
    let d = ascii_digit x (and_parts (is_decimal_digit x) true p.digits).0 in
    decimal_digit (digit_value x) d.1 ∙ ap (λ b. b ∷ []) (sym d.0)
octet_text (x ∷ y ∷ []) p =
    let rest = and_parts (is_decimal_digit x) (is_decimal_digit y && true) p.digits in
    let d = ascii_digit x rest.0 in
    let e = ascii_digit y (and_parts (is_decimal_digit y) true rest.1).0 in
    let z : not (x == 48) ≡ true = p.no_leading_zero in
    let low : 1 ≤ digit_value x = grind (arith, nat_tests, d) in
    two_digits (digit_value x) (digit_value y) low d.1 e.1 ∙ rw (← d.0, ← e.0) refl
octet_text (x ∷ y ∷ w ∷ []) p =
    let rest = and_parts (is_decimal_digit x) (is_decimal_digit y && (is_decimal_digit w && true)) p.digits in
    let more = and_parts (is_decimal_digit y) (is_decimal_digit w && true) rest.1 in
    let d = ascii_digit x rest.0 in
    let e = ascii_digit y more.0 in
    let f = ascii_digit w (and_parts (is_decimal_digit w) true more.1).0 in
    let z : not (x == 48) ≡ true = p.no_leading_zero in
    let low : 1 ≤ digit_value x = grind (arith, nat_tests, d) in
    three_digits (digit_value x) (digit_value y) (digit_value w) low d.1 e.1 f.1 ∙ rw (← d.0, ← e.0, ← f.0) refl
octet_text (x ∷ y ∷ w ∷ v ∷ r) p =
    let h : length (x ∷ y ∷ w ∷ v ∷ r) ≤ 3 = leb-true (length (x ∷ y ∷ w ∷ v ∷ r)) 3 p.few in
    absurd (omega arith)

-- a text that is read as an octet is its decimal text
pub octet_sound : (t : List ℕ) (n : ℕ) → octet_of t ≡ Some n → (n < 256) × (t ≡ decimal n)
octet_sound t n h =
    let k = kept (is_octet t) (number 10 t) n h in
    let p = passes t k.0 in
    let e : number 10 t ≡ n = k.1 in
    let small : number 10 t ≤ 255 = leb-true (number 10 t) 255 p.small in
    (omega arith, sym (octet_text t p) ∙ ap decimal e)

-- as many octets as said behind the first
abbrev pub octets_text : ℕ → ℕ → List ℕ
octets_text zero n = decimal n
octets_text (suc k) n = decimal (n / 256 ^ suc k) ++ 46 ∷ octets_text k (n % 256 ^ suc k)

octets_complete : (k n : ℕ) → n < 256 ^ (k + 1) → octets_of k (octets_text k n) ≡ Some n
octets_complete zero n h = octet_of-decimal n h
octets_complete (suc k) n h =
    let w = 256 ^ suc k in
    let pos : 0 < w = one-le-pow (suc k) 256 (omega arith) in
    let a = n / w in
    let r = n % w in
    let up : suc k + 1 ≡ suc (suc k) = omega arith in
    let below : n < 256 * w = omega (arith, pow_more 256 (suc k)) in
    let small : a < 256 = (div-lt_iff_lt-mul pos).1 below in
    let same : suc k ≡ k + 1 = omega arith in
    let less : r < 256 ^ (k + 1) = subst (λ m. r < 256 ^ m) same (omega arith) in
    let front = position-front 46 (decimal a) (octets_text k r) (decimal_lacks_dot a small) in
    rw (front, take-front 46 (decimal a) (octets_text k r), drop-front 46 (decimal a) (octets_text k r), octet_of-decimal a small, octets_complete k r less) (ap Some (div-add-mod' n w))

-- an octet and what follows it
record Before (w : ℕ) (first rest : Option ℕ) (n : ℕ) : Type 0 where
  octet : ℕ
  number_behind : ℕ
  first_is : first ≡ Some octet
  rest_is : rest ≡ Some number_behind
  sum : octet * w + number_behind ≡ n

before : (w : ℕ) (first rest : Option ℕ) (n : ℕ) → octet_before w first rest ≡ Some n → Before w first rest n
before w None rest n h = cc
before w (Some a) None n h = cc
before w (Some a) (Some r) n h = record { octet = a; number_behind = r; first_is = refl; rest_is = refl; sum = cc }

fits : (a w r : ℕ) → a < 256 → r < w → a * w + r < w * 256
fits a w r h l = grind arith

rejoined : (w k a r n : ℕ) (u v : List ℕ) → u ≡ decimal a → v ≡ octets_text k r → n / w ≡ a → n % w ≡ r → u ++ 46 ∷ v ≡ decimal (n / w) ++ 46 ∷ octets_text k (n % w)
rejoined w k a r n u v e f g h = rw (e, f, g, h) refl

octets_sound : (k : ℕ) (t : List ℕ) (n : ℕ) → octets_of k t ≡ Some n → (n < 256 ^ (k + 1)) × (t ≡ octets_text k n)
octets_sound zero t n h = octet_sound t n h
octets_sound (suc k) t n h =
    elim (placed_or_none (position (λ b. b == 46) t) None (λ i. octet_before (256 ^ suc k) (octet_of (take i t)) (octets_of k (drop (i + 1) t))) (Some n) h) [
      | inl e ↦ let z : None ≡ Some n = e.1 in cc
      | inr p ↦
          let w = 256 ^ suc k in
          let b = before w (octet_of (take p.place t)) (octets_of k (drop (p.place + 1) t)) n p.read in
          let a = b.octet in
          let r = b.number_behind in
          let first = octet_sound (take p.place t) a b.first_is in
          let rest = octets_sound k (drop (p.place + 1) t) r b.rest_is in
          let same : k + 1 ≡ suc k = omega arith in
          let less : r < w = subst (λ m. r < 256 ^ m) same rest.0 in
          let sum : a * w + r ≡ n = b.sum in
          let high : n / w ≡ a = subst (λ m. m / w ≡ a) sum (div-mul-add a w r less) in
          let low : n % w ≡ r = subst (λ m. m % w ≡ r) sum (mul-add-mod_self_right a w r ∙ mod-eq_of_lt less) in
          let bound : n < w * 256 = subst (λ m. m < w * 256) sum (fits a w r first.0 less) in (
            subst (λ m. n < m) (sym (pow_more 256 (suc k))) bound,
            sym (split-at 46 t p.place p.found) ∙ rejoined w k a r n (take p.place t) (drop (p.place + 1) t) first.1 rest.1 high low,
          )
    ]

dotted_is : (n : ℕ) → n < 2 ^ 32 → dotted n ≡ octets_text 3 n
dotted_is n h =
    let e : n / 65536 % 256 ≡ n % 16777216 / 65536 = omega arith in
    let f : n / 256 % 256 ≡ n % 16777216 % 65536 / 256 = omega arith in
    let g : n % 256 ≡ n % 16777216 % 65536 % 256 = omega arith in
    rw (e, f, g) refl

-- four decimal numbers with dots are read as their number
pub dotted_complete : (t : List ℕ) (n : ℕ) → IsDotted t n → dotted_of t ≡ Some n
dotted_complete t n h = rw (h.1, dotted_is n h.0) (octets_complete 3 n h.0)

-- a text that is read as a number is its four decimal numbers with dots
pub dotted_sound : (t : List ℕ) (n : ℕ) → dotted_of t ≡ Some n → IsDotted t n
dotted_sound t n h = let s = octets_sound 3 t n h in (s.0, s.1 ∙ sym (dotted_is n s.0))

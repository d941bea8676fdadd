-- Parts hold no sign that stands between them.
use Rattle.std.proofs.Common.{◌≡◌, ℕ, ◌+◌, ◌/◌, ◌%◌, ◌<◌, ◌==◌, ◌⊎◌, Bool, true, false, not, ◌&&◌, nat_le, List, [], ◌∷◌, ◌++◌, Option, Some, None, length, take, drop, eqb-true, refl, ap, sym, ◌∙◌, subst, arith, suc, inl, inr, append_assoc, length-append, cond, ◌^◌}
use Rattle.std.proofs.lemmas.Bool.{and_parts, not-true}
use Rattle.std.proofs.lemmas.List.{append-nil}
use Rattle.std.proofs.lemmas.Bool.Decides.{nat_tests, eqb_tells}
use Rattle.std.specs.Fmt.{decimal}
use Rattle.std.specs.List.{list_all}
use Rattle.std.specs.Option.{option_map}
use Rattle.addr_text.specs.Digits.{is_field, is_hex_digit}
use Rattle.addr_text.specs.Dotted.{IsDotted, dotted}
use Rattle.addr_text.specs.Find.{gap_of, begins_with}
use Rattle.addr_text.specs.Parts.{joined}
use Rattle.addr_text.specs.V6.{AreFields, IsRun}
use Rattle.addr_text.proofs.lemmas.Numbers.{decimal_lacks_colon}
use Rattle.addr_text.proofs.lemmas.Split.{lacks}

-- a byte that passes isn't one that fails
differs : (p : ℕ → Bool) (x s : ℕ) → p x ≡ true → p s ≡ false → (x == s) ≡ false
differs p x s h k =
    elim (eqb_tells x s) [
      | inl e ↦ let z : true ≡ false = sym h ∙ ap p e.1 ∙ k in cc
      | inr e ↦ e.0
    ]

pub lacks-all : (p : ℕ → Bool) (s : ℕ) (xs : List ℕ) → p s ≡ false → list_all p xs ≡ true → lacks s xs ≡ true
lacks-all p s [] k h = refl
lacks-all p s (x ∷ xs) k h =
    let b = and_parts (p x) (list_all p xs) h in
    rw (differs p x s b.0 k) (lacks-all p s xs k b.1)

pub lacks-append : (s : ℕ) (xs ys : List ℕ) → lacks s xs ≡ true → lacks s ys ≡ true → lacks s (xs ++ ys) ≡ true
lacks-append s [] ys h k = k
lacks-append s (x ∷ xs) ys h k =
    let b = and_parts (not (x == s)) (lacks s xs) h in
    rw b.0 (lacks-append s xs ys b.1 k)

-- not empty, and without a colon
abbrev pub is_part : List ℕ → Bool
is_part p = lacks 58 p && not (length p == 0)

abbrev pub are_parts : List (List ℕ) → Bool
are_parts [] = true
are_parts (p ∷ ps) = is_part p && are_parts ps

field_part : (p : List ℕ) → is_field p ≡ true → is_part p ≡ true
field_part [] h = cc
field_part (x ∷ xs) h =
    let b = and_parts (nat_le 1 (length (x ∷ xs)) && nat_le (length (x ∷ xs)) 4) (list_all is_hex_digit (x ∷ xs)) h in
    let l : lacks 58 (x ∷ xs) ≡ true = lacks-all is_hex_digit 58 (x ∷ xs) refl b.1 in
    let n : not (length (x ∷ xs) == 0) ≡ true = grind (arith, nat_tests) in
    ap (λ c. c && not (length (x ∷ xs) == 0)) l ∙ n

dotted_part : (p : List ℕ) (n : ℕ) → IsDotted p n → is_part p ≡ true
dotted_part p n h =
    let a = decimal (n / 2 ^ 24) in
    let b = decimal (n / 2 ^ 16 % 256) in
    let c = decimal (n / 2 ^ 8 % 256) in
    let d = decimal (n % 256) in
    let top : n / 2 ^ 24 < 256 = omega (arith, h.0) in
    let cd = lacks-append 58 c (46 ∷ d) (decimal_lacks_colon (n / 2 ^ 8 % 256) (omega arith)) (decimal_lacks_colon (n % 256) (omega arith)) in
    let bcd = lacks-append 58 b (46 ∷ c ++ 46 ∷ d) (decimal_lacks_colon (n / 2 ^ 16 % 256) (omega arith)) cd in
    let l : lacks 58 (dotted n) ≡ true = lacks-append 58 a (46 ∷ b ++ 46 ∷ (c ++ 46 ∷ d)) (decimal_lacks_colon (n / 2 ^ 24) top) bcd in
    let e : not (length (dotted n) == 0) ≡ true = grind (arith, nat_tests, length-append a (46 ∷ b ++ 46 ∷ (c ++ 46 ∷ d))) in
    subst (λ t. is_part t ≡ true) (sym h.1) (ap (λ v. v && not (length (dotted n) == 0)) l ∙ e)

pub fields_parts : (ps : List (List ℕ)) (vs : List ℕ) → AreFields ps vs → are_parts ps ≡ true
fields_parts [] vs h = refl
fields_parts (p ∷ ps) [] h = absurd h
fields_parts (p ∷ ps) (v ∷ vs) h = rw (field_part p h.0.0) (fields_parts ps vs h.1)

pub run_parts : (ps : List (List ℕ)) (vs : List ℕ) → IsRun ps vs → are_parts ps ≡ true
run_parts [] vs h = refl
run_parts (p ∷ []) vs h =
    elim h [
      | inl f ↦ fields_parts (p ∷ []) vs f
      | inr t ↦ rw (dotted_part p t.0 t.1.0) refl
    ]
run_parts (p ∷ q ∷ ps) [] h = absurd h
run_parts (p ∷ q ∷ ps) (v ∷ vs) h = rw (field_part p h.0.0) (run_parts (q ∷ ps) vs h.1)

-- where no two colons stand
gap_step : (b v : Bool) (o : Option ℕ) → v ≡ false → o ≡ None → cond (b && v) (Some 0) (option_map suc o) ≡ None
gap_step true v o e f = rw (e, f) refl
gap_step false v o e f = rw f refl

gap_tail : (b : Bool) (o : Option ℕ) → cond b (Some 0) (option_map suc o) ≡ None → (b ≡ false) × (o ≡ None)
gap_tail true o h = cc
gap_tail false None h = (refl, refl)
gap_tail false (Some i) h = cc

gap_lacks : (p t : List ℕ) → lacks 58 p ≡ true → gap_of t ≡ None → gap_of (p ++ t) ≡ None
gap_lacks [] t h k = k
gap_lacks (x ∷ p) t h k =
    let b = and_parts (not (x == 58)) (lacks 58 p) h in
    gap_step (begins_with 58 (p ++ t)) (x == 58) (gap_of (p ++ t)) (not-true (x == 58) b.0) (gap_lacks p t b.1 k)

gap_colon : (t : List ℕ) → begins_with 58 t ≡ false → gap_of t ≡ None → gap_of (58 ∷ t) ≡ None
gap_colon t e f = ap (λ b. cond (b && true) (Some 0) (option_map suc (gap_of t))) e ∙ ap (option_map suc) f

begins_lacks : (p t : List ℕ) → is_part p ≡ true → begins_with 58 (p ++ t) ≡ false
begins_lacks [] t h = cc
begins_lacks (x ∷ p) t h = not-true (x == 58) (and_parts (not (x == 58)) (lacks 58 p) (and_parts (lacks 58 (x ∷ p)) (not (length (x ∷ p) == 0)) h).0).0

begins_joined : (p : List ℕ) (ps : List (List ℕ)) (t : List ℕ) → is_part p ≡ true → begins_with 58 (joined 58 (p ∷ ps) ++ t) ≡ false
begins_joined p [] t h = begins_lacks p t h
begins_joined p (q ∷ ps) t h = subst (λ u. begins_with 58 u ≡ false) (sym (append_assoc p (58 ∷ joined 58 (q ∷ ps)) t)) (begins_lacks p (58 ∷ joined 58 (q ∷ ps) ++ t) h)

part_lacks : (p : List ℕ) → is_part p ≡ true → lacks 58 p ≡ true
part_lacks p h = (and_parts (lacks 58 p) (not (length p == 0)) h).0

-- parts with a colon behind them hold no two colons
pub parts_gap : (p : List ℕ) (ps : List (List ℕ)) → are_parts (p ∷ ps) ≡ true → gap_of (joined 58 (p ∷ ps) ++ 58 ∷ []) ≡ None
parts_gap p [] h = gap_lacks p (58 ∷ []) (part_lacks p (and_parts (is_part p) true h).0) refl
parts_gap p (q ∷ ps) h =
    let b = and_parts (is_part p) (are_parts (q ∷ ps)) h in
    let c = and_parts (is_part q) (are_parts ps) b.1 in
    let rest = joined 58 (q ∷ ps) ++ 58 ∷ [] in
    subst (λ u. gap_of u ≡ None) (sym (append_assoc p (58 ∷ joined 58 (q ∷ ps)) (58 ∷ [])))
    (gap_lacks p (58 ∷ rest) (part_lacks p b.0) (gap_colon rest (begins_joined q ps (58 ∷ []) c.0) (parts_gap q ps b.1)))

pub joined_gap : (ps : List (List ℕ)) → are_parts ps ≡ true → gap_of (joined 58 ps) ≡ None
joined_gap [] h = refl
joined_gap (p ∷ []) h = subst (λ u. gap_of u ≡ None) (append-nil p) (gap_lacks p [] (part_lacks p (and_parts (is_part p) true h).0) refl)
joined_gap (p ∷ q ∷ ps) h =
    let b = and_parts (is_part p) (are_parts (q ∷ ps)) h in
    let c = and_parts (is_part q) (are_parts ps) b.1 in
    let rest = joined 58 (q ∷ ps) in
    gap_lacks p (58 ∷ rest) (part_lacks p b.0) (gap_colon rest (subst (λ u. begins_with 58 u ≡ false) (append-nil rest) (begins_joined q ps [] c.0)) (joined_gap (q ∷ ps) b.1))

-- two colons behind what has none with one
pub gap_here : (l r : List ℕ) → gap_of (l ++ 58 ∷ []) ≡ None → gap_of (l ++ 58 ∷ 58 ∷ r) ≡ Some (length l)
gap_here [] r h = refl
gap_here (x ∷ []) r h =
    let g = gap_tail (x == 58) (gap_of (58 ∷ [])) h in
    ap (λ b. cond b (Some 0) (Some 1)) g.0
gap_here (x ∷ y ∷ l) r h =
    let g = gap_tail ((y == 58) && (x == 58)) (gap_of ((y ∷ l) ++ 58 ∷ [])) h in
    ap (λ b. cond b (Some 0) (option_map suc (gap_of ((y ∷ l) ++ 58 ∷ 58 ∷ r)))) g.0 ∙ ap (option_map suc) (gap_here (y ∷ l) r g.1)

gap_cases : (b : Bool) (o : Option ℕ) (i : ℕ) → cond b (Some 0) (option_map suc o) ≡ Some i → ((b ≡ true) × (i ≡ 0)) ⊎ ((j : ℕ) × ((o ≡ Some j) × (i ≡ suc j)))
gap_cases true o i h = inl (refl, cc)
gap_cases false None i h = cc
gap_cases false (Some j) i h = inr (j, (refl, cc))

-- what stands before two colons, they and what follows them are the text
pub gap-split : (t : List ℕ) (i : ℕ) → gap_of t ≡ Some i → take i t ++ 58 ∷ 58 ∷ drop (i + 2) t ≡ t
gap-split [] i h = cc
gap-split (x ∷ []) i h = cc
gap-split (x ∷ y ∷ r) i h =
    elim (gap_cases ((y == 58) && (x == 58)) (gap_of (y ∷ r)) i h) [
      | inl e ↦
          let b = and_parts (y == 58) (x == 58) e.0 in
          rw (e.1, eqb-true y 58 b.0, eqb-true x 58 b.1) refl
      | inr e ↦
          let j = e.0 in
          let back : suc j + 2 ≡ suc (j + 2) = omega arith in
          rw (e.1.1, back) (ap (λ u. x ∷ u) (gap-split (y ∷ r) j e.1.0))
    ]

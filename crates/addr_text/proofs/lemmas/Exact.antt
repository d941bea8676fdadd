-- The reader of IPv6 texts gives a number exactly where the grammar relates it to the text.
use Rattle.std.proofs.Common.{◌≡◌, ℕ, ◌+◌, ◌-◌, ◌*◌, ◌/◌, ◌%◌, ◌^◌, ◌≤◌, ◌==◌, true, false, not, nat_le, List, [], ◌∷◌, ◌++◌, Option, Some, None, length, take, drop, replicate, refl, ap, sym, ◌∙◌, subst, arith, suc, zero, inl, inr, length-append}
use Rattle.std.proofs.lemmas.Bool.{cond-true, leb-true, le-leb, and_parts, not-true}
use Rattle.std.proofs.lemmas.Bool.Decides.{nat_tests}
use Rattle.std.proofs.lemmas.List.{length-replicate}
use Rattle.std.proofs.lemmas.Nat.{pow-add}
use Rattle.addr_text.specs.declared.v6.Last.{Last}
use Rattle.addr_text.specs.declared.v6.Last.TheVariants.{Field, FieldOrDotted}
use Rattle.addr_text.specs.declared.v6.Fields.{Fields}
use Rattle.addr_text.specs.Dotted.{IsDotted}
use Rattle.addr_text.specs.Find.{gap_of, at_place}
use Rattle.addr_text.specs.Parts.{joined}
use Rattle.addr_text.specs.V6.{IsRun, fields_number, IsShort, IsV6}
use Rattle.addr_text.specs.V6Reader.{all_eight, some_run_of, whole_of, around, short_of, v6_of}
use Rattle.addr_text.proofs.lemmas.Cases.{placed_or_none, kept}
use Rattle.addr_text.proofs.Marks.{joined_gap, is_part, are_parts, fields_parts, parts_gap, gap_here, gap-split}
use Rattle.addr_text.proofs.Reading.{IsRunOf, packed, run_sound, run_complete, runof_parts, whole_sound, whole_complete}
use Rattle.addr_text.proofs.lemmas.Split.{lacks, take-front, drop-gap}
use Rattle.addr_text.proofs.Steps.{some-run}

-- the number of fields behind others
pub fields_number-append : (xs ys : List ℕ) → fields_number (xs ++ ys) ≡ fields_number xs * 65536 ^ length ys + fields_number ys
fields_number-append [] ys = omega arith
fields_number-append (x ∷ xs) ys =
    let a = 65536 ^ length xs in
    let b = 65536 ^ length ys in
    let e : 65536 ^ length (xs ++ ys) ≡ a * b = ap (λ n. 65536 ^ n) (length-append xs ys) ∙ pow-add 65536 (length xs) (length ys) in
    rw (e, fields_number-append xs ys) (regroup x a b (fields_number xs) (fields_number ys))
  where
    regroup : (x a b m n : ℕ) → x * (a * b) + (m * b + n) ≡ (x * a + m) * b + n
    regroup x a b m n = grind arith

fields_number-zeros : (k : ℕ) → fields_number (replicate k 0) ≡ 0
fields_number-zeros zero = refl
fields_number-zeros (suc k) = rw (fields_number-zeros k) (omega arith)

-- zeros between two runs of eight fields
pub short_value : (xs ys : List ℕ) → length xs + length ys ≤ 7 → fields_number (xs ++ replicate (8 - (length xs + length ys)) 0 ++ ys) ≡ fields_number xs * 65536 ^ (8 - length xs) + fields_number ys
short_value xs ys h =
    let k = 8 - (length xs + length ys) in
    let n = fields_number xs in
    let up : k + length ys ≡ 8 - length xs = omega arith in
    let z : fields_number (xs ++ replicate k 0) ≡ n * 65536 ^ k = fields_number-append xs (replicate k 0) ∙ rw (fields_number-zeros k, length-replicate {A = ℕ} k 0) (omega arith) in
    fields_number-append (xs ++ replicate k 0) ys
    ∙ ap (λ m. m * 65536 ^ length ys + fields_number ys) z
    ∙ regroup n (65536 ^ k) (65536 ^ length ys) (fields_number ys)
    ∙ ap (λ p. n * p + fields_number ys) (sym (pow-add 65536 k (length ys)) ∙ ap (λ m. 65536 ^ m) up)
  where
    regroup : (n a b m : ℕ) → n * a * b + m ≡ n * (a * b) + m
    regroup n a b m = grind arith

-- what a run that may be empty is made of
record IsSomeRead (last : Last) (t : List ℕ) (f : Fields) : Type 0 where
  parts : List (List ℕ)
  numbers : List ℕ
  written : joined 58 parts ≡ t
  run : IsRunOf last parts numbers
  value : f ≡ packed numbers

no_parts : (last : Last) → IsRunOf last [] []
no_parts Field = refl
no_parts FieldOrDotted = refl

some_run_sound : (last : Last) (t : List ℕ) (f : Fields) → some_run_of last t ≡ Some f → IsSomeRead last t f
some_run_sound last [] f h = record { parts = []; numbers = []; written = refl; run = no_parts last; value = cc }
some_run_sound last (x ∷ xs) f h =
    let r = run_sound last 7 (x ∷ xs) f h in
    record { parts = r.first ∷ r.rest; numbers = r.numbers; written = r.written; run = r.run; value = r.value }

-- the two runs
record Around (front back : Option Fields) (b : ℕ) : Type 0 where
  first : Fields
  second : Fields
  first_is : front ≡ Some first
  second_is : back ≡ Some second
  room : first.count + second.count ≤ 7
  value : first.bits * 65536 ^ (8 - first.count) + second.bits ≡ b

around_sound : (front back : Option Fields) (b : ℕ) → around front back ≡ Some b → Around front back b
around_sound None back b h = cc
around_sound (Some f) None b h = cc
around_sound (Some f) (Some g) b h =
    let k = kept (nat_le (f.count + g.count) 7) (f.bits * 65536 ^ (8 - f.count) + g.bits) b h in
    record { first = f; second = g; first_is = refl; second_is = refl; room = leb-true (f.count + g.count) 7 k.0; value = k.1 }

short_value_of : (f g : Fields) (xs ys : List ℕ) (b : ℕ) → f ≡ packed xs → g ≡ packed ys → length xs + length ys ≤ 7 → f.bits * 65536 ^ (8 - f.count) + g.bits ≡ b → b ≡ fields_number (xs ++ replicate (8 - (length xs + length ys)) 0 ++ ys)
short_value_of f g xs ys b e k h v =
    sym v ∙ ap (λ u. u.bits * 65536 ^ (8 - u.count) + g.bits) e ∙ ap (λ u. fields_number xs * 65536 ^ (8 - length xs) + u.bits) k ∙ sym (short_value xs ys h)

short_sound : (t front back : List ℕ) (b : ℕ) → front ++ 58 ∷ 58 ∷ back ≡ t → short_of front back ≡ Some b → IsShort t b
short_sound t front back b e h =
    let a = around_sound (some_run_of Field front) (some_run_of FieldOrDotted back) b h in
    let l = some_run_sound Field front a.first a.first_is in
    let r = some_run_sound FieldOrDotted back a.second a.second_is in
    let room : length l.numbers + length r.numbers ≤ 7 = subst (λ n. n + length r.numbers ≤ 7) (ap (λ f. f.count) l.value) (subst (λ n. a.first.count + n ≤ 7) (ap (λ f. f.count) r.value) a.room) in
    record {
      left = l.parts;
      right = r.parts;
      front = l.numbers;
      back = r.numbers;
      written = sym e ∙ ap (λ u. u ++ 58 ∷ 58 ∷ back) (sym l.written) ∙ ap (λ u. joined 58 l.parts ++ 58 ∷ 58 ∷ u) (sym r.written);
      front_fields = l.run;
      back_run = r.run;
      stands_for_one = room;
      value = short_value_of a.first a.second l.numbers r.numbers b l.value r.value room a.value;
    }

joined_some : (p : List ℕ) (ps : List (List ℕ)) → is_part p ≡ true → (length (joined 58 (p ∷ ps)) == 0) ≡ false
joined_some p [] h = not-true (length p == 0) (and_parts (lacks 58 p) (not (length p == 0)) h).1
joined_some p (q ∷ ps) h = grind (arith, nat_tests, length-append p (58 ∷ joined 58 (q ∷ ps)))

no_numbers : (last : Last) (vs : List ℕ) → IsRunOf last [] vs → vs ≡ []
no_numbers Field vs h = h
no_numbers FieldOrDotted vs h = h

some_run_complete : (last : Last) (ps : List (List ℕ)) (vs : List ℕ) → IsRunOf last ps vs → length vs ≤ 7 → some_run_of last (joined 58 ps) ≡ Some (packed vs)
some_run_complete last [] vs h r = ap (λ w. Some (packed w)) (sym (no_numbers last vs h))
some_run_complete last (p ∷ ps) vs h r =
    some-run last (joined 58 (p ∷ ps)) (joined_some p ps (and_parts (is_part p) (are_parts ps) (runof_parts last (p ∷ ps) vs h)).0)
    ∙ run_complete last p ps vs 7 h r

left_gap : (ps : List (List ℕ)) → are_parts ps ≡ true → gap_of (joined 58 ps ++ 58 ∷ []) ≡ None
left_gap [] h = refl
left_gap (p ∷ ps) h = parts_gap p ps h

short_complete : (t : List ℕ) (b : ℕ) → IsShort t b → v6_of t ≡ Some b
short_complete t b s =
    let l = joined 58 s.left in
    let r = joined 58 s.right in
    let xs = s.front in
    let ys = s.back in
    let few : length xs ≤ 7 = omega (arith, s.stands_for_one) in
    let less : length ys ≤ 7 = omega (arith, s.stands_for_one) in
    ap v6_of s.written
    ∙ ap (λ o. at_place o (whole_of (l ++ 58 ∷ 58 ∷ r)) (λ i. short_of (take i (l ++ 58 ∷ 58 ∷ r)) (drop (i + 2) (l ++ 58 ∷ 58 ∷ r)))) (gap_here l r (left_gap s.left (fields_parts s.left xs s.front_fields)))
    ∙ ap (λ u. short_of u (drop (length l + 2) (l ++ 58 ∷ 58 ∷ r))) (take-front 58 l (58 ∷ r))
    ∙ ap (λ u. short_of l u) (drop-gap 58 l r)
    ∙ ap (λ o. around o (some_run_of FieldOrDotted r)) (some_run_complete Field s.left xs s.front_fields few)
    ∙ ap (λ o. around (Some (packed xs)) o) (some_run_complete FieldOrDotted s.right ys s.back_run less)
    ∙ cond-true (nat_le (length xs + length ys) 7) (Some (fields_number xs * 65536 ^ (8 - length xs) + fields_number ys)) None (le-leb (length xs + length ys) 7 s.stands_for_one)
    ∙ ap Some (sym (short_value xs ys s.stands_for_one) ∙ sym s.value)

-- what a text is read as, the grammar relates to it
pub v6_sound : (t : List ℕ) (b : ℕ) → v6_of t ≡ Some b → IsV6 t b
v6_sound t b h =
    elim (placed_or_none (gap_of t) (whole_of t) (λ i. short_of (take i t) (drop (i + 2) t)) (Some b) h) [
      | inl e ↦ inl (whole_sound t b e.1)
      | inr p ↦ inr (short_sound t (take p.place t) (drop (p.place + 2) t) b (gap-split t p.place p.found) p.read)
    ]

-- what the grammar relates to a text, it is read as
pub v6_complete : (t : List ℕ) (b : ℕ) → IsV6 t b → v6_of t ≡ Some b
v6_complete t b (inl w) = whole_complete t b w.parts w.fields w.written w.run w.eight w.value
v6_complete t b (inr s) = short_complete t b s

-- an IPv4 address is no IPv6 text
pub dotted_not_v6 : (t : List ℕ) (n : ℕ) → IsDotted t n → v6_of t ≡ None
dotted_not_v6 t n h =
    let vs = n / 65536 ∷ n % 65536 ∷ [] in
    let run : IsRun (t ∷ []) vs = inr (n, (h, refl)) in
    let few : length vs ≤ 8 = omega arith in
    ap (λ o. at_place o (whole_of t) (λ i. short_of (take i t) (drop (i + 2) t))) (joined_gap (t ∷ []) (runof_parts FieldOrDotted (t ∷ []) vs run))
    ∙ ap all_eight (run_complete FieldOrDotted t [] vs 8 run few)

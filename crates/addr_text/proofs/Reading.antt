-- The reader of IPv6 texts gives a number exactly where the grammar relates it to the text.
use Rattle.std.proofs.Common.{◌≡◌, ◌≢◌, ℕ, ◌+◌, ◌-◌, ◌*◌, ◌/◌, ◌%◌, ◌^◌, ◌<◌, ◌≤◌, ◌==◌, Bool, true, false, not, ◌&&◌, nat_le, List, [], ◌∷◌, ◌++◌, Option, Some, None, length, take, drop, refl, ap, sym, ◌∙◌, arith, suc, zero, inl, inr, add-one, eqb-true, eq-eqb, cond}
use Rattle.std.proofs.lemmas.Bool.{cond-true, le-leb, and_parts}
use Rattle.std.specs.Fmt.{decimal}
use Rattle.std.specs.List.{position, list_all}
use Rattle.std.specs.Option.{option_map}
use Rattle.addr_text.specs.declared.v6.Last.{Last}
use Rattle.addr_text.specs.declared.v6.Last.TheVariants.{Field, FieldOrDotted}
use Rattle.addr_text.specs.declared.v6.Fields.{Fields}
use Rattle.addr_text.specs.Digits.{field_of, is_field, is_hex_digit, number}
use Rattle.addr_text.specs.Dotted.{dotted_of, IsDotted}
use Rattle.addr_text.specs.Find.{at_place}
use Rattle.addr_text.specs.Parts.{joined}
use Rattle.addr_text.specs.V6.{IsField, AreFields, IsTail, IsRun, fields_number, IsWhole}
use Rattle.addr_text.specs.V6Reader.{fields, tail_of, end_of, field_before, run_of, all_eight, whole_of, short_of, v6_of}
use Rattle.addr_text.proofs.lemmas.Cases.{placed_or_none, mapped, kept}
use Rattle.addr_text.proofs.Marks.{lacks-all, is_part, are_parts, fields_parts, run_parts, joined_gap}
use Rattle.addr_text.proofs.lemmas.Numbers.{decimal_lacks_dot}
use Rattle.addr_text.proofs.lemmas.Octets.{dotted_complete, dotted_sound}
use Rattle.addr_text.proofs.lemmas.Split.{lacks, position-front, position-lacks, split-at, take-front, drop-front}
use Rattle.addr_text.proofs.Steps.{run-none, run-some}

-- the parts make these numbers, where the last may be what is said
abbrev pub IsRunOf : Last → List (List ℕ) → List ℕ → Type 0
IsRunOf Field ps vs = AreFields ps vs
IsRunOf FieldOrDotted ps vs = IsRun ps vs

-- numbers of fields as the reader gives them
abbrev pub packed : List ℕ → Fields
packed vs = fields (length vs) (fields_number vs)

-- what a run that was read is made of
pub record IsRead (last : Last) (t : List ℕ) (f : Fields) : Type 0 where
  pub first : List ℕ
  pub rest : List (List ℕ)
  pub numbers : List ℕ
  pub written : joined 58 (first ∷ rest) ≡ t
  pub run : IsRunOf last (first ∷ rest) numbers
  pub value : f ≡ packed numbers

one_field : (v : ℕ) → fields 1 v ≡ packed (v ∷ [])
one_field v = let e : v ≡ v * 65536 ^ 0 + 0 = omega arith in ap (fields 1) e

two_fields : (n : ℕ) → fields 2 n ≡ packed (n / 65536 ∷ n % 65536 ∷ [])
two_fields n = let e : n ≡ n / 65536 * 65536 ^ 1 + (n % 65536 * 65536 ^ 0 + 0) = omega arith in ap (fields 2) e

field_more : (v : ℕ) (vs : List ℕ) → fields (length vs + 1) (v * 65536 ^ length vs + fields_number vs) ≡ packed (v ∷ vs)
field_more v vs = ap (λ n. fields n (v * 65536 ^ length vs + fields_number vs)) (add-one (length vs))

one_part : (last : Last) (t : List ℕ) (v : ℕ) → IsField t v → IsRunOf last (t ∷ []) (v ∷ [])
one_part Field t v h = (h, refl)
one_part FieldOrDotted t v h = inl (h, refl)

part_more : (last : Last) (p q : List ℕ) (ps : List (List ℕ)) (v : ℕ) (vs : List ℕ) → IsField p v → IsRunOf last (q ∷ ps) vs → IsRunOf last (p ∷ q ∷ ps) (v ∷ vs)
part_more Field p q ps v vs h k = (h, k)
part_more FieldOrDotted p q ps v vs h k = (h, k)

field_sound : (t : List ℕ) (v : ℕ) → field_of t ≡ Some v → IsField t v
field_sound t v h = let k = kept (is_field t) (number 16 t) v h in (k.0, sym k.1)

in_time : (b : Bool) (o : Option Fields) (f : Fields) → cond b o None ≡ Some f → o ≡ Some f
in_time true o f h = h
in_time false o f h = cc

tail_sound : (last : Last) (room : ℕ) (t : List ℕ) (f : Fields) → tail_of last room t ≡ Some f → IsRead last t f
tail_sound Field room t f h = cc
tail_sound FieldOrDotted room t f h =
    let m = mapped (fields 2) (dotted_of t) f (in_time (nat_le 2 room) (option_map (fields 2) (dotted_of t)) f h) in
    let n = m.item in
    record { first = t; rest = []; numbers = n / 65536 ∷ n % 65536 ∷ []; written = refl; run = inr (n, (dotted_sound t n m.found, refl)); value = sym m.made ∙ two_fields n }

end_sound : (last : Last) (room : ℕ) (t : List ℕ) (f : Fields) → end_of last room t ≡ Some f → IsRead last t f
end_sound last room t f h =
    elim (placed_or_none (field_of t) (tail_of last room t) (λ v. Some (fields 1 v)) (Some f) h) [
      | inl e ↦ tail_sound last room t f e.1
      | inr p ↦
          let e : Some (fields 1 p.place) ≡ Some f = p.read in
          let g : fields 1 p.place ≡ f = cc in
          record { first = t; rest = []; numbers = p.place ∷ []; written = refl; run = one_part last t p.place (field_sound t p.place p.found); value = sym g ∙ one_field p.place }
    ]

-- a field and what follows it
record Before (first : Option ℕ) (rest : Option Fields) (f : Fields) : Type 0 where
  field : ℕ
  behind : Fields
  first_is : first ≡ Some field
  rest_is : rest ≡ Some behind
  made : fields (behind.count + 1) (field * 65536 ^ behind.count + behind.bits) ≡ f

before : (first : Option ℕ) (rest : Option Fields) (f : Fields) → field_before first rest ≡ Some f → Before first rest f
before None rest f h = cc
before (Some v) None f h = cc
before (Some v) (Some g) f h = record { field = v; behind = g; first_is = refl; rest_is = refl; made = cc }

more_read : (last : Last) (t front back : List ℕ) (v : ℕ) (g f : Fields) → front ++ 58 ∷ back ≡ t → IsField front v → IsRead last back g → fields (g.count + 1) (v * 65536 ^ g.count + g.bits) ≡ f → IsRead last t f
more_read last t front back v g f e h r m = record {
  first = front;
  rest = r.first ∷ r.rest;
  numbers = v ∷ r.numbers;
  written = ap (λ u. front ++ 58 ∷ u) r.written ∙ e;
  run = part_more last front r.first r.rest v r.numbers h r.run;
  value = sym m ∙ ap (λ x. fields (x.count + 1) (v * 65536 ^ x.count + x.bits)) r.value ∙ field_more v r.numbers;
}

pub run_sound : (last : Last) (room : ℕ) (t : List ℕ) (f : Fields) → run_of last room t ≡ Some f → IsRead last t f
run_sound last zero t f h = cc
run_sound last (suc room) t f h =
    elim (placed_or_none (position (λ b. b == 58) t) (end_of last (suc room) t) (λ i. field_before (field_of (take i t)) (run_of last room (drop (i + 1) t))) (Some f) h) [
      | inl e ↦ end_sound last (suc room) t f e.1
      | inr p ↦
          let b = before (field_of (take p.place t)) (run_of last room (drop (p.place + 1) t)) f p.read in
          more_read last t (take p.place t) (drop (p.place + 1) t) b.field b.behind f (split-at 58 t p.place p.found) (field_sound (take p.place t) b.field b.first_is) (run_sound last room (drop (p.place + 1) t) b.behind b.rest_is) b.made
    ]

-- a part that is a field is read as one
pub field_complete : (t : List ℕ) (v : ℕ) → IsField t v → field_of t ≡ Some v
field_complete t v h = cond-true (is_field t) (Some (number 16 t)) None h.0 ∙ ap Some (sym h.1)

not_passed : (b : Bool) (x : ℕ) → (b ≡ true → ⊥) → cond b (Some x) None ≡ None
not_passed true x h = absurd (h refl)
not_passed false x h = refl

-- an IPv4 address isn't a field
dotted_not_field : (t : List ℕ) (n : ℕ) → IsDotted t n → field_of t ≡ None
dotted_not_field t n h = not_passed (is_field t) (number 16 t) (λ e.
    let b = and_parts (nat_le 1 (length t) && nat_le (length t) 4) (list_all is_hex_digit t) e in
    let top : n / 2 ^ 24 < 256 = omega (arith, h.0) in
    let a = decimal (n / 2 ^ 24) in
    let rest = joined 46 (decimal (n / 2 ^ 16 % 256) ∷ decimal (n / 2 ^ 8 % 256) ∷ decimal (n % 256) ∷ []) in
    let z : None ≡ Some (length a) = sym (position-lacks 46 t (lacks-all is_hex_digit 46 t refl b.1)) ∙ ap (position (λ b. b == 46)) h.1 ∙ position-front 46 a rest (decimal_lacks_dot (n / 2 ^ 24) top) in
    let no : ⊥ = cc in no)

parts_lack : (p : List ℕ) (ps : List (List ℕ)) → are_parts (p ∷ ps) ≡ true → lacks 58 p ≡ true
parts_lack p ps h = (and_parts (lacks 58 p) (not (length p == 0)) (and_parts (is_part p) (are_parts ps) h).0).0

pub runof_parts : (last : Last) (ps : List (List ℕ)) (vs : List ℕ) → IsRunOf last ps vs → are_parts ps ≡ true
runof_parts Field ps vs h = fields_parts ps vs h
runof_parts FieldOrDotted ps vs h = run_parts ps vs h

runof_some : (last : Last) (p : List ℕ) (ps : List (List ℕ)) (vs : List ℕ) → IsRunOf last (p ∷ ps) vs → 1 ≤ length vs
runof_some Field p ps [] h = absurd h
runof_some Field p ps (v ∷ vs) h = omega arith
runof_some FieldOrDotted p [] [] h =
    elim h [
      | inl f ↦ absurd f
      | inr t ↦ let z = t.1.1 in let no : ⊥ = cc in absurd no
    ]
runof_some FieldOrDotted p (q ∷ ps) [] h = absurd h
runof_some FieldOrDotted p ps (v ∷ vs) h = omega arith

runof_more : (last : Last) (p q : List ℕ) (ps : List (List ℕ)) (v : ℕ) (vs : List ℕ) → IsRunOf last (p ∷ q ∷ ps) (v ∷ vs) → IsField p v × IsRunOf last (q ∷ ps) vs
runof_more Field p q ps v vs h = h
runof_more FieldOrDotted p q ps v vs h = h

end_field : (last : Last) (room : ℕ) (t : List ℕ) (vs : List ℕ) → AreFields (t ∷ []) vs → end_of last room t ≡ Some (packed vs)
end_field last room t [] h = absurd h
end_field last room t (v ∷ ws) h =
    ap (λ o. at_place o (tail_of last room t) (λ v. Some (fields 1 v))) (field_complete t v h.0)
    ∙ ap Some (one_field v) ∙ ap (λ w. Some (packed (v ∷ w))) (sym h.1)

end_tail : (room : ℕ) (t : List ℕ) (vs : List ℕ) → 2 ≤ room → IsTail t vs → end_of FieldOrDotted room t ≡ Some (packed vs)
end_tail room t vs r h =
    let n = h.0 in
    ap (λ o. at_place o (tail_of FieldOrDotted room t) (λ v. Some (fields 1 v))) (dotted_not_field t n h.1.0)
    ∙ cond-true (nat_le 2 room) (option_map (fields 2) (dotted_of t)) None (le-leb 2 room r)
    ∙ ap (option_map (fields 2)) (dotted_complete t n h.1.0)
    ∙ ap Some (two_fields n) ∙ ap (λ w. Some (packed w)) (sym h.1.1)

tail_room : (t : List ℕ) (vs : List ℕ) (room : ℕ) → IsTail t vs → length vs ≤ room → 2 ≤ room
tail_room t vs room h r = omega (arith, ap length h.1.1)

pub run_complete : (last : Last) (p : List ℕ) (ps : List (List ℕ)) (vs : List ℕ) (room : ℕ) → IsRunOf last (p ∷ ps) vs → length vs ≤ room → run_of last room (joined 58 (p ∷ ps)) ≡ Some (packed vs)
run_complete last p ps vs zero h r = absurd (omega (arith, runof_some last p ps vs h))
run_complete Field p [] vs (suc room) h r =
    let some : suc room ≢ 0 = omega arith in
    run-none Field (suc room) p some (position-lacks 58 p (parts_lack p [] (runof_parts Field (p ∷ []) vs h))) ∙ end_field Field (suc room) p vs h
run_complete FieldOrDotted p [] vs (suc room) h r =
    let some : suc room ≢ 0 = omega arith in
    run-none FieldOrDotted (suc room) p some (position-lacks 58 p (parts_lack p [] (runof_parts FieldOrDotted (p ∷ []) vs h)))
    ∙ elim h [
      | inl f ↦ end_field FieldOrDotted (suc room) p vs f
      | inr t ↦ end_tail (suc room) p vs (tail_room p vs (suc room) t r) t
    ]
run_complete last p (q ∷ ps) [] (suc room) h r = absurd (omega (arith, runof_some last p (q ∷ ps) [] h))
run_complete last p (q ∷ ps) (v ∷ vs) (suc room) h r =
    let some : suc room ≢ 0 = omega arith in
    let down : suc room - 1 ≡ room = omega arith in
    let less : length vs ≤ room = omega arith in
    let m = runof_more last p q ps v vs h in
    let j = joined 58 (q ∷ ps) in
    run-some last (suc room) (p ++ 58 ∷ j) (length p) some (position-front 58 p j (parts_lack p (q ∷ ps) (runof_parts last (p ∷ q ∷ ps) (v ∷ vs) h)))
    ∙ rw (take-front 58 p j, drop-front 58 p j, field_complete p v m.0, down, run_complete last q ps vs room m.1 less) (ap Some (field_more v vs))

-- eight fields
record Eight (o : Option Fields) (b : ℕ) : Type 0 where
  read : Fields
  found : o ≡ Some read
  count : read.count ≡ 8
  value : read.bits ≡ b

eight : (o : Option Fields) (b : ℕ) → all_eight o ≡ Some b → Eight o b
eight None b h = cc
eight (Some f) b h = let k = kept (f.count == 8) f.bits b h in record { read = f; found = refl; count = eqb-true f.count 8 k.0; value = k.1 }

pub whole_sound : (t : List ℕ) (b : ℕ) → whole_of t ≡ Some b → IsWhole t b
whole_sound t b h =
    let e = eight (run_of FieldOrDotted 8 t) b h in
    let r = run_sound FieldOrDotted 8 t e.read e.found in
    record {
      parts = r.first ∷ r.rest;
      fields = r.numbers;
      written = sym r.written;
      run = r.run;
      eight = sym (ap (λ f. f.count) r.value) ∙ e.count;
      value = sym e.value ∙ ap (λ f. f.bits) r.value;
    }

pub whole_complete : (t : List ℕ) (b : ℕ) (ps : List (List ℕ)) (vs : List ℕ) → t ≡ joined 58 ps → IsRun ps vs → length vs ≡ 8 → b ≡ fields_number vs → v6_of t ≡ Some b
whole_complete t b [] vs e h l v = absurd (omega (arith, ap length h))
whole_complete t b (p ∷ ps) vs e h l v =
    let few : length vs ≤ 8 = omega arith in
    ap v6_of e
    ∙ ap (λ o. at_place o (whole_of (joined 58 (p ∷ ps))) (λ i. short_of (take i (joined 58 (p ∷ ps))) (drop (i + 2) (joined 58 (p ∷ ps))))) (joined_gap (p ∷ ps) (run_parts (p ∷ ps) vs h))
    ∙ ap all_eight (run_complete FieldOrDotted p ps vs 8 h few)
    ∙ cond-true (length vs == 8) (Some (fields_number vs)) None (eq-eqb (length vs) 8 l)
    ∙ ap Some (sym v)

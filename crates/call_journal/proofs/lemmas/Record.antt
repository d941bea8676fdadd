-- What the reading of a record looks at.
use Rattle.std.proofs.Common.{◌≡◌, ℕ, suc, ◌+◌, ◌^◌, ◌<◌, ◌≤◌, Bool, true, false, cond, eqb, ltb, List, [], ◌∷◌, ◌++◌, length, take, drop, get_or, Option, Some, None, refl, sym, ap, ◌∙◌, arith, length-append, length-drop}
use Rattle.std.specs.Option.{option_map, option_and_then}
use Rattle.std.proofs.lemmas.Bool.{le-ltb, lt-ltb, ltb-false, ltb-true, and_parts}
use Rattle.std.proofs.lemmas.List.{drop-drop, drop-take, get_or-take, drop_at, length-take}
use Rattle.byteorder.specs.Endian.{big_number, big_bytes}
use Rattle.byteorder.specs.Numbers.{big_from-take, big_number-reads_back, length-bytes_high_first}
use Rattle.net_model.specs.declared.call.Call.{Call}
use Rattle.net_image.specs.Form.{number, whole}
use Rattle.net_image.proofs.lemmas.Reading.{bind_some, map_some, passed}
use Rattle.call_journal.specs.Calls.{call_form}
use Rattle.call_journal.specs.Records.{sized_call, open_record, is_open}
use Rattle.call_journal.proofs.lemmas.CallLaws.{call_exact, whole_again}

-- ---- a call behind its length

-- so many bytes are those of the call
pub record IsSized (bytes : List ℕ) (n : ℕ) (call : Call) : Type 0 where
  pub long : 2 + n ≤ length bytes
  pub size : big_number 2 bytes ≡ n
  pub is_call : whole call_form (take n (drop 2 bytes)) ≡ Some call

-- they are read as it
pub sized_read : (bytes : List ℕ) (n : ℕ) (call : Call) → IsSized bytes n call → sized_call.read bytes ≡ Some (call, drop (2 + n) bytes)
unfolding sized_call
sized_read bytes n call is =
    let there : ltb (length bytes) 2 ≡ false = le-ltb _ _ (omega (arith, is.long)) in
    let enough : ltb (length (drop 2 bytes)) (big_number 2 bytes) ≡ false = le-ltb _ _ (omega (arith, length-drop 2 bytes, is.long, is.size)) in
    let found : whole call_form (take (big_number 2 bytes) (drop 2 bytes)) ≡ Some call = ap (λ (k : ℕ). whole call_form (take k (drop 2 bytes))) is.size ∙ is.is_call in
    let behind : drop (big_number 2 bytes) (drop 2 bytes) ≡ drop (2 + n) bytes = drop-drop (big_number 2 bytes) 2 bytes ∙ ap (λ (k : ℕ). drop (2 + k) bytes) is.size in
    rw (there, enough, found) (ap (λ (l : List ℕ). Some (call, l)) behind)

-- and what is read are so many bytes
pub sized_parts : (bytes rest : List ℕ) (call : Call) → sized_call.read bytes ≡ Some (call, rest) → IsSized bytes (big_number 2 bytes) call × (rest ≡ drop (2 + big_number 2 bytes) bytes)
unfolding sized_call
sized_parts bytes rest call got =
    let n = big_number 2 bytes in
    let a = bind_some (cond (ltb (length bytes) 2) None (Some (n, drop 2 bytes)))
    (λ (p : ℕ × List ℕ). cond (ltb (length p.1) p.0) None (option_map (λ (x : Call). (x, drop p.0 p.1)) (whole call_form (take p.0 p.1)))) (call, rest) got in
    let there = passed (ltb (length bytes) 2) (n, drop 2 bytes) a.0 a.1 in
    let got2 : cond (ltb (length (drop 2 bytes)) n) None (option_map (λ (x : Call). (x, drop n (drop 2 bytes))) (whole call_form (take n (drop 2 bytes)))) ≡ Some (call, rest) =
    ap (λ (p : ℕ × List ℕ). cond (ltb (length p.1) p.0) None (option_map (λ (x : Call). (x, drop p.0 p.1)) (whole call_form (take p.0 p.1)))) there.1 ∙ a.2 in
    let enough = let b = taken (ltb (length (drop 2 bytes)) n) _ (call, rest) got2 in b in
    let m = map_some (whole call_form (take n (drop 2 bytes))) (λ (x : Call). (x, drop n (drop 2 bytes))) (call, rest) enough.1 in
    let same : m.0 ≡ call = ap (λ (p : Call × List ℕ). p.0) m.2 in (
      record {
        long = omega (arith, ltb-false _ _ there.0, ltb-false _ _ enough.0, length-drop 2 bytes);
        size = refl;
        is_call = m.1 ∙ ap (λ (c : Call). Some c) same;
      },
      sym (ap (λ (p : Call × List ℕ). p.1) m.2) ∙ drop-drop n 2 bytes,
    )
  where
    taken : (b : Bool) (o : Option (Call × List ℕ)) (y : Call × List ℕ) → cond b None o ≡ Some y → (b ≡ false) × (o ≡ Some y)
    taken true o y e = absurd cc
    taken false o y e = (refl, e)

-- what the reading of a call behind its length comes to
module _ (bytes rest : List ℕ) (size : ℕ) (got : (number 2).read bytes ≡ Some (size, rest)) where
  pub sized_there : (call : Call) → size ≤ length rest → whole call_form (take size rest) ≡ Some call → sized_call.read bytes ≡ Some (call, drop size rest)
  unfolding sized_call
  sized_there call enough is = let cut : ltb (length rest) size ≡ false = le-ltb _ _ enough in rw (got, cut, is) refl

  pub sized_cut : length rest < size → sized_call.read bytes ≡ None
  unfolding sized_call
  sized_cut short = let cut : ltb (length rest) size ≡ true = lt-ltb _ _ short in rw (got, cut) refl

  pub sized_no_call : size ≤ length rest → whole call_form (take size rest) ≡ None → sized_call.read bytes ≡ None
  unfolding sized_call
  sized_no_call enough none = let cut : ltb (length rest) size ≡ false = le-ltb _ _ enough in rw (got, cut, none) refl

-- without a length there is no call
pub sized_no_number : (bytes : List ℕ) → (number 2).read bytes ≡ None → sized_call.read bytes ≡ None
unfolding sized_call
sized_no_number bytes none = rw none refl

-- ---- a record

again : (o : Option (Call × List ℕ)) → option_map (λ (p : (Unit {0} × Call) × List ℕ). (p.0.1, p.1)) (option_map (λ (y : Call × List ℕ). ((tt, y.0), y.1)) o) ≡ o
again None = refl
again (Some (c, r)) = refl

behind_gate : (t : Bool) (b : ℕ) (l : List ℕ) (f : List ℕ → Option (Call × List ℕ))
    → option_map (λ (p : (Unit {0} × Call) × List ℕ). (p.0.1, p.1)) (option_and_then (λ (x : Unit {0} × List ℕ). option_map (λ (y : Call × List ℕ). ((x.0, y.0), y.1)) (f x.1))
    (option_map (λ (y : ℕ × List ℕ). (tt, y.1)) (cond t (Some (b, l)) None))) ≡ cond t (f l) None
behind_gate true b l f = again (f l)
behind_gate false b l f = refl

-- a record is read behind a gate of 1
pub record_read : (b : ℕ) (l : List ℕ) → open_record.read (b ∷ l) ≡ cond (eqb b 1) (sized_call.read l) None
unfolding open_record
record_read b l = behind_gate (eqb b 1) b l sized_call.read

-- behind an open gate a record is a call behind its length
pub behind_open : (bytes : List ℕ) → is_open bytes ≡ true → open_record.read bytes ≡ sized_call.read (drop 1 bytes)
behind_open [] opens = absurd (let e : false ≡ true = opens in cc)
behind_open (b ∷ l) opens = record_read b l ∙ rw opens refl

behind_first : (n b : ℕ) (l : List ℕ) → drop (3 + n) (b ∷ l) ≡ drop (2 + n) l
behind_first n b l = let e : 3 + n ≡ suc (2 + n) = omega arith in ap (λ (k : ℕ). drop k (b ∷ l)) e

-- a record of a call of n bytes begins the bytes
pub record Begins (bytes : List ℕ) (n : ℕ) (call : Call) : Type 0 where
  pub opens : is_open bytes ≡ true
  pub sized : IsSized (drop 1 bytes) n call

-- it is read as its call
pub begins_read : (bytes : List ℕ) (n : ℕ) (call : Call) → Begins bytes n call → open_record.read bytes ≡ Some (call, drop (3 + n) bytes)
begins_read [] n call is = absurd (let e : false ≡ true = is.opens in cc)
begins_read (b ∷ l) n call is = record_read b l ∙ rw is.opens (sized_read l n call is.sized ∙ ap (λ (r : List ℕ). Some (call, r)) (sym (behind_first n b l)))

-- and what is read as a call begins with its record
pub begins : (bytes rest : List ℕ) (call : Call) → open_record.read bytes ≡ Some (call, rest) → Begins bytes (big_number 2 (drop 1 bytes)) call × (rest ≡ drop (3 + big_number 2 (drop 1 bytes)) bytes)
unfolding open_record
begins [] rest call got = absurd cc
begins (b ∷ l) rest call got =
    let both = kept (eqb b 1) (sized_call.read l) (call, rest) (sym (record_read b l) ∙ got) in
    let parts = sized_parts l rest call both.1 in
    (record { opens = both.0; sized = parts.0 }, parts.1 ∙ sym (behind_first (big_number 2 l) b l))
  where
    kept : (t : Bool) (o : Option (Call × List ℕ)) (y : Call × List ℕ) → cond t o None ≡ Some y → (t ≡ true) × (o ≡ Some y)
    kept true o y e = (refl, e)
    kept false o y e = absurd cc

-- a record is told by its own bytes
pub begins_alike : (bytes other : List ℕ) (n : ℕ) (call : Call) → Begins bytes n call → take (3 + n) other ≡ take (3 + n) bytes → 3 + n ≤ length other → Begins other n call
begins_alike bytes other n call is same long =
    let first : get_or other 0 0 ≡ get_or bytes 0 0 = sym (get_or-take (3 + n) other 0 0 (omega arith)) ∙ ap (λ (l : List ℕ). get_or l 0 0) same ∙ get_or-take (3 + n) bytes 0 0 (omega arith) in
    let e : 3 + n ≡ 1 + (2 + n) = omega arith in
    let front : take (2 + n) (drop 1 other) ≡ take (2 + n) (drop 1 bytes) =
    sym (drop-take 1 (2 + n) other) ∙ ap (λ (k : ℕ). drop 1 (take k other)) (sym e) ∙ ap (λ (l : List ℕ). drop 1 l) same ∙ ap (λ (k : ℕ). drop 1 (take k bytes)) e ∙ drop-take 1 (2 + n) bytes in
    let number : big_number 2 (drop 1 other) ≡ big_number 2 (drop 1 bytes) = sym (big_from-take 0 2 (2 + n) (drop 1 other) (omega arith)) ∙ ap (big_number 2) front ∙ big_from-take 0 2 (2 + n) (drop 1 bytes) (omega arith) in
    let call_bytes : take n (drop 2 (drop 1 other)) ≡ take n (drop 2 (drop 1 bytes)) = sym (drop-take 2 n (drop 1 other)) ∙ ap (λ (l : List ℕ). drop 2 l) front ∙ drop-take 2 n (drop 1 bytes) in
    record {
      opens = ap (λ (k : ℕ). eqb k 1) first ∙ is.opens;
      sized = record { long = omega (arith, length-drop 1 other); size = number ∙ is.sized.size; is_call = ap (whole call_form) call_bytes ∙ is.sized.is_call };
    }

-- ---- what was written

-- a call that was written behind its length
pub sized_written : (bytes : List ℕ) (call : Call) → sized_call.fits call ≡ true → take (length (sized_call.write call)) bytes ≡ sized_call.write call → IsSized bytes (length (call_form.write call)) call
unfolding sized_call
sized_written bytes call fits front =
    let body = call_form.write call in
    let n = length body in
    let parts = and_parts (call_form.fits call) (ltb n (256 ^ 2)) fits in
    let two : length (big_bytes 2 n) ≡ 2 = length-bytes_high_first 2 n in
    let size : length (big_bytes 2 n ++ body) ≡ 2 + n = omega (arith, length-append (big_bytes 2 n) body, two) in
    let begun : take (2 + n) bytes ≡ big_bytes 2 n ++ body = sym (ap (λ (k : ℕ). take k bytes) size) ∙ front in
    let long : 2 + n ≤ length bytes = omega (arith, ap length begun, size, length-take (2 + n) bytes) in
    let number : big_number 2 bytes ≡ n = sym (big_from-take 0 2 (2 + n) bytes (omega arith)) ∙ ap (big_number 2) begun ∙ big_number-reads_back 2 n body (ltb-true _ _ parts.1) in
    let behind : take n (drop 2 bytes) ≡ body = sym (drop-take 2 n bytes) ∙ ap (λ (l : List ℕ). drop 2 l) begun ∙ drop_at (big_bytes 2 n) body 2 two in
    record { long = long; size = number; is_call = ap (whole call_form) behind ∙ whole_again call_form call_exact call parts.0 }

-- the length takes two bytes
pub sized_length : (call : Call) → length (sized_call.write call) ≡ 2 + length (call_form.write call)
unfolding sized_call
sized_length call = let two : length (big_bytes 2 (length (call_form.write call))) ≡ 2 = length-bytes_high_first 2 (length (call_form.write call)) in omega (arith, two, length-append (big_bytes 2 (length (call_form.write call))) (call_form.write call))

-- a record is an open gate and a call behind its length
pub record_is : (call : Call) → open_record.write call ≡ 1 ∷ sized_call.write call
unfolding open_record
record_is call = refl

-- and the gate a third
pub record_length : (call : Call) → length (open_record.write call) ≡ 3 + length (call_form.write call)
record_length call = omega (arith, ap length (record_is call), sized_length call)

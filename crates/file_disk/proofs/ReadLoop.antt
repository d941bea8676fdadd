-- The loop that reads until its buffer is full.
use Rattle.std.proofs.Common.{◌≡◌, ◌≤◌, ◌+◌, ◌-◌, ◌++◌, ◌∙◌, ℕ, List, length, take, drop, refl, sym, ap, subst, arith, length-take-le, take-append-drop}
use Rattle.std.specs.Prelude.{min}
use Rattle.std.proofs.lemmas.List.{take_at, drop_at, drop-drop, drop-take, take-take, take_min, take_rest, drop_all, length-drop, append_assoc, append-nil}
use borrow.Rule.Slice.PartMut.{put_mid}
use Rattle.host_core.specs.Bytes.{Filled}
use Rattle.host_core.specs.DiskView.{Areas, area_of}
use Rattle.host_core.specs.Stops.{Steps, Stays}
use Rattle.host_core.proofs.lemmas.Moments.{follow}
use Rattle.file_disk.specs.Raw.{RawView, ReadsPart}

-- so many bytes of the area, from a place on, stand at the front of the buffer
pub record Front (at : ℕ) (area before now : List ℕ) (done : ℕ) : Type 0 where
  pub few : done ≤ length (drop at area)
  pub bytes : now ≡ take done (drop at area) ++ drop done before

-- what the loop has done
pub record Reading (tells : Type 0) (a at : ℕ) (old now : RawView) (before buffer : List ℕ) (done : ℕ) : Type 0 where
  pub within : done ≤ length before
  pub front : tells → Front at (area_of a old.areas) before buffer done
  pub areas : tells → now.areas ≡ old.areas
  pub stops : Steps Stays old.stops now.stops

-- a front of a list, in two parts
pub take_both : (m n : ℕ) (l : List ℕ) → take (m + n) l ≡ take m l ++ take n (drop m l)
take_both m n l = sym (take-append-drop m (take (m + n) l)) ∙ (rw (take-take m (m + n) l (omega arith), drop-take m n l) refl)

-- a part more stands there
more : (at : ℕ) (area before now part : List ℕ) (done n : ℕ) → Front at area before now done
    → ReadsPart (at + done) area (drop done now) part n → Front at area before (take done now ++ part) (done + n)
more at area before now part done n front read =
    let fits : length (take done (drop at area)) ≡ done = length-take-le done (drop at area) front.few in
    let had : take done now ≡ take done (drop at area) = ap (λ (l : List ℕ). take done l) front.bytes ∙ take_at (take done (drop at area)) (drop done before) done fits in
    let rest : drop done now ≡ drop done before = ap (λ (l : List ℕ). drop done l) front.bytes ∙ drop_at (take done (drop at area)) (drop done before) done fits in
    record {
      few = omega (arith, front.few, read.few, length-drop at area, length-drop (at + done) area);
      bytes = rw (read.bytes, had, rest, drop-drop n done before, take_both done n (drop at area), drop-drop done at area)
          (sym (append_assoc (take done (drop at area)) (take n (drop (at + done) area)) (drop (done + n) before)));
    }

-- a part at the end of a buffer is written back
put_end : (buffer part : List ℕ) (done : ℕ) → put_mid done (length buffer - done) buffer part ≡ take done buffer ++ part
put_end buffer part done = ap (λ (l : List ℕ). take done buffer ++ l)
    (ap (λ (l : List ℕ). part ++ l) (drop_all (length buffer - done) (drop done buffer) (omega (arith, length-drop done buffer))) ∙ append-nil part)

-- one read more
pub read_on : (tells : Type 0) (a at : ℕ) (old now new : RawView) (before buffer part : List ℕ) (done n : ℕ) → Reading tells a at old now before buffer done
    → length buffer ≡ length before → n ≤ length (take (length buffer - done) (drop done buffer))
    → (tells → ReadsPart (at + done) (area_of a now.areas) (take (length buffer - done) (drop done buffer)) part n)
    → (tells → new.areas ≡ now.areas) → Steps Stays now.stops new.stops
    → Reading tells a at old new before (put_mid done (length buffer - done) buffer part) (done + n)
read_on tells a at old now new before buffer part done n reading room few read areas stops =
    let rest : take (length buffer - done) (drop done buffer) ≡ drop done buffer = take_rest buffer done in
    let many : n ≤ length (drop done buffer) = subst (λ (l : List ℕ). n ≤ length l) rest few in
    record {
      within = omega (arith, reading.within, room, many, length-drop done buffer);
      front = λ told. subst (λ (l : List ℕ). Front at (area_of a old.areas) before l (done + n)) (sym (put_end buffer part done))
          (more at (area_of a old.areas) before buffer part done n (reading.front told)
          (subst (λ (all : Areas). ReadsPart (at + done) (area_of a all) (drop done buffer) part n) (reading.areas told)
          (subst (λ (l : List ℕ). ReadsPart (at + done) (area_of a now.areas) l part n) rest (read told))));
      areas = λ told. areas told ∙ reading.areas told;
      stops = follow Stays Stays Stays old.stops now.stops new.stops reading.stops stops (λ r s left step. step) (λ q r s was left one two. two ∙ one);
    }

-- it is all filled, where the buffer is full or the area ends
filled : (at : ℕ) (area before buffer : List ℕ) (done : ℕ) → done ≡ min (length before) (length (drop at area)) → Front at area before buffer done → Filled at area before buffer done
filled at area before buffer done all front = record {
  many = all;
  bytes = front.bytes ∙ ap (λ (l : List ℕ). l ++ drop done before) (ap (λ (n : ℕ). take n (drop at area)) all ∙ take_min (length before) (drop at area));
}

-- a read that gives nothing ends it
pub read_end : (tells : Type 0) (a at : ℕ) (old now new : RawView) (before buffer part : List ℕ) (done n : ℕ) → Reading tells a at old now before buffer done
    → length buffer ≡ length before → n ≡ 0
    → (tells → ReadsPart (at + done) (area_of a now.areas) (take (length buffer - done) (drop done buffer)) part n)
    → tells → Filled at (area_of a old.areas) before (put_mid done (length buffer - done) buffer part) done
read_end tells a at old now new before buffer part done n reading room none read told =
    let rest : take (length buffer - done) (drop done buffer) ≡ drop done buffer = take_rest buffer done in
    let front = reading.front told in
    let part_of = subst (λ (all : Areas). ReadsPart (at + done) (area_of a all) (drop done buffer) part n) (reading.areas told)
    (subst (λ (l : List ℕ). ReadsPart (at + done) (area_of a now.areas) l part n) rest (read told)) in
    let area = area_of a old.areas in
    let stands : Front at area before (put_mid done (length buffer - done) buffer part) done =
    subst (λ (l : List ℕ). Front at area before l done) (sym (put_end buffer part done))
    (subst (λ (k : ℕ). Front at area before (take done buffer ++ part) k) (omega (arith, none)) (more at area before buffer part done n front part_of)) in
    filled at area before (put_mid done (length buffer - done) buffer part) done
    (omega (arith, part_of.some none, reading.within, front.few, room, length-drop at area, length-drop (at + done) area, length-drop done buffer)) stands

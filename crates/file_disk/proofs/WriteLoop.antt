-- The loop that writes until all is written.
use Rattle.std.proofs.Common.{◌≡◌, ◌≤◌, ◌+◌, ◌-◌, ◌∙◌, ℕ, zero, suc, List, [], ◌∷◌, length, take, drop, refl, sym, ap, subst, arith, length-take, length-take-le}
use Rattle.std.proofs.lemmas.List.{drop-drop, drop-take, take-take, take_all, take_rest, length-drop}
use Rattle.host_core.specs.Bytes.{Torn, Written}
use Rattle.host_core.specs.DiskView.{Areas, AreaTorn, area_of}
use Rattle.host_core.specs.Stops.{Steps}
use Rattle.host_core.proofs.lemmas.Moments.{follow}
use Rattle.file_disk.specs.Raw.{RawView, WritesPart}
use Rattle.file_disk.proofs.ReadLoop.{take_both}

-- nothing is torn
torn_none : (at n : ℕ) (bytes : List ℕ) → Torn at n bytes bytes
torn_none at n bytes = record {
  before = ap (λ (l : List ℕ). take at l) (take_all (length bytes) bytes (omega arith));
  after = refl;
  no_shorter = omega arith;
  no_longer = omega arith;
}

-- a torn range lies in a wider one
torn_wider : (from n at m : ℕ) (old new : List ℕ) → at ≤ from → from + n ≤ at + m → Torn from n old new → Torn at m old new
torn_wider from n at m old new low high torn = record {
  before = sym (take-take at from (take (length old) new) low) ∙ ap (λ (l : List ℕ). take at l) torn.before ∙ take-take at from old low;
  after = ap (λ (k : ℕ). drop k new) end ∙ sym (drop-drop (at + m - (from + n)) (from + n) new)
      ∙ ap (λ (l : List ℕ). drop (at + m - (from + n)) l) torn.after
      ∙ drop-drop (at + m - (from + n)) (from + n) old ∙ ap (λ (k : ℕ). drop k old) (sym end);
  no_shorter = torn.no_shorter;
  no_longer = omega (arith, torn.no_longer);
}
  where
    end : at + m ≡ from + n + (at + m - (from + n))
    end = omega (arith, high)

-- two fronts of a list, in either order
take_turned : (m n : ℕ) (l : List ℕ) → take m (take n l) ≡ take n (take m l)
take_turned zero zero l = refl
take_turned zero (suc n) l = refl
take_turned (suc m) zero l = refl
take_turned (suc m) (suc n) [] = refl
take_turned (suc m) (suc n) (x ∷ l) = ap (λ (t : List ℕ). x ∷ t) (take_turned m n l)

-- torn twice in one range
torn_twice : (at n : ℕ) (old mid new : List ℕ) → Torn at n old mid → Torn at n mid new → Torn at n old new
torn_twice at n old mid new one two = record {
  before = ap (λ (l : List ℕ). take at l) (sym (take-take (length old) (length mid) new one.no_shorter))
      ∙ take_turned at (length old) (take (length mid) new)
      ∙ ap (λ (l : List ℕ). take (length old) l) two.before
      ∙ take_turned (length old) at mid
      ∙ one.before;
  after = two.after ∙ one.after;
  no_shorter = omega (arith, one.no_shorter, two.no_shorter);
  no_longer = omega (arith, one.no_longer, two.no_longer);
}

area_none : (a at n : ℕ) (all : Areas) → AreaTorn a at n all all
area_none a at n all = record { torn = torn_none at n (area_of a all); same = refl }

area_wider : (a from n at m : ℕ) (old new : Areas) → at ≤ from → from + n ≤ at + m → AreaTorn a from n old new → AreaTorn a at m old new
area_wider a from n at m old new low high step = record { torn = torn_wider from n at m (area_of a old) (area_of a new) low high step.torn; same = step.same }

area_twice : (a at n : ℕ) (old mid new : Areas) → AreaTorn a at n old mid → AreaTorn a at n mid new → AreaTorn a at n old new
area_twice a at n old mid new one two = record { torn = torn_twice at n (area_of a old) (area_of a mid) (area_of a new) one.torn two.torn; same = two.same ∙ one.same }

-- what the loop has done
pub record Writing (tells : Type 0) (a at : ℕ) (old now : RawView) (bytes : List ℕ) (done : ℕ) : Type 0 where
  pub within : done ≤ length bytes
  pub stands : tells → take done (drop at (area_of a now.areas)) ≡ take done bytes
  pub torn : tells → AreaTorn a at (length bytes) old.areas now.areas
  pub stops : Steps (AreaTorn a at (length bytes)) old.stops now.stops

-- what stands in front of a write stays
front_kept : (at done : ℕ) (bytes mid new : List ℕ) → done ≤ length bytes → take done (drop at mid) ≡ take done bytes
    → take (at + done) (take (length mid) new) ≡ take (at + done) mid → take done (drop at new) ≡ take done bytes
front_kept at zero bytes mid new fits had before = refl
front_kept at (suc d) bytes mid new fits had before =
    let long : at + suc d ≤ length mid = omega (arith, ap length had, length-take (suc d) (drop at mid), length-take-le (suc d) bytes fits, length-drop at mid) in
    sym (drop-take at (suc d) new)
    ∙ ap (λ (l : List ℕ). drop at l) (sym (take-take (at + suc d) (length mid) new long) ∙ before)
    ∙ drop-take at (suc d) mid ∙ had

-- what stands there, where a part more was written
stands_more : (at done n : ℕ) (bytes mid new : List ℕ) → done + n ≤ length bytes
    → take done (drop at mid) ≡ take done bytes → Written (at + done) (take n (drop done bytes)) mid new
    → take (done + n) (drop at new) ≡ take (done + n) bytes
stands_more at done n bytes mid new fits had more =
    let front = front_kept at done bytes mid new (omega (arith, fits)) had more.torn.before in
    let long : length (take n (drop done bytes)) ≡ n = length-take-le n (drop done bytes) (omega (arith, fits, length-drop done bytes)) in
    let rest : take n (drop (at + done) new) ≡ take n (drop done bytes) = ap (λ (k : ℕ). take k (drop (at + done) new)) (sym long) ∙ more.stands in
    rw (take_both done n (drop at new), take_both done n bytes, drop-drop done at new, front, rest) refl

-- what is still to be written
abbrev left_of : List ℕ → ℕ → List ℕ
left_of bytes done = take (length bytes - done) (drop done bytes)

-- where a write of what is left is torn, the whole range is torn
area_on : (a at : ℕ) (bytes : List ℕ) (done : ℕ) (old now new : Areas) → done ≤ length bytes
    → AreaTorn a at (length bytes) old now → AreaTorn a (at + done) (length (left_of bytes done)) now new → AreaTorn a at (length bytes) old new
area_on a at bytes done old now new within one two = area_twice a at (length bytes) old now new one
    (area_wider a (at + done) (length (left_of bytes done)) at (length bytes) now new (omega arith)
    (omega (arith, within, ap length (take_rest bytes done), length-drop done bytes)) two)

-- a write more, torn
pub torn_on : (tells : Type 0) (a at : ℕ) (old now new : RawView) (bytes : List ℕ) (done : ℕ) → Writing tells a at old now bytes done
    → (tells → AreaTorn a (at + done) (length (left_of bytes done)) now.areas new.areas)
    → tells → AreaTorn a at (length bytes) old.areas new.areas
torn_on tells a at old now new bytes done writing torn told =
    area_on a at bytes done old.areas now.areas new.areas writing.within (writing.torn told) (torn told)

pub stops_on : (tells : Type 0) (a at : ℕ) (old now new : RawView) (bytes : List ℕ) (done : ℕ) → Writing tells a at old now bytes done
    → Steps (AreaTorn a (at + done) (length (left_of bytes done))) now.stops new.stops
    → Steps (AreaTorn a at (length bytes)) old.stops new.stops
stops_on tells a at old now new bytes done writing stops =
    follow (AreaTorn a at (length bytes)) (AreaTorn a (at + done) (length (left_of bytes done))) (AreaTorn a at (length bytes)) old.stops now.stops new.stops writing.stops stops
    (λ r s left step. step)
    (λ q r s was left one two. area_on a at bytes done q r s writing.within one two)

-- one write more
pub write_on : (tells : Type 0) (a at : ℕ) (old now new : RawView) (bytes : List ℕ) (done n : ℕ) → Writing tells a at old now bytes done
    → n ≤ length (left_of bytes done)
    → (tells → WritesPart a (at + done) n (left_of bytes done) now.areas new.areas)
    → (tells → AreaTorn a (at + done) (length (left_of bytes done)) now.areas new.areas)
    → Steps (AreaTorn a (at + done) (length (left_of bytes done))) now.stops new.stops
    → Writing tells a at old new bytes (done + n)
write_on tells a at old now new bytes done n writing few part torn stops =
    let rest : left_of bytes done ≡ drop done bytes = take_rest bytes done in
    let fits : done + n ≤ length bytes = omega (arith, writing.within, few, ap length rest, length-drop done bytes) in
    record {
      within = fits;
      stands = λ told. stands_more at done n bytes (area_of a now.areas) (area_of a new.areas) fits (writing.stands told)
          (subst (λ (l : List ℕ). Written (at + done) (take n l) (area_of a now.areas) (area_of a new.areas)) rest (part told).written);
      torn = torn_on tells a at old now new bytes done writing torn;
      stops = stops_on tells a at old now new bytes done writing stops;
    }

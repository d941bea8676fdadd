-- What a slot holds, told from a part of its bytes.
use Rattle.std.proofs.Common.{◌≡◌, ℕ, ◌+◌, ◌-◌, ◌%◌, ◌^◌, ◌<◌, ◌≤◌, Bool, true, false, cond, eqb, leb, ltb, ◌&&◌, List, [], ◌∷◌, ◌++◌, length, take, drop, get_or, Option, Some, None, Ok, refl, sym, ap, ◌∙◌, append_assoc, arith, length-append, length-drop}
use Rattle.std.proofs.Math.Nat.{mod-eq_of_lt, add-mod_left}
use Rattle.std.proofs.lemmas.Bool.{and_parts, and_from, le-leb, leb-true, lt-ltb, ltb-true, ltb-false, le-ltb, eqb-true, eq-eqb, false_from_ne_true}
use Rattle.std.proofs.lemmas.List.{drop-drop, drop-take, take-take, take_at, drop_at, get_or-take, get_or-drop, length-take, take_all}
use Rattle.byteorder.specs.Endian.{big_number, big_bytes}
use Rattle.byteorder.specs.Numbers.{big_from-take, big_from-bytes, length-bytes_high_first}
use Rattle.net_model.specs.NetData.{NetData}
use Rattle.net_model.specs.declared.call.Call.{Call}
use Rattle.kernel_model.specs.Kernel.{step}
use Rattle.net_image.specs.Image.{net_of}
use Rattle.net_image.proofs.lemmas.Reading.{bind_some}
use Rattle.call_journal.specs.Records.{is_open}
use Rattle.call_journal.specs.Replay.{replayed}
use Rattle.call_journal.specs.Area.{Held, held, HasImage, is_first, has_journal, image_length, journal_held, image_held, slot_held, new_slot}
use Rattle.call_journal.proofs.lemmas.Record.{Begins, begins_read}
use Rattle.call_journal.specs.Weight.{weight_of, journal_weight, spare_of}
use Rattle.call_journal.proofs.lemmas.Weighing.{weight_closed, weight_opened, weight_along}
use Rattle.call_journal.proofs.lemmas.Replaying.{shifted, along, at_end, goes_on, closed_there, within_bytes}

chosen : {X : Type 0} (b : Bool) (o : Option X) (x : X) → cond b o None ≡ Some x → (b ≡ true) × (o ≡ Some x)
chosen true o x e = (refl, e)
chosen false o x e = absurd cc

-- ---- the image

-- an image alone is held
pub plain_held : (slot : List ℕ) (n : ℕ) (first : Bool) (image : NetData) → HasImage slot n false first image → slot_held slot ≡ Some (held first image None 0)
unfolding slot_held
plain_held slot n first image is =
    let fits : (leb (image_length slot) 1048572 && leb (4 + image_length slot) (length slot)) ≡ true =
    and_from (leb (image_length slot) 1048572) (leb (4 + image_length slot) (length slot)) (le-leb (image_length slot) 1048572 (omega (arith, is.size, is.small))) (le-leb (4 + image_length slot) (length slot) (omega (arith, is.size, is.inside))) in
    let found : net_of (take (image_length slot) (drop 4 slot)) ≡ Some image = ap (λ (k : ℕ). net_of (take k (drop 4 slot))) is.size ∙ is.is_image in
    let version : is_first (take (image_length slot) (drop 4 slot)) ≡ first = ap (λ (k : ℕ). is_first (take k (drop 4 slot))) is.size ∙ is.version in
    rw (fits, found, is.bit) (ap (λ (b : Bool). Some (held b image None 0)) version)

-- and one with a journal as its journal leads
pub journaled_held : (slot : List ℕ) (n : ℕ) (first : Bool) (image : NetData) → HasImage slot n true first image → slot_held slot ≡ journal_held first (4 + n) slot image
unfolding slot_held
journaled_held slot n first image is =
    let fits : (leb (image_length slot) 1048572 && leb (4 + image_length slot) (length slot)) ≡ true =
    and_from (leb (image_length slot) 1048572) (leb (4 + image_length slot) (length slot)) (le-leb (image_length slot) 1048572 (omega (arith, is.size, is.small))) (le-leb (4 + image_length slot) (length slot) (omega (arith, is.size, is.inside))) in
    let found : net_of (take (image_length slot) (drop 4 slot)) ≡ Some image = ap (λ (k : ℕ). net_of (take k (drop 4 slot))) is.size ∙ is.is_image in
    let version : is_first (take (image_length slot) (drop 4 slot)) ≡ first = ap (λ (k : ℕ). is_first (take k (drop 4 slot))) is.size ∙ is.version in
    rw (fits, found, is.bit) (ap (λ (b : Bool). journal_held b (4 + image_length slot) slot image) version ∙ ap (λ (k : ℕ). journal_held first (4 + k) slot image) is.size)

-- ---- the journal

-- a journal that ends at a closed gate
pub gate_held : (first : Bool) (from place : ℕ) (slot : List ℕ) (image last : NetData) → replayed image (drop from slot) ≡ Some (last, place) → from + place < length slot
    → journal_held first from slot image ≡ Some (held first last (Some (from + place)) (spare_of (journal_weight (drop from slot))))
gate_held first from place slot image last all within = rw (all, lt-ltb (from + place) (length slot) within) refl

-- and one that ends with the slot
pub full_held : (first : Bool) (from place : ℕ) (slot : List ℕ) (image last : NetData) → replayed image (drop from slot) ≡ Some (last, place) → length slot ≤ from + place → length slot ≡ 1048576
    → journal_held first from slot image ≡ Some (held first last None 0)
full_held first from place slot image last all past whole = rw (all, le-ltb (from + place) (length slot) past, eq-eqb (length slot) 1048576 whole) refl

-- ---- what is known of a slot that holds something

-- an image alone; a journal that ends at a closed gate; a journal that ends with the slot
pub data Holding (slot : List ℕ) (h : Held) : Type 0 where
  plain : (n : ℕ) (first : Bool) (image : NetData) → HasImage slot n false first image → h ≡ held first image None 0 → Holding slot h
  gated : (n place : ℕ) (first : Bool) (image last : NetData) → HasImage slot n true first image → replayed image (drop (4 + n) slot) ≡ Some (last, place) → (4 + n) + place < length slot → h ≡ held first last (Some ((4 + n) + place)) (spare_of (journal_weight (drop (4 + n) slot))) → Holding slot h
  full : (n place : ℕ) (first : Bool) (image last : NetData) → HasImage slot n true first image → replayed image (drop (4 + n) slot) ≡ Some (last, place) → length slot ≤ (4 + n) + place → length slot ≡ 1048576 → h ≡ held first last None 0 → Holding slot h

same_some : {X : Type 0} (x y : X) → Some x ≡ Some y → y ≡ x
same_some x y e = cc

-- what is held is one of the three
pub parts_of : (slot : List ℕ) (h : Held) → slot_held slot ≡ Some h → Holding slot h
unfolding slot_held
parts_of slot h is =
    let n = image_length slot in
    let first = is_first (take n (drop 4 slot)) in
    let a = chosen (leb n 1048572 && leb (4 + n) (length slot)) (image_held n slot) h is in
    let fits = and_parts (leb n 1048572) (leb (4 + n) (length slot)) a.0 in
    let b = bind_some (net_of (take n (drop 4 slot))) (λ (net : NetData). cond (has_journal slot) (journal_held first (4 + n) slot net) (Some (held first net None 0))) h a.1 in
    let has : (journal : Bool) → has_journal slot ≡ journal → HasImage slot n journal first b.0 =
    λ journal bit. record { size = refl; bit = bit; small = leb-true _ _ fits.0; inside = leb-true _ _ fits.1; version = refl; is_image = b.1 } in
    by_bit n first b.0 (has_journal slot) has refl b.2
  where
    by_end : (n : ℕ) (first : Bool) (image : NetData) → HasImage slot n true first image → (r : NetData × ℕ) → replayed image (drop (4 + n) slot) ≡ Some r → (t : Bool) → ltb ((4 + n) + r.1) (length slot) ≡ t
        → cond t (Some (held first r.0 (Some ((4 + n) + r.1)) (spare_of (journal_weight (drop (4 + n) slot))))) (cond (eqb (length slot) 1048576) (Some (held first r.0 None 0)) None) ≡ Some h → Holding slot h
    by_end n first image has r all true below e = gated n r.1 first image r.0 has all (ltb-true _ _ below) (same_some _ _ e)
    by_end n first image has r all false past e =
        let c = chosen (eqb (length slot) 1048576) (Some (held first r.0 None 0)) h e in
        full n r.1 first image r.0 has all (ltb-false _ _ past) (eqb-true _ _ c.0) (same_some _ _ c.1)

    by_bit : (n : ℕ) (first : Bool) (image : NetData) (t : Bool) → ((journal : Bool) → has_journal slot ≡ journal → HasImage slot n journal first image) → has_journal slot ≡ t
        → cond t (journal_held first (4 + n) slot image) (Some (held first image None 0)) ≡ Some h → Holding slot h
    by_bit n first image false has bit e = plain n first image (has false bit) (same_some _ _ e)
    by_bit n first image true has bit e =
        let b = bind_some (replayed image (drop (4 + n) slot))
        (λ (r : NetData × ℕ). cond (ltb ((4 + n) + r.1) (length slot)) (Some (held first r.0 (Some ((4 + n) + r.1)) (spare_of (journal_weight (drop (4 + n) slot))))) (cond (eqb (length slot) 1048576) (Some (held first r.0 None 0)) None)) h e in
        by_end n first image (has true bit) b.0 b.1 (ltb ((4 + n) + b.0.1) (length slot)) refl b.2

-- ---- slots that are the same up to a place

-- the image is told by its length and so many bytes
pub same_image : (slot other : List ℕ) (n : ℕ) (journal first : Bool) (image : NetData) → HasImage slot n journal first image → take (4 + n) other ≡ take (4 + n) slot → 4 + n ≤ length other → HasImage other n journal first image
same_image slot other n journal first image has same long =
    let number : big_number 4 other ≡ big_number 4 slot = sym (big_from-take 0 4 (4 + n) other (omega arith)) ∙ ap (big_number 4) same ∙ big_from-take 0 4 (4 + n) slot (omega arith) in
    let bytes : take n (drop 4 other) ≡ take n (drop 4 slot) = sym (drop-take 4 n other) ∙ ap (λ (l : List ℕ). drop 4 l) same ∙ drop-take 4 n slot in
    record {
      size = ap (λ (k : ℕ). k % 2 ^ 31) number ∙ has.size;
      bit = ap (λ (k : ℕ). leb (2 ^ 31) k) number ∙ has.bit;
      small = has.small;
      inside = long;
      version = ap is_first bytes ∙ has.version;
      is_image = ap net_of bytes ∙ has.is_image;
    }

take_more : (k m : ℕ) (slot other : List ℕ) → k ≤ m → take m other ≡ take m slot → take k other ≡ take k slot
take_more k m slot other le same = sym (take-take k m other le) ∙ ap (take k) same ∙ take-take k m slot le

take_long : (m : ℕ) (slot other : List ℕ) → m ≤ length slot → take m other ≡ take m slot → m ≤ length other
take_long m slot other le same = omega (arith, length-take m other, length-take m slot, ap length same)

-- a journal up to a place, in another slot that is the same up to there
pub journal_along : (slot other : List ℕ) (n place : ℕ) (first : Bool) (image last : NetData) → HasImage slot n true first image → replayed image (drop (4 + n) slot) ≡ Some (last, place)
    → take ((4 + n) + place) other ≡ take ((4 + n) + place) slot → (4 + n) + place ≤ length other
    → replayed image (drop (4 + n) other) ≡ shifted place (replayed last (drop ((4 + n) + place) other))
journal_along slot other n place first image last has all same long =
    let behind : take place (drop (4 + n) other) ≡ take place (drop (4 + n) slot) = sym (drop-take (4 + n) place other) ∙ ap (drop (4 + n)) same ∙ drop-take (4 + n) place slot in
    along image last (drop (4 + n) slot) (drop (4 + n) other) place all (omega (arith, length-drop (4 + n) other, long)) behind
    ∙ ap (λ (l : List ℕ). shifted place (replayed last l)) (drop-drop place (4 + n) other)

-- and it weighs as much more
weight_behind : (slot other : List ℕ) (n place : ℕ) (image last : NetData) → replayed image (drop (4 + n) slot) ≡ Some (last, place) → take ((4 + n) + place) other ≡ take ((4 + n) + place) slot → (4 + n) + place ≤ length other
    → journal_weight (drop (4 + n) other) ≡ journal_weight (drop (4 + n) slot) + journal_weight (drop ((4 + n) + place) other)
weight_behind slot other n place image last all same long =
    let behind : take place (drop (4 + n) other) ≡ take place (drop (4 + n) slot) = sym (drop-take (4 + n) place other) ∙ ap (drop (4 + n)) same ∙ drop-take (4 + n) place slot in
    weight_along image last (drop (4 + n) slot) (drop (4 + n) other) place all (omega (arith, length-drop (4 + n) other, long)) behind
    ∙ ap (λ (l : List ℕ). journal_weight (drop (4 + n) slot) + journal_weight l) (drop-drop place (4 + n) other)

-- a slot whose journal ends at a closed gate holds the same while its bytes before the gate stay and the gate is closed
pub gate_still : (slot other : List ℕ) (version : Bool) (net : NetData) (gate spare : ℕ) → slot_held slot ≡ Some (held version net (Some gate) spare) → take gate other ≡ take gate slot → is_open (drop gate other) ≡ false → gate < length other
    → slot_held other ≡ Some (held version net (Some gate) spare)
gate_still slot other version net gate spare is same closed long = elim (parts_of slot (held version net (Some gate) spare) is) [
  | plain n first image has e ↦ absurd (let g : Some gate ≡ None = ap (λ (h : Held). h.gate) e in cc)
  | full n place first image last has all past whole e ↦ absurd (let g : Some gate ≡ None = ap (λ (h : Held). h.gate) e in cc)
  | gated n place first image last has all within e ↦
      let g : gate ≡ (4 + n) + place = let s : Some gate ≡ Some ((4 + n) + place) = ap (λ (h : Held). h.gate) e in cc in
      let upto : take ((4 + n) + place) other ≡ take ((4 + n) + place) slot = sym (ap (λ (k : ℕ). take k other) g) ∙ same ∙ ap (λ (k : ℕ). take k slot) g in
      let front = take_more (4 + n) ((4 + n) + place) slot other (omega arith) upto in
      let ends : replayed last (drop ((4 + n) + place) other) ≡ Some (last, 0) = at_end last (drop ((4 + n) + place) other) (sym (ap (λ (k : ℕ). is_open (drop k other)) g) ∙ closed) in
      let here : (4 + n) + place < length other = omega (arith, g, long) in
      let whole : replayed image (drop (4 + n) other) ≡ Some (last, place) =
      journal_along slot other n place first image last has all upto (omega (arith, here)) ∙ ap (shifted place) ends ∙ (let z : place + 0 ≡ place = omega arith in ap (λ (k : ℕ). Some (last, k)) z) in
      let none : journal_weight (drop ((4 + n) + place) other) ≡ 0 = weight_closed (drop ((4 + n) + place) other) (sym (ap (λ (k : ℕ). is_open (drop k other)) g) ∙ closed) in
      let weight : journal_weight (drop (4 + n) other) ≡ journal_weight (drop (4 + n) slot) = (let more = weight_behind slot other n place image last all upto (omega (arith, here)) in omega (arith, more, none)) in
      journaled_held other n first image (same_image slot other n true first image has front (omega (arith, here))) ∙ gate_held first (4 + n) place other image last whole here
      ∙ ap (λ (w : ℕ). Some (held first last (Some ((4 + n) + place)) (spare_of w))) weight ∙ ap Some (sym e)
]

-- what is known of the closed gate of a slot
pub record HasGate (slot : List ℕ) (gate : ℕ) : Type 0 where
  pub behind : 4 ≤ gate
  pub inside : gate < length slot
  pub closed : is_open (drop gate slot) ≡ false

-- it is behind the length, within the slot, and closed
pub has_gate : (slot : List ℕ) (version : Bool) (net : NetData) (gate spare : ℕ) → slot_held slot ≡ Some (held version net (Some gate) spare) → HasGate slot gate
has_gate slot version net gate spare is = elim (parts_of slot (held version net (Some gate) spare) is) [
  | plain n first image has e ↦ absurd (let g : Some gate ≡ None = ap (λ (h : Held). h.gate) e in cc)
  | full n place first image last has all past whole e ↦ absurd (let g : Some gate ≡ None = ap (λ (h : Held). h.gate) e in cc)
  | gated n place first image last has all within e ↦
      let g : gate ≡ (4 + n) + place = let s : Some gate ≡ Some ((4 + n) + place) = ap (λ (h : Held). h.gate) e in cc in
      record {
        behind = omega (arith, g);
        inside = omega (arith, g, within);
        closed = ap (λ (k : ℕ). is_open (drop k slot)) g ∙ ap is_open (sym (drop-drop place (4 + n) slot))
            ∙ closed_there image last (drop (4 + n) slot) place all (within_bytes image last (drop (4 + n) slot) place all);
      }
]

same_gate : (p : ℕ) (slot other : List ℕ) → take (p + 1) other ≡ take (p + 1) slot → is_open (drop p other) ≡ is_open (drop p slot)
same_gate p slot other same =
    let at : get_or (drop p other) 0 0 ≡ get_or (drop p slot) 0 0 =
    get_or-drop p other 0 0 ∙ sym (get_or-take (p + 1) other (p + 0) 0 (omega arith)) ∙ ap (λ (l : List ℕ). get_or l (p + 0) 0) same ∙ get_or-take (p + 1) slot (p + 0) 0 (omega arith) ∙ sym (get_or-drop p slot 0 0) in
    ap (λ (k : ℕ). eqb k 1) at

-- a slot whose journal ends at a closed gate is told by its bytes up to that gate
pub gate_kept : (slot other : List ℕ) (version : Bool) (net : NetData) (gate spare : ℕ) → slot_held slot ≡ Some (held version net (Some gate) spare) → take (gate + 1) other ≡ take (gate + 1) slot
    → slot_held other ≡ Some (held version net (Some gate) spare)
gate_kept slot other version net gate spare is same =
    let g = has_gate slot version net gate spare is in
    gate_still slot other version net gate spare is (take_more gate (gate + 1) slot other (omega arith) same) (same_gate gate slot other same ∙ g.closed)
    (let long = take_long (gate + 1) slot other (omega (arith, g.inside)) same in omega arith)

-- a record at the closed gate, with a closed gate behind it
pub record_added : (slot other : List ℕ) (version : Bool) (net next : NetData) (gate spare n : ℕ) (call : Call) → slot_held slot ≡ Some (held version net (Some gate) spare) → take gate other ≡ take gate slot
    → Begins (drop gate other) n call → step call net ≡ Ok next → is_open (drop (gate + (3 + n)) other) ≡ false → gate + (3 + n) < length other
    → slot_held other ≡ Some (held version next (Some (gate + (3 + n))) (spare - weight_of call (3 + n)))
record_added slot other version net next gate spare n call is same begins stepped closed long = elim (parts_of slot (held version net (Some gate) spare) is) [
  | plain m first image has e ↦ absurd (let g : Some gate ≡ None = ap (λ (h : Held). h.gate) e in cc)
  | full m place first image last has all past whole e ↦ absurd (let g : Some gate ≡ None = ap (λ (h : Held). h.gate) e in cc)
  | gated m place first image last has all within e ↦
      let g : gate ≡ (4 + m) + place = let s : Some gate ≡ Some ((4 + m) + place) = ap (λ (h : Held). h.gate) e in cc in
      let is_last : net ≡ last = ap (λ (h : Held). h.net) e in
      let upto : take ((4 + m) + place) other ≡ take ((4 + m) + place) slot = sym (ap (λ (k : ℕ). take k other) g) ∙ same ∙ ap (λ (k : ℕ). take k slot) g in
      let front = take_more (4 + m) ((4 + m) + place) slot other (omega arith) upto in
      let used : length (drop gate other) - length (drop (3 + n) (drop gate other)) ≡ 3 + n = omega (arith, length-drop gate other, length-drop (3 + n) (drop gate other), long) in
      let ends : replayed next (drop (3 + n) (drop gate other)) ≡ Some (next, 0) = at_end next (drop (3 + n) (drop gate other)) (ap is_open (drop-drop (3 + n) gate other) ∙ closed) in
      let one : replayed net (drop gate other) ≡ Some (next, 3 + n) =
      goes_on net next (drop gate other) (drop (3 + n) (drop gate other)) call begins.opens (begins_read (drop gate other) n call begins) stepped
      ∙ ap (λ (k : ℕ). shifted k (replayed next (drop (3 + n) (drop gate other)))) used ∙ ap (shifted (3 + n)) ends ∙ (let z : (3 + n) + 0 ≡ 3 + n = omega arith in ap (λ (k : ℕ). Some (next, k)) z) in
      let here : replayed last (drop ((4 + m) + place) other) ≡ Some (next, 3 + n) = sym (ap (λ (p : NetData). replayed p (drop ((4 + m) + place) other)) is_last) ∙ sym (ap (λ (k : ℕ). replayed net (drop k other)) g) ∙ one in
      let whole : replayed image (drop (4 + m) other) ≡ Some (next, place + (3 + n)) =
      journal_along slot other m place first image last has all upto (omega (arith, long, g)) ∙ ap (shifted place) here in
      let at : (4 + m) + (place + (3 + n)) ≡ gate + (3 + n) = omega (arith, g) in
      let is_version : first ≡ version = sym (ap (λ (h : Held). h.first_image) e) in
      let spare_is : spare ≡ spare_of (journal_weight (drop (4 + m) slot)) = ap (λ (h : Held). h.spare) e in
      let none : journal_weight (drop (3 + n) (drop gate other)) ≡ 0 = weight_closed (drop (3 + n) (drop gate other)) (ap is_open (drop-drop (3 + n) gate other) ∙ closed) in
      let one_weight : journal_weight (drop gate other) ≡ weight_of call (3 + n) + journal_weight (drop (3 + n) (drop gate other)) =
      weight_opened (drop gate other) (drop (3 + n) (drop gate other)) call begins.opens (begins_read (drop gate other) n call begins)
      ∙ ap (λ (k : ℕ). weight_of call k + journal_weight (drop (3 + n) (drop gate other))) used in
      let weight : journal_weight (drop (4 + m) other) ≡ journal_weight (drop (4 + m) slot) + journal_weight (drop gate other) =
      weight_behind slot other m place image last all upto (omega (arith, long, g)) ∙ ap (λ (k : ℕ). journal_weight (drop (4 + m) slot) + journal_weight (drop k other)) (sym g) in
      let left : spare_of (journal_weight (drop (4 + m) other)) ≡ spare - weight_of call (3 + n) = omega (arith, weight, one_weight, none, spare_is) in
      journaled_held other m first image (same_image slot other m true first image has front (omega (arith, long, g)))
      ∙ gate_held first (4 + m) (place + (3 + n)) other image next whole (omega (arith, long, g))
      ∙ ap (λ (w : ℕ). Some (held first next (Some ((4 + m) + (place + (3 + n)))) w)) left
      ∙ ap (λ (k : ℕ). Some (held first next (Some k) (spare - weight_of call (3 + n)))) at ∙ ap (λ (b : Bool). Some (held b next (Some (gate + (3 + n))) (spare - weight_of call (3 + n)))) is_version
]

-- a slot that holds something holds it with more bytes behind it too
pub more_behind : (slot other : List ℕ) (h : Held) → slot_held slot ≡ Some h → take (length slot) other ≡ slot → length other ≤ 1048576 → slot_held other ≡ Some h
more_behind slot other h is same within =
    let long : length slot ≤ length other = omega (arith, length-take (length slot) other, ap length same) in
    elim (parts_of slot h is) [
      | plain n first image has e ↦
          plain_held other n first image (same_image slot other n false first image has (front n has.inside) (omega (arith, long, has.inside))) ∙ ap Some (sym e)
      | gated n place first image last has all within2 e ↦
          gate_kept slot other first last ((4 + n) + place) (spare_of (journal_weight (drop (4 + n) slot))) (is ∙ ap Some e) (front_of (((4 + n) + place) + 1) (omega (arith, within2))) ∙ ap Some (sym e)
      | full n place first image last has all past whole e ↦
          let e2 : other ≡ slot = sym (take_all (length slot) other (omega (arith, whole, within))) ∙ same in
          ap slot_held e2 ∙ is
    ]
  where
    front_of : (k : ℕ) → k ≤ length slot → take k other ≡ take k slot
    front_of k le = sym (take-take k (length slot) other le) ∙ ap (take k) same

    front : (n : ℕ) → 4 + n ≤ length slot → take (4 + n) other ≡ take (4 + n) slot
    front n le = front_of (4 + n) le

-- an image with an empty journal
pub new_held : (image rest : List ℕ) (first : Bool) (net : NetData) → length image ≤ 1048571 → is_first image ≡ first → net_of image ≡ Some net
    → slot_held (new_slot image ++ rest) ≡ Some (held first net (Some (4 + length image)) 131072)
unfolding new_slot
new_held image rest first net small version is =
    let size = length image in
    let front = big_bytes 4 (2 ^ 31 + size) in
    let bytes = front ++ (image ++ (0 ∷ rest)) in
    let regrouped : new_slot image ++ rest ≡ bytes = append_assoc (front ++ image) (0 ∷ []) rest ∙ append_assoc front image (0 ∷ rest) in
    let four : length front ≡ 4 = length-bytes_high_first 4 (2 ^ 31 + size) in
    let number : big_number 4 bytes ≡ 2 ^ 31 + size = big_from-bytes 4 (2 ^ 31 + size) (image ++ (0 ∷ rest)) ∙ mod-eq_of_lt (omega arith) in
    let low : (2 ^ 31 + size) % 2 ^ 31 ≡ size = low_bits size small in
    let behind : drop 4 bytes ≡ image ++ (0 ∷ rest) = drop_at front (image ++ (0 ∷ rest)) 4 four in
    let journal : drop (4 + size) bytes ≡ 0 ∷ rest = sym (drop-drop size 4 bytes) ∙ ap (drop size) behind ∙ drop_at image (0 ∷ rest) size refl in
    let long : (4 + size) + 0 < length bytes = omega (arith, four, length-append front (image ++ (0 ∷ rest)), length-append image (0 ∷ rest)) in
    let image_is : take size (drop 4 bytes) ≡ image = ap (take size) behind ∙ take_at image (0 ∷ rest) size refl in
    let has : HasImage bytes size true first net = record {
      size = ap (λ (k : ℕ). k % 2 ^ 31) number ∙ low;
      bit = le-leb _ _ (omega (arith, number));
      small = omega (arith, small);
      inside = omega (arith, long);
      version = ap is_first image_is ∙ version;
      is_image = ap net_of image_is ∙ is;
    } in
    let none : replayed net (drop (4 + size) bytes) ≡ Some (net, 0) = ap (replayed net) journal ∙ at_end net (0 ∷ rest) refl in
    let at : (4 + size) + 0 ≡ 4 + size = omega arith in
    let light : journal_weight (drop (4 + size) bytes) ≡ 0 = ap journal_weight journal ∙ weight_closed (0 ∷ rest) refl in
    let spare : spare_of (journal_weight (drop (4 + size) bytes)) ≡ 131072 = omega (arith, light) in
    ap slot_held regrouped ∙ journaled_held bytes size first net has ∙ gate_held first (4 + size) 0 bytes net net none long
    ∙ ap (λ (w : ℕ). Some (held first net (Some ((4 + size) + 0)) w)) spare ∙ ap (λ (k : ℕ). Some (held first net (Some k) 131072)) at
  where
    low_bits : (n : ℕ) → n ≤ 1048571 → (2 ^ 31 + n) % 2 ^ 31 ≡ n
    low_bits n le = add-mod_left (2 ^ 31) n ∙ mod-eq_of_lt (omega arith)

-- ---- slots that hold nothing

-- no image begins the slot
pub no_image : (slot : List ℕ) (n : ℕ) → image_length slot ≡ n → (n ≤ 1048572 → 4 + n ≤ length slot → net_of (take n (drop 4 slot)) ≡ None) → slot_held slot ≡ None
unfolding slot_held
no_image slot n size none = by (image_length slot) size (leb (image_length slot) 1048572 && leb (4 + image_length slot) (length slot)) refl
  where
    by : (m : ℕ) → m ≡ n → (t : Bool) → (leb m 1048572 && leb (4 + m) (length slot)) ≡ t → cond t (image_held m slot) None ≡ None
    by m is false fits = refl
    by m is true fits =
        let parts = and_parts (leb m 1048572) (leb (4 + m) (length slot)) fits in
        let small = leb-true m 1048572 parts.0 in
        let inside = leb-true (4 + m) (length slot) parts.1 in
        let nothing : net_of (take m (drop 4 slot)) ≡ None = ap (λ (k : ℕ). net_of (take k (drop 4 slot))) is ∙ none (omega (arith, is, small)) (omega (arith, is, inside)) in
        rw nothing refl

-- its journal has an open gate without a whole record of a call that is accepted there
pub bad_journal : (slot : List ℕ) (n : ℕ) (first : Bool) (image : NetData) → HasImage slot n true first image → replayed image (drop (4 + n) slot) ≡ None → slot_held slot ≡ None
bad_journal slot n first image has none = journaled_held slot n first image has ∙ rw none refl

-- its journal is cut off
pub cut_journal : (slot : List ℕ) (n place : ℕ) (first : Bool) (image last : NetData) → HasImage slot n true first image → replayed image (drop (4 + n) slot) ≡ Some (last, place) → length slot ≤ (4 + n) + place → length slot < 1048576 → slot_held slot ≡ None
cut_journal slot n place first image last has all past short = journaled_held slot n first image has ∙ rw (all, le-ltb ((4 + n) + place) (length slot) past, false_from_ne_true (eqb (length slot) 1048576) (λ t. omega (arith, eqb-true (length slot) 1048576 t, short))) refl

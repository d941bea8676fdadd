-- What writes to a kernel area leave of its slots.
use Rattle.std.proofs.Common.{◌≡◌, ◌≢◌, ◌⊎◌, inl, inr, ℕ, ◌+◌, ◌-◌, ◌<◌, ◌≤◌, List, [], ◌∷◌, ◌++◌, length, take, drop, get_or, refl, sym, ap, ◌∙◌, arith, length-drop, take-append-drop, Bool, true, false, Option, Some, None}
use Rattle.std.specs.Prelude.{not, ◌==◌}
use Rattle.std.proofs.lemmas.Bool.{cases_lt}
use Rattle.std.proofs.Math.Seq.{take-append-add}
use Rattle.std.proofs.lemmas.List.{get_or-take, drop-drop, take-take, drop-take, take_all, length-take, length-take-le, drop_all}
use Rattle.net_model.specs.NetData.{NetData}
use Rattle.net_image.specs.Image.{net_of}
use Rattle.host_core.specs.Bytes.{Torn, Written}
use Rattle.call_journal.specs.Area.{Held, held, is_first, slot_at, slot_of, selects, selector, slot_held, kernel_held, net_held, kernel_net, new_slot}
use Rattle.call_journal.proofs.lemmas.Slots.{more_behind, new_held}
use Rattle.disk_host.specs.Slots.{IsApart}

-- ---- what stays of a torn write

-- the bytes before the place that were there
pub before_kept : (at n k : ℕ) (old new : List ℕ) → Torn at n old new → k ≤ at → k ≤ length old → take k new ≡ take k old
before_kept at n k old new torn le long =
    sym (take-take k (length old) new long) ∙ sym (take-take k at (take (length old) new) le) ∙ ap (take k) torn.before ∙ take-take k at old le

pub selects_kept : (old new : List ℕ) → take 1 new ≡ take 1 old → selects new ≡ selects old
selects_kept old new same =
    let first : get_or new 0 0 ≡ get_or old 0 0 = sym (get_or-take 1 new 0 0 (omega arith)) ∙ ap (λ (l : List ℕ). get_or l 0 0) same ∙ get_or-take 1 old 0 0 (omega arith) in
    ap (λ (k : ℕ). k == 1) first

-- the front of a slot, by the front of the area
pub slot_front : (b : Bool) (k : ℕ) (old new : List ℕ) → k ≤ 1048576 → take (slot_at b + k) new ≡ take (slot_at b + k) old → take k (slot_of b new) ≡ take k (slot_of b old)
slot_front b k old new le same = front new ∙ ap (drop (slot_at b)) same ∙ sym (front old)
  where
    front : (l : List ℕ) → take k (slot_of b l) ≡ drop (slot_at b) (take (slot_at b + k) l)
    front l = take-take k 1048576 (drop (slot_at b) l) le ∙ sym (drop-take (slot_at b) k l)

pub slot_length : (b : Bool) (l : List ℕ) (k : ℕ) → k ≤ 1048576 → slot_at b + k ≤ length l → k ≤ length (slot_of b l)
slot_length b l k le long = omega (arith, length-take 1048576 (drop (slot_at b) l), length-drop (slot_at b) l)

pub within_area : (b : Bool) (l : List ℕ) (k : ℕ) → k < length (slot_of b l) → (k < 1048576) × (slot_at b + k < length l)
within_area b l k lt = (omega (arith, length-take 1048576 (drop (slot_at b) l)), omega (arith, length-take 1048576 (drop (slot_at b) l), length-drop (slot_at b) l))

-- what is behind a place of a slot, up to the end of the slot
pub slot_behind : (b : Bool) (k : ℕ) (l : List ℕ) → k ≤ 1048576 → drop k (slot_of b l) ≡ take (1048576 - k) (drop (slot_at b + k) l)
slot_behind b k l le =
    let sum : 1048576 ≡ k + (1048576 - k) = omega arith in
    ap (λ (m : ℕ). drop k (take m (drop (slot_at b) l))) sum ∙ drop-take k (1048576 - k) (drop (slot_at b) l) ∙ ap (take (1048576 - k)) (drop-drop k (slot_at b) l)

-- ---- the selector

pub slots_kept : (mid new : List ℕ) → Torn 0 1 mid new → (b : Bool) → slot_of b new ≡ slot_of b mid
slots_kept mid new torn false = let same : drop 1 new ≡ drop 1 mid = torn.after in ap (take 1048576) same
slots_kept mid new torn true =
    let same : drop 1 new ≡ drop 1 mid = torn.after in
    ap (take 1048576) (sym (drop-drop 1048576 1 new) ∙ ap (λ (l : List ℕ). drop 1048576 l) same ∙ drop-drop 1048576 1 mid)

either : (b to : Bool) → (b ≡ not to) ⊎ (b ≡ to)
either true true = inr refl
either true false = inl refl
either false true = inl refl
either false false = inr refl

-- whatever becomes of the selector, the area holds what the one slot holds, or what the other does
pub one_of_both : (to : Bool) (mid new : List ℕ) → Torn 0 1 mid new → (kernel_held new ≡ slot_held (slot_of (not to) mid)) ⊎ (kernel_held new ≡ slot_held (slot_of to mid))
one_of_both to mid new torn = elim (either (selects new) to) [
  | inl is ↦ inl (ap (λ (b : Bool). slot_held (slot_of b new)) is ∙ ap slot_held (slots_kept mid new torn (not to)))
  | inr is ↦ inr (ap (λ (b : Bool). slot_held (slot_of b new)) is ∙ ap slot_held (slots_kept mid new torn to))
]

first_of : (byte : ℕ) (bytes : List ℕ) → take 1 bytes ≡ byte ∷ [] → get_or bytes 0 0 ≡ byte
first_of byte [] is = let e : [] ≡ byte ∷ [] = is in absurd (cc)
first_of byte (b ∷ bytes) is = let e : b ∷ [] ≡ byte ∷ [] = is in cc

pub selects_written : (to : Bool) (mid new : List ℕ) → Written 0 (selector to ∷ []) mid new → selects new ≡ to
selects_written true mid new written = ap (λ (k : ℕ). k == 1) (first_of 1 new written.stands)
selects_written false mid new written = ap (λ (k : ℕ). k == 1) (first_of 0 new written.stands)

-- ---- the slot that isn't selected is written

take_front : (m : ℕ) (l : List ℕ) → take (length (take m l)) l ≡ take m l
take_front m l = elim (cases_lt (length l) m) [
  | inl short ↦ let e : length (take m l) ≡ length l = omega (arith, length-take m l) in ap (λ (k : ℕ). take k l) e ∙ take_all (length l) l (omega arith) ∙ sym (take_all m l (omega arith))
  | inr long ↦ ap (λ (k : ℕ). take k l) (length-take-le m l long)
]

some_held : (bytes : List ℕ) → kernel_net bytes ≢ None → (h : Held) × (kernel_held bytes ≡ Some h)
some_held bytes some = by (kernel_held bytes) refl
  where
    by : (o : Option Held) → kernel_held bytes ≡ o → (h : Held) × (kernel_held bytes ≡ Some h)
    by None is = absurd (some (ap net_held is))
    by (Some h) is = (h, is)

some_selects : (old : List ℕ) → selects old ≡ true → 1 ≤ length old
some_selects [] is = let e : false ≡ true = is in absurd (cc)
some_selects (b ∷ old) is = omega arith

-- a slot without bytes holds nothing
pub no_slot : slot_held [] ≡ None
unfolding slot_held
no_slot = refl

-- a slot that holds something has bytes
some_bytes : (b : Bool) (old : List ℕ) (h : Held) → slot_held (slot_of b old) ≡ Some h → slot_at b < length old
some_bytes b old h is = elim (cases_lt (slot_at b) (length old)) [
  | inl lt ↦ lt
  | inr le ↦ absurd (let none : Some h ≡ None = sym is ∙ ap (λ (l : List ℕ). slot_held (take 1048576 l)) (drop_all (slot_at b) old le) ∙ ap slot_held (take_all 1048576 [] (omega arith)) ∙ no_slot in cc)
]

-- the first slot stays where something behind it is written
front_kept : (n : ℕ) (old new : List ℕ) (h : Held) → slot_held (slot_of false old) ≡ Some h → Torn 1048577 n old new → slot_held (slot_of false new) ≡ Some h
front_kept n old new h is torn =
    let s = slot_of false old in
    let some = some_bytes false old h is in
    let size : length s ≤ 1048576 = omega (arith, length-take 1048576 (drop 1 old)) in
    let inside : 1 + length s ≤ length old = omega (arith, length-take 1048576 (drop 1 old), length-drop 1 old) in
    let area : take (1 + length s) new ≡ take (1 + length s) old = before_kept 1048577 n (1 + length s) old new torn (omega arith) inside in
    let front : take (length s) (slot_of false new) ≡ s = slot_front false (length s) old new size area ∙ take-take (length s) 1048576 (drop 1 old) size ∙ take_front 1048576 (drop 1 old) in
    more_behind s (slot_of false new) h is front (omega (arith, length-take 1048576 (drop 1 new)))

-- and where it is whole
front_whole : (n : ℕ) (old new : List ℕ) → 1048577 < length old → Torn 1048577 n old new → slot_of false new ≡ slot_of false old
front_whole n old new long torn =
    let same : take (1 + 1048576) new ≡ take (1 + 1048576) old = before_kept 1048577 n 1048577 old new torn (omega arith) (omega arith) in
    sym (drop-take 1 1048576 new) ∙ ap (drop 1) same ∙ drop-take 1 1048576 old

-- the second slot stays where the first is written
back_kept : (n : ℕ) (old new : List ℕ) → n ≤ 1048576 → Torn 1 n old new → slot_of true new ≡ slot_of true old
back_kept n old new small torn = ap (take 1048576) (further new ∙ ap (λ (l : List ℕ). drop (1048576 - n) l) torn.after ∙ sym (further old))
  where
    further : (l : List ℕ) → drop 1048577 l ≡ drop (1048576 - n) (drop (1 + n) l)
    further l = let e : 1048577 ≡ (1 + n) + (1048576 - n) = omega arith in ap (λ (k : ℕ). drop k l) e ∙ sym (drop-drop (1048576 - n) (1 + n) l)

pub other_kept : (to : Bool) (n : ℕ) (old new : List ℕ) → n ≤ 1048576 → selects old ≡ not to → IsApart to old → Torn (slot_at to) n old new
    → (selects new ≡ not to) × (slot_held (slot_of (not to) new) ≡ kernel_held old)
other_kept true n old new small chosen (inl some) torn =
    let is : kernel_held old ≡ slot_held (slot_of false old) = ap (λ (b : Bool). slot_held (slot_of b old)) chosen in
    let there = some_held old some in
    let holds : slot_held (slot_of false old) ≡ Some there.0 = sym is ∙ there.1 in
    let one : 1 ≤ length old = (let lt = some_bytes false old there.0 holds in omega arith) in
    (selects_kept old new (before_kept 1048577 n 1 old new torn (omega arith) one) ∙ chosen, front_kept n old new there.0 holds torn ∙ sym there.1)
other_kept true n old new small chosen (inr (some, long)) torn =
    let is : kernel_held old ≡ slot_held (slot_of false old) = ap (λ (b : Bool). slot_held (slot_of b old)) chosen in
    (selects_kept old new (before_kept 1048577 n 1 old new torn (omega arith) some) ∙ chosen, ap slot_held (front_whole n old new (long refl) torn) ∙ sym is)
other_kept false n old new small chosen apart torn =
    let is : kernel_held old ≡ slot_held (slot_of true old) = ap (λ (b : Bool). slot_held (slot_of b old)) chosen in
    (selects_kept old new (before_kept 1 n 1 old new torn (omega arith) (some_selects old chosen)) ∙ chosen, ap slot_held (back_kept n old new small torn) ∙ sym is)

pub slot_written : (to : Bool) (image slot old mid : List ℕ) (net : NetData) → length image ≤ 864508 → is_first image ≡ false → net_of image ≡ Some net → slot ≡ new_slot image → length slot ≤ 1048576 → Written (slot_at to) slot old mid
    → slot_held (slot_of to mid) ≡ Some (held false net (Some (4 + length image)) 131072)
slot_written to image slot old mid net small latest is spelled fits written =
    let rest = drop (length slot) (drop (slot_at to) mid) in
    let whole : drop (slot_at to) mid ≡ slot ++ rest = sym (take-append-drop (length slot) (drop (slot_at to) mid)) ∙ ap (λ (l : List ℕ). l ++ rest) written.stands in
    let cut : slot_of to mid ≡ new_slot image ++ take (1048576 - length slot) rest = ap (take 1048576) whole ∙ take_past 1048576 slot rest fits ∙ ap (λ (l : List ℕ). l ++ take (1048576 - length slot) rest) spelled in
    ap slot_held cut ∙ new_held image (take (1048576 - length slot) rest) false net (omega (arith, small)) latest is
  where
    take_past : (n : ℕ) (p q : List ℕ) → length p ≤ n → take n (p ++ q) ≡ p ++ take (n - length p) q
    take_past n p q le = let e : n ≡ length p + (n - length p) = omega arith in ap (λ (k : ℕ). take k (p ++ q)) e ∙ take-append-add p q (n - length p)

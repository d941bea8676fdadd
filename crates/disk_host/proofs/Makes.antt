-- What a stop inside a making leaves.
use Rattle.std.proofs.Common.{◌≡◌, ◌≢◌, inl, inr, ℕ, ◌+◌, ◌-◌, ◌≤◌, List, [], ◌∷◌, ◌++◌, length, take, drop, get_or, refl, sym, ap, ◌∙◌, subst, arith, take-append-drop, Bool, true, false, Some, None}
use Rattle.std.specs.Prelude.{not}
use Rattle.std.proofs.Math.Seq.{take-append-add}
use Rattle.std.proofs.lemmas.List.{drop_all, take_all}
use Rattle.net_model.specs.NetData.{NetData}
use Rattle.call_journal.specs.Area.{slot_at, slot_of, selects, slot_held, net_held, kernel_net, new_slot}
use Rattle.host_core.specs.Bytes.{Filled, Torn, Written}
use Rattle.host_core.specs.DiskView.{Areas, DiskView, AreaTorn, HasArea}
use Rattle.host_core.specs.Stops.{Stops, Steps, Stays}
use Rattle.host_core.proofs.lemmas.Moments.{weaken, follow}
use Rattle.disk_host.specs.Slots.{state_of, MaybeStored, HasNone, MaybeClosed, IsShut, NoneOr, AreasMade}
use Rattle.disk_host.specs.Writes.{IsFolded, IsMadeSlot}
use Rattle.disk_host.proofs.Slots.{one_of_both, no_slot, slots_kept, selects_written}
use Rattle.disk_host.proofs.Stores.{slot_size}

past_end : (bytes : List ℕ) → length bytes ≤ 1048577 → slot_held (slot_of true bytes) ≡ None
past_end bytes short = ap (λ (l : List ℕ). slot_held (take 1048576 l)) (drop_all 1048577 bytes short) ∙ ap slot_held (take_all 1048576 [] (omega arith)) ∙ no_slot

-- whatever becomes of the selector, there is no network
pub none_stays : (r s : Areas) → kernel_net r.kernel ≡ None → selects r.kernel ≡ false → length r.kernel ≤ 1048577 → AreaTorn 0 0 1 r s → HasNone r s
none_stays r s none first short step = record {
  cell = step.same;
  net = elim (one_of_both true r.kernel s.kernel step.torn) [
    | inl old ↦ ap net_held (old ∙ ap (λ (b : Bool). slot_held (slot_of b r.kernel)) (sym first)) ∙ none
    | inr new ↦ ap net_held (new ∙ past_end r.kernel short)
  ];
}

pub choosing : (old mid1 mid2 : DiskView) (new : Stops Areas) → HasArea 0 old.areas.kernel old → kernel_net old.areas.kernel ≡ None → selects old.areas.kernel ≡ false → length old.areas.kernel ≤ 1048577
    → Steps Stays old.stops mid1.stops → Steps Stays mid1.stops mid2.stops → Steps (AreaTorn 0 0 1) mid2.stops new → Steps HasNone old.stops new
choosing old mid1 mid2 new sure none first short one two three =
    follow Stays (AreaTorn 0 0 1) HasNone old.stops mid2.stops new
    (follow Stays Stays Stays old.stops mid1.stops mid2.stops one two (λ r s left same. same) (λ q r s begin left a b. b ∙ a)) three
    (λ r s left same. record { cell = ap (λ (a : Areas). a.cell) same; net = ap (λ (a : Areas). kernel_net a.kernel) same ∙ ap kernel_net (sure r left) ∙ none })
    (λ q r s begin left same step. subst (λ (p : Areas). HasNone p s) same
    (none_stays r s (ap (λ (a : Areas). kernel_net a.kernel) same ∙ ap kernel_net (sure q begin) ∙ none) (ap (λ (a : Areas). selects a.kernel) same ∙ ap selects (sure q begin) ∙ first)
    (subst (λ (l : List ℕ). length l ≤ 1048577) (sym (ap (λ (a : Areas). a.kernel) same ∙ sure q begin)) short) step))

-- ---- the gate of the checkpoint

-- a read of the gate into a buffer that says open
pub gate_read : (cell buf : List ℕ) (n : ℕ) → Filled 0 cell (1 ∷ []) buf n → get_or buf 0 0 ≡ get_or cell 0 1
gate_read [] buf n f = let none : n ≡ 0 = omega (arith, f.many) in ap (λ (l : List ℕ). get_or l 0 0) f.bytes ∙ ap (λ (k : ℕ). get_or (drop k (1 ∷ [])) 0 0) none
gate_read (b ∷ cell) buf n f = ap (λ (l : List ℕ). get_or l 0 0) f.bytes

torn_same : (l : List ℕ) → Torn 0 1 l l
torn_same l = record { before = refl; after = refl; no_shorter = omega arith; no_longer = omega arith }

-- one that was closed before
pub shut_before : (cell : List ℕ) → get_or cell 0 1 ≢ 1 → IsShut cell cell
shut_before cell closed = record { closed = closed; gate = torn_same cell; kept = λ same. refl }

-- one that was written
pub shut_written : (old new : List ℕ) → get_or old 0 1 ≡ 1 → Written 0 (0 ∷ []) old new → IsShut old new
shut_written old new is wrote = record {
  closed = λ opens. zero_byte new wrote.stands opens;
  gate = wrote.torn;
  kept = λ shut. absurd (shut is);
}
  where
    zero_byte : (l : List ℕ) → take 1 (drop 0 l) ≡ 0 ∷ [] → get_or l 0 1 ≢ 1
    zero_byte [] stands opens = absurd cc
    zero_byte (b ∷ l) stands opens = let same : b ∷ [] ≡ 0 ∷ [] = stands in let none : b ≡ 0 = cc in let e : 0 ≡ 1 = sym none ∙ opens in absurd cc

-- the closing of a checkpoint alone, where there is no network
pub closed_made : (first : NetData) (old new : Areas) → kernel_net old.kernel ≡ None → MaybeClosed old new → AreasMade first old new
closed_made first old new none (inl same) = inl (ap state_of same)
closed_made first old new none (inr closing) = inr (inl (record { net = ap kernel_net closing.kernel ∙ none; was_open = closing.was_open; gate = closing.gate }))

-- a write to the gate, where it was open
pub closing : (q r s : Areas) → get_or q.cell 0 1 ≡ 1 → r ≡ q → AreaTorn 1 0 1 r s → MaybeClosed q s
closing q r s is same torn = inr (record {
  kernel = torn.same ∙ ap (λ (a : Areas). a.kernel) same;
  was_open = is;
  gate = subst (λ (a : Areas). Torn 0 1 a.cell s.cell) same torn.torn;
})

pub closing_steps : (old mid : DiskView) (new : Stops Areas) → HasArea 1 old.areas.cell old → get_or old.areas.cell 0 1 ≡ 1 → Steps Stays old.stops mid.stops → Steps (AreaTorn 1 0 1) mid.stops new → Steps MaybeClosed old.stops new
closing_steps old mid new sure is one two =
    follow Stays (AreaTorn 1 0 1) MaybeClosed old.stops mid.stops new one two (λ r s left same. inl same)
    (λ q r s begin left same torn. closing q r s (ap (λ (l : List ℕ). get_or l 0 1) (sure q begin) ∙ is) same torn)

-- the checkpoint is closed, and then there is no network or the first one
pub shut_made : (first : NetData) (before then : List ℕ) (q r s : Areas) → IsShut before then → q.cell ≡ before → r.cell ≡ then → NoneOr first r s → AreasMade first q s
shut_made first before then q r s shut was is stored =
    let now : s.cell ≡ then = stored.cell ∙ is in
    inr (inr (record {
      net = stored.net;
      closed = subst (λ (l : List ℕ). get_or l 0 1 ≢ 1) (sym now) shut.closed;
      gate = subst (λ (l : List ℕ). Torn 0 1 q.cell l) (sym now) (subst (λ (l : List ℕ). Torn 0 1 l then) (sym was) shut.gate);
      kept = λ closed. now ∙ shut.kept (subst (λ (l : List ℕ). get_or l 0 1 ≢ 1) was closed) ∙ sym was;
    }))

-- a slot that is freed, and one that is stored then
pub none_yet : (first : NetData) (r s : Areas) → HasNone r s → NoneOr first r s
none_yet first r s is = record { cell = is.cell; net = inl is.net }

pub then_stored : (first : NetData) (q r s : Areas) → HasNone q r → MaybeStored (Some first) r s → NoneOr first q s
then_stored first q r s is stored = record {
  cell = stored.cell ∙ is.cell;
  net = elim stored.net [ inl same ↦ inl (same ∙ is.net) | inr new ↦ inr new ];
}

pub none_steps : (first : NetData) (old new : Stops Areas) → Steps HasNone old new → Steps (NoneOr first) old new
none_steps first old new steps = weaken HasNone (NoneOr first) old new steps (λ r s left is. none_yet first r s is)

pub stored_steps : (first : NetData) (old mid new : Stops Areas) → Steps HasNone old mid → Steps (MaybeStored (Some first)) mid new → Steps (NoneOr first) old new
stored_steps first old mid new one two =
    follow HasNone (MaybeStored (Some first)) (NoneOr first) old mid new one two (λ r s left is. none_yet first r s is) (λ q r s begin left is stored. then_stored first q r s is stored)

pub filling : (first : NetData) (old mid : DiskView) (new : Stops Areas) → HasArea 0 old.areas.kernel old → kernel_net old.areas.kernel ≡ None → HasArea 1 old.areas.cell old
    → Steps MaybeClosed old.stops mid.stops → HasArea 1 mid.areas.cell mid → IsShut old.areas.cell mid.areas.cell
    → Steps (NoneOr first) mid.stops new → Steps (AreasMade first) old.stops new
filling first old mid new kernel none sure one sure_mid shut two =
    follow MaybeClosed (NoneOr first) (AreasMade first) old.stops mid.stops new one two (λ r s left closed. closed_made first r s (ap kernel_net (kernel r left) ∙ none) closed)
    (λ q r s begin left closed stored. shut_made first old.areas.cell mid.areas.cell q r s shut (sure q begin) (sure_mid r left) stored)

pub establishing : (first : NetData) (old mid1 mid2 : Stops Areas) (new : Stops Areas) → Steps Stays old mid1 → Steps Stays mid1 mid2 → Steps (AreasMade first) mid2 new → Steps (AreasMade first) old new
establishing first old mid1 mid2 new one two three =
    follow Stays (AreasMade first) (AreasMade first) old mid2 new
    (follow Stays Stays Stays old mid1 mid2 one two (λ r s left same. same) (λ q r s begin left a b. b ∙ a)) three
    (λ r s left same. inl (ap state_of same))
    (λ q r s begin left same made. subst (λ (p : Areas). AreasMade first p s) same made)

-- what stayed as it was may have been made
pub staying : (first : NetData) (old mid new : Stops Areas) → Steps Stays old mid → Steps Stays mid new → Steps (AreasMade first) old new
staying first old mid new one two = follow Stays Stays (AreasMade first) old mid new one two (λ r s left same. inl (ap state_of same)) (λ q r s begin left a b. inl (ap state_of (b ∙ a)))

pub not_is : (b s : Bool) → not b ≡ true → b ≡ s → s ≡ false
not_is true s is same = let e : false ≡ true = is in absurd (cc)
not_is false s is same = sym same

-- while nothing changes there is still no network
pub none_still : (old : DiskView) → HasArea 0 old.areas.kernel old → kernel_net old.areas.kernel ≡ None → (r s : Areas) → old.stops.may_leave r → s ≡ r → HasNone r s
none_still old sure none r s left same = record {
  cell = ap (λ (a : Areas). a.cell) same;
  net = ap (λ (a : Areas). kernel_net a.kernel) same ∙ ap kernel_net (sure r left) ∙ none;
}

-- what was folded stands at the beginning of the slot that is selected then
pub made_slot : (image old new : List ℕ) → length image ≤ 864508 → IsFolded image old new → IsMadeSlot image new
made_slot image old new small f =
    let to = not (selects old) in
    let slot = new_slot image in
    let rest = drop (length slot) (drop (slot_at to) f.between) in
    let fits : length slot ≤ 1048576 = omega (arith, slot_size image, small) in
    let whole : drop (slot_at to) f.between ≡ slot ++ rest = sym (take-append-drop (length slot) (drop (slot_at to) f.between)) ∙ ap (λ (l : List ℕ). l ++ rest) f.slot_written.stands in
    let cut : slot_of to f.between ≡ slot ++ take (1048576 - length slot) rest = ap (take 1048576) whole ∙ take_past 1048576 slot rest fits in
    let chosen : selects new ≡ to = selects_written to f.between new f.then_selected in
    let kept : slot_of to new ≡ slot_of to f.between = slots_kept f.between new f.then_selected.torn to in
    (take (1048576 - length slot) rest, ap (λ (b : Bool). slot_of b new) chosen ∙ kept ∙ cut)
  where
    take_past : (n : ℕ) (p q : List ℕ) → length p ≤ n → take n (p ++ q) ≡ p ++ take (n - length p) q
    take_past n p q le = let e : n ≡ length p + (n - length p) = omega arith in ap (λ (k : ℕ). take k (p ++ q)) e ∙ take-append-add p q (n - length p)

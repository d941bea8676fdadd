-- What a stop inside a store or an append leaves.
use Rattle.std.proofs.Common.{◌≡◌, ◌⊎◌, inl, inr, ⊎_elim, ℕ, ◌+◌, ◌-◌, ◌^◌, ◌≤◌, List, [], ◌∷◌, ◌++◌, length, take, drop, sym, ap, ◌∙◌, subst, refl, arith, length-append, Bool, true, false, eqb, Option, Some, Ok}
use Rattle.std.specs.Prelude.{not}
use Rattle.byteorder.specs.Endian.{big_bytes}
use Rattle.byteorder.specs.Numbers.{length-bytes_high_first}
use Rattle.net_model.specs.NetData.{NetData}
use Rattle.net_model.specs.declared.call.Call.{Call}
use Rattle.kernel_model.specs.Kernel.{step}
use Rattle.net_image.specs.Image.{net_of}
use Rattle.host_core.specs.Bytes.{Torn, Written}
use Rattle.host_core.specs.DiskView.{Areas, DiskView, AreaTorn, HasArea}
use Rattle.host_core.specs.Stops.{Stops, Steps}
use Rattle.host_core.proofs.lemmas.Moments.{weaken, follow}
use Rattle.call_journal.specs.Records.{sized_call, open_record, is_open}
use Rattle.call_journal.specs.Weight.{weight_of}
use Rattle.call_journal.specs.Area.{Held, held, is_first, slot_at, slot_of, selects, selector, slot_held, kernel_held, net_held, kernel_net, new_slot}
use Rattle.disk_host.specs.Slots.{MaybeStored, IsApart}
use Rattle.disk_host.proofs.Slots.{other_kept, slots_kept, one_of_both, selects_written}
use Rattle.disk_host.proofs.Gates.{behind_gate, behind_kept, still_selected, shut, opened}

-- what is held is what was held before, or what was stored
either_net : (now one other before : Option Held) (version : Bool) (net : NetData) (gate : Option ℕ) (spare : ℕ) → (now ≡ one) ⊎ (now ≡ other) → one ≡ before → other ≡ Some (held version net gate spare)
    → (net_held now ≡ net_held before) ⊎ (net_held now ≡ Some net)
either_net now one other before version net gate spare (inl old) kept stored = inl (ap net_held (old ∙ kept))
either_net now one other before version net gate spare (inr new) kept stored = inr (ap net_held (new ∙ stored))

-- ---- a slot

pub slot_size : (image : List ℕ) → length (new_slot image) ≡ length image + 5
unfolding new_slot
slot_size image = let four : length (big_bytes 4 (2 ^ 31 + length image)) ≡ 4 = length-bytes_high_first 4 (2 ^ 31 + length image) in omega (arith, four, length-append (big_bytes 4 (2 ^ 31 + length image) ++ image) (0 ∷ []), length-append (big_bytes 4 (2 ^ 31 + length image)) image)

module _ (to : Bool) (net : NetData) (image slot : List ℕ) (small : length image ≤ 864508) (latest : is_first image ≡ false) (of_net : net_of image ≡ Some net) (is : slot ≡ new_slot image) where
  pub fits : length slot ≤ 1048576
  fits = omega (arith, ap length is, slot_size image, small)

  pub first_step : (r s : Areas) → selects r.kernel ≡ not to → IsApart to r.kernel → AreaTorn 0 (slot_at to) (length slot) r s → MaybeStored (Some net) r s
  first_step r s chosen some step =
      let kept = other_kept to (length slot) r.kernel s.kernel fits chosen some step.torn in
      record { cell = step.same; net = inl (ap (λ (b : Bool). net_held (slot_held (slot_of b s.kernel))) kept.0 ∙ ap net_held kept.1) }

  pub second_step : (q r s : Areas) → selects q.kernel ≡ not to → IsApart to q.kernel → AreaTorn 0 (slot_at to) (length slot) q r
      → slot_held (slot_of to r.kernel) ≡ Some (held false net (Some (4 + length image)) 131072) → AreaTorn 0 0 1 r s → MaybeStored (Some net) q s
  second_step q r s chosen some one stored two =
      let kept = other_kept to (length slot) q.kernel r.kernel fits chosen some one.torn in
      record {
        cell = two.same ∙ one.same;
        net = either_net (kernel_held s.kernel) (slot_held (slot_of (not to) r.kernel)) (slot_held (slot_of to r.kernel)) (kernel_held q.kernel) false net (Some (4 + length image)) 131072 (one_of_both to r.kernel s.kernel two.torn) kept.1 stored;
      }

  module _ (old : DiskView) (sure : HasArea 0 old.areas.kernel old) (chosen : selects old.areas.kernel ≡ not to) (some : IsApart to old.areas.kernel) where
    chosen_of : (r : Areas) → old.stops.may_leave r → selects r.kernel ≡ not to
    chosen_of r left = ap selects (sure r left) ∙ chosen

    some_of : (r : Areas) → old.stops.may_leave r → IsApart to r.kernel
    some_of r left = subst (λ (l : List ℕ). IsApart to l) (sym (sure r left)) some

    pub store_first : (new : Stops Areas) → Steps (AreaTorn 0 (slot_at to) (length slot)) old.stops new → Steps (MaybeStored (Some net)) old.stops new
    store_first new steps = weaken (AreaTorn 0 (slot_at to) (length slot)) (MaybeStored (Some net)) old.stops new steps
        (λ r s left step. first_step r s (chosen_of r left) (some_of r left) step)

    pub store_both : (mid : DiskView) (new : Stops Areas) → Steps (AreaTorn 0 (slot_at to) (length slot)) old.stops mid.stops
        → HasArea 0 mid.areas.kernel mid → slot_held (slot_of to mid.areas.kernel) ≡ Some (held false net (Some (4 + length image)) 131072)
        → Steps (AreaTorn 0 0 1) mid.stops new → Steps (MaybeStored (Some net)) old.stops new
    store_both mid new first sure_mid stored second =
        follow (AreaTorn 0 (slot_at to) (length slot)) (AreaTorn 0 0 1) (MaybeStored (Some net)) old.stops mid.stops new first second
        (λ r s left step. first_step r s (chosen_of r left) (some_of r left) step)
        (λ q r s was left one two. second_step q r s (chosen_of q was) (some_of q was) one (ap (λ (l : List ℕ). slot_held (slot_of to l)) (sure_mid r left) ∙ stored) two)

  pub store_done : (mid new : List ℕ) → slot_held (slot_of to mid) ≡ Some (held false net (Some (4 + length image)) 131072) → Written 0 (selector to ∷ []) mid new → kernel_held new ≡ Some (held false net (Some (4 + length image)) 131072)
  store_done mid new stored written =
      ap (λ (b : Bool). slot_held (slot_of b new)) (selects_written to mid new written) ∙ ap slot_held (slots_kept mid new written.torn to) ∙ stored

-- ---- a record

-- what is known where a record is appended
pub record IsAppended (b version : Bool) (net next : NetData) (gate : ℕ) (call : Call) : Type 0 where
  pub stepped : step call net ≡ Ok next
  pub fits : sized_call.fits call ≡ true
  pub room : gate + length (open_record.write call) + 1 ≤ 1048576

-- the slot that is selected, and what it holds
pub record IsAt (b version : Bool) (net : NetData) (gate spare : ℕ) (area : List ℕ) : Type 0 where
  pub chosen : selects area ≡ b
  pub holds : kernel_held area ≡ Some (held version net (Some gate) spare)

either_gate : (t : Bool) → (t ≡ true) ⊎ (t ≡ false)
either_gate true = inl refl
either_gate false = inr refl

module _ (b version : Bool) (net next : NetData) (gate spare : ℕ) (call : Call) (is : IsAppended b version net next gate call) where
  abbrev place : ℕ
  place = slot_at b + gate

  pub behind_step : (r s : Areas) → IsAt b version net gate spare r.kernel → AreaTorn 0 (place + 1) (length (behind_gate call)) r s → IsAt b version net gate spare s.kernel
  behind_step r s at step = let kept = behind_kept b r.kernel version net gate spare at.chosen at.holds (length (behind_gate call)) s.kernel step.torn in record { chosen = kept.0; holds = kept.1 }

  pub first_append : (r s : Areas) → IsAt b version net gate spare r.kernel → AreaTorn 0 (place + 1) (length (behind_gate call)) r s → MaybeStored (Some next) r s
  first_append r s at step = record { cell = step.same; net = inl (ap net_held (behind_step r s at step).holds ∙ sym (ap net_held at.holds)) }

  pub gate_step : (r s : Areas) → IsAt b version net gate spare r.kernel → take (length (behind_gate call)) (drop (place + 1) r.kernel) ≡ behind_gate call → Torn place 1 r.kernel s.kernel
      → (kernel_net s.kernel ≡ Some net) ⊎ (kernel_net s.kernel ≡ Some next)
  gate_step r s at stands torn = elim (either_gate (is_open (drop place s.kernel))) [
    | inl opens ↦ inr (ap net_held (opened b r.kernel version net gate spare at.chosen at.holds s.kernel torn next call is.stepped is.fits is.room stands opens))
    | inr closed ↦ inl (ap net_held (shut b r.kernel version net gate spare at.chosen at.holds s.kernel torn closed))
  ]

  pub second_append : (q r s : Areas) → IsAt b version net gate spare q.kernel → AreaTorn 0 (place + 1) (length (behind_gate call)) q r
      → take (length (behind_gate call)) (drop (place + 1) r.kernel) ≡ behind_gate call → AreaTorn 0 place 1 r s → MaybeStored (Some next) q s
  second_append q r s at one stands two = record {
    cell = two.same ∙ one.same;
    net = ⊎_elim (λ old. inl (old ∙ sym (ap net_held at.holds))) (λ new. inr new) (gate_step r s (behind_step q r at one) stands two.torn);
  }

  module _ (old : DiskView) (sure : HasArea 0 old.areas.kernel old) (at : IsAt b version net gate spare old.areas.kernel) where
    at_of : (r : Areas) → old.stops.may_leave r → IsAt b version net gate spare r.kernel
    at_of r left = subst (λ (l : List ℕ). IsAt b version net gate spare l) (sym (sure r left)) at

    pub append_first : (new : Stops Areas) → Steps (AreaTorn 0 (place + 1) (length (behind_gate call))) old.stops new → Steps (MaybeStored (Some next)) old.stops new
    append_first new steps = weaken (AreaTorn 0 (place + 1) (length (behind_gate call))) (MaybeStored (Some next)) old.stops new steps (λ r s left step. first_append r s (at_of r left) step)

    pub append_both : (mid : DiskView) (new : Stops Areas) → Steps (AreaTorn 0 (place + 1) (length (behind_gate call))) old.stops mid.stops
        → HasArea 0 mid.areas.kernel mid → take (length (behind_gate call)) (drop (place + 1) mid.areas.kernel) ≡ behind_gate call
        → Steps (AreaTorn 0 place 1) mid.stops new → Steps (MaybeStored (Some next)) old.stops new
    append_both mid new first sure_mid stands second =
        follow (AreaTorn 0 (place + 1) (length (behind_gate call))) (AreaTorn 0 place 1) (MaybeStored (Some next)) old.stops mid.stops new first second
        (λ r s left step. first_append r s (at_of r left) step)
        (λ q r s was left one two. second_append q r s (at_of q was) one (ap (λ (l : List ℕ). take (length (behind_gate call)) (drop (place + 1) l)) (sure_mid r left) ∙ stands) two)

  pub append_done : (old mid new : List ℕ) → IsAt b version net gate spare old → Torn (place + 1) (length (behind_gate call)) old mid → take (length (behind_gate call)) (drop (place + 1) mid) ≡ behind_gate call → Written place (1 ∷ []) mid new
      → IsAt b version next (gate + length (open_record.write call)) (spare - weight_of call (length (open_record.write call))) new
  append_done old mid new at torn stands written =
      let kept = behind_kept b old version net gate spare at.chosen at.holds (length (behind_gate call)) mid torn in
      record {
        chosen = still_selected b mid version net gate spare kept.0 kept.1 new written.torn;
        holds = opened b mid version net gate spare kept.0 kept.1 new written.torn next call is.stepped is.fits is.room stands (first_open (drop place new) written.stands);
      }
    where
      first_open : (l : List ℕ) → take 1 l ≡ 1 ∷ [] → is_open l ≡ true
      first_open [] e = absurd cc
      first_open (byte ∷ l) e = let same : byte ∷ [] ≡ 1 ∷ [] = e in let is : byte ≡ 1 = cc in ap (λ (k : ℕ). eqb k 1) is

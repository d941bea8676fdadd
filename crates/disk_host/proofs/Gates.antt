-- What a record that is appended at a closed gate makes of the slot.
use Rattle.std.proofs.Common.{◌≡◌, ℕ, zero, suc, ◌+◌, ◌-◌, ◌<◌, ◌≤◌, List, [], ◌∷◌, ◌++◌, length, take, drop, get_or, refl, sym, ap, ◌∙◌, arith, length-drop, length-append, take-append-drop, Bool, true, false, Some, Ok, eqb}
use Rattle.std.proofs.lemmas.List.{get_or-take, get_or-drop, get_or-append_right, drop-drop, take-take, drop-take, take_at, length-take}
use Rattle.net_model.specs.NetData.{NetData}
use Rattle.net_model.specs.declared.call.Call.{Call}
use Rattle.kernel_model.specs.Kernel.{step}
use Rattle.host_core.specs.Bytes.{Torn, Written}
use Rattle.call_journal.specs.Calls.{call_form}
use Rattle.call_journal.specs.Records.{sized_call, open_record, is_open}
use Rattle.call_journal.specs.Weight.{weight_of}
use Rattle.call_journal.specs.Area.{held, slot_at, slot_of, selects, slot_held, kernel_held}
use Rattle.call_journal.proofs.lemmas.Record.{Begins, sized_written, sized_length, record_length}
use Rattle.call_journal.proofs.lemmas.Slots.{HasGate, gate_still, gate_kept, has_gate, record_added}
use Rattle.disk_host.proofs.Slots.{before_kept, selects_kept, slot_front, slot_length, within_area, slot_behind}

closed_byte : (k : ℕ) → ◌≡◌ {A = ℕ} (get_or (0 ∷ []) k 0) 0
closed_byte zero = refl
closed_byte (suc k) = refl

-- what is behind the gate, and the closed gate that follows
abbrev pub behind_gate : Call → List ℕ
behind_gate call = sized_call.write call ++ 0 ∷ []

module _ (b : Bool) (old : List ℕ) (version : Bool) (net : NetData) (gate spare : ℕ) (chosen : selects old ≡ b) (is : kernel_held old ≡ Some (held version net (Some gate) spare)) where
  pub slot_is : slot_held (slot_of b old) ≡ Some (held version net (Some gate) spare)
  slot_is = sym (ap (λ (c : Bool). slot_held (slot_of c old)) chosen) ∙ is

  pub gate_is : HasGate (slot_of b old) gate
  gate_is = has_gate (slot_of b old) version net gate spare slot_is

  pub gate_within : (gate < 1048576) × (slot_at b + gate < length old)
  gate_within = within_area b old gate gate_is.inside

  begins_at : (c : Bool) → 1 ≤ slot_at c
  begins_at true = omega arith
  begins_at false = omega arith

  -- a write behind the gate, however it is torn, leaves what the slot holds
  pub behind_kept : (n : ℕ) (new : List ℕ) → Torn (slot_at b + gate + 1) n old new → (selects new ≡ b) × (kernel_held new ≡ Some (held version net (Some gate) spare))
  behind_kept n new torn =
      let same : take (slot_at b + gate + 1) new ≡ take (slot_at b + gate + 1) old = before_kept (slot_at b + gate + 1) n (slot_at b + gate + 1) old new torn (omega arith) (omega (arith, gate_within.1)) in
      let regrouped : slot_at b + gate + 1 ≡ slot_at b + (gate + 1) = omega arith in
      let front : take (gate + 1) (slot_of b new) ≡ take (gate + 1) (slot_of b old) =
      slot_front b (gate + 1) old new (omega (arith, gate_within.0)) (sym (ap (λ (k : ℕ). take k new) regrouped) ∙ same ∙ ap (λ (k : ℕ). take k old) regrouped) in
      let selected : selects new ≡ b = selects_kept old new (before_kept (slot_at b + gate + 1) n 1 old new torn (omega arith) (omega (arith, gate_within.1))) ∙ chosen in
      (selected, ap (λ (c : Bool). slot_held (slot_of c new)) selected ∙ gate_kept (slot_of b old) (slot_of b new) version net gate spare slot_is front)

  module _ (new : List ℕ) (torn : Torn (slot_at b + gate) 1 old new) where
    pub still_selected : selects new ≡ b
    still_selected = selects_kept old new (before_kept (slot_at b + gate) 1 1 old new torn (omega (arith, begins_at b)) (omega (arith, gate_within.1))) ∙ chosen

    front_same : take gate (slot_of b new) ≡ take gate (slot_of b old)
    front_same = slot_front b gate old new (omega (arith, gate_within.0)) (before_kept (slot_at b + gate) 1 (slot_at b + gate) old new torn (omega arith) (omega (arith, gate_within.1)))

    open_in_slot : is_open (drop gate (slot_of b new)) ≡ is_open (drop (slot_at b + gate) new)
    open_in_slot = ap is_open (slot_behind b gate new (omega (arith, gate_within.0))) ∙ ap (λ (k : ℕ). eqb k 1) (get_or-take (1048576 - gate) (drop (slot_at b + gate) new) 0 0 (omega (arith, gate_within.0)))

    -- a gate that is still closed leaves it too
    pub shut : is_open (drop (slot_at b + gate) new) ≡ false → kernel_held new ≡ Some (held version net (Some gate) spare)
    shut closed =
        ap (λ (c : Bool). slot_held (slot_of c new)) still_selected
        ∙ gate_still (slot_of b old) (slot_of b new) version net gate spare slot_is front_same (open_in_slot ∙ closed) (let long = slot_length b new (gate + 1) (omega (arith, gate_within.0)) (omega (arith, gate_within.1, torn.no_shorter)) in omega arith)

    -- and one that is open brings the call
    pub opened : (next : NetData) (call : Call) → step call net ≡ Ok next → sized_call.fits call ≡ true → gate + length (open_record.write call) + 1 ≤ 1048576
        → take (length (behind_gate call)) (drop (slot_at b + gate + 1) old) ≡ behind_gate call → is_open (drop (slot_at b + gate) new) ≡ true
        → kernel_held new ≡ Some (held version next (Some (gate + length (open_record.write call))) (spare - weight_of call (length (open_record.write call))))
    opened next call stepped fits room stands opens =
        let n = length (call_form.write call) in
        let w = sized_call.write call in
        let p = slot_at b + gate in
        let size = sized_length call in
        let whole : length (open_record.write call) ≡ 3 + n = record_length call in
        let tail_size : length (behind_gate call) ≡ 3 + n = omega (arith, length-append w (0 ∷ []), size) in
        let enough : p + 1 + (3 + n) ≤ length old = omega (arith, gate_within.1, tail_size, ap length stands, length-take (length (behind_gate call)) (drop (p + 1) old), length-drop (p + 1) old) in
        let other = slot_of b new in
        let at_gate : drop gate other ≡ take (1048576 - gate) (drop p new) = slot_behind b gate new (omega (arith, gate_within.0)) in
        let one_more : 1048576 - gate ≡ 1 + (1048576 - gate - 1) = omega (arith, gate_within.0) in
        let behind : drop 1 (drop gate other) ≡ take (1048576 - gate - 1) (drop (p + 1) old) =
        ap (drop 1) at_gate ∙ ap (λ (k : ℕ). drop 1 (take k (drop p new))) one_more ∙ drop-take 1 (1048576 - gate - 1) (drop p new)
        ∙ ap (take (1048576 - gate - 1)) (drop-drop 1 p new ∙ torn.after) in
        let front : take (length w) (drop 1 (drop gate other)) ≡ w =
        ap (take (length w)) behind ∙ take-take (length w) (1048576 - gate - 1) (drop (p + 1) old) (omega (arith, size, whole, room))
        ∙ sym (take-take (length w) (length (behind_gate call)) (drop (p + 1) old) (omega (arith, size, tail_size))) ∙ ap (take (length w)) stands ∙ take_at w (0 ∷ []) (length w) refl in
        let begins : Begins (drop gate other) n call = record { opens = open_in_slot ∙ opens; sized = sized_written (drop 1 (drop gate other)) call fits front } in
        let last_is : get_or (drop (p + 1) old) (2 + n) 0 ≡ 0 =
        sym (get_or-take (length (behind_gate call)) (drop (p + 1) old) (2 + n) 0 (omega (arith, tail_size))) ∙ ap (λ (l : List ℕ). get_or l (2 + n) 0) stands
        ∙ get_or-append_right w (0 ∷ []) (2 + n) (2 + n) 0 size (omega arith) ∙ closed_byte ((2 + n) - (2 + n)) in
        let next_gate : is_open (drop (gate + (3 + n)) other) ≡ false =
        ap (λ (k : ℕ). eqb k 1) (get_or-drop (gate + (3 + n)) other 0 0 ∙ (let e : gate + (3 + n) + 0 ≡ gate + (1 + (2 + n)) = omega arith in ap (λ (k : ℕ). get_or other k 0) e) ∙ sym (get_or-drop gate other (1 + (2 + n)) 0)
        ∙ sym (get_or-drop 1 (drop gate other) (2 + n) 0) ∙ ap (λ (l : List ℕ). get_or l (2 + n) 0) behind ∙ get_or-take (1048576 - gate - 1) (drop (p + 1) old) (2 + n) 0 (omega (arith, room, whole)) ∙ last_is) in
        let long : gate + (3 + n) + 1 ≤ length other = slot_length b new (gate + (3 + n) + 1) (omega (arith, room, whole)) (omega (arith, enough, torn.no_shorter)) in
        ap (λ (c : Bool). slot_held (slot_of c new)) still_selected
        ∙ record_added (slot_of b old) other version net next gate spare n call slot_is front_same begins stepped next_gate (omega (arith, long))
        ∙ ap (λ (k : ℕ). Some (held version next (Some (gate + k)) (spare - weight_of call k))) (sym whole)

-- a byte that is written before what was written is one write with it
pub one_write : (p byte : ℕ) (tail old mid new : List ℕ) → p < length old → Written (p + 1) tail old mid → Written p (byte ∷ []) mid new → Written p (byte ∷ tail) old new
one_write p byte tail old mid new lt first second = record {
  torn = record {
    before = take-take p (length old) new (omega (arith, lt)) ∙ before_kept p 1 p mid new second.torn (omega arith) (omega (arith, lt, first.torn.no_shorter))
        ∙ before_kept (p + 1) (length tail) p old mid first.torn (omega arith) (omega (arith, lt));
    after = further new ∙ ap (drop (length tail)) second.torn.after ∙ drop-drop (length tail) (p + 1) mid ∙ first.torn.after ∙ (let e : (p + 1) + length tail ≡ p + length (byte ∷ tail) = omega arith in ap (λ (k : ℕ). drop k old) e);
    no_shorter = omega (arith, first.torn.no_shorter, second.torn.no_shorter);
    no_longer = omega (arith, first.torn.no_longer, second.torn.no_longer);
  };
  stands = ap (take (length (byte ∷ tail))) whole ∙ ap (λ (l : List ℕ). byte ∷ l) first.stands;
}
  where
    further : (l : List ℕ) → drop (p + length (byte ∷ tail)) l ≡ drop (length tail) (drop (p + 1) l)
    further l = (let e : p + length (byte ∷ tail) ≡ (p + 1) + length tail = omega arith in ap (λ (k : ℕ). drop k l) e) ∙ sym (drop-drop (length tail) (p + 1) l)

    whole : drop p new ≡ byte ∷ drop (p + 1) mid
    whole = sym (take-append-drop 1 (drop p new)) ∙ ap (λ (l : List ℕ). l ++ drop 1 (drop p new)) second.stands ∙ ap (λ (l : List ℕ). byte ∷ l) (drop-drop 1 p new ∙ second.torn.after)

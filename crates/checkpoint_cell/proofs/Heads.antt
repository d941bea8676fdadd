-- What the first eighteen bytes of an area tell.
use Rattle.std.proofs.Common.{◌≡◌, inl, inr, ℕ, zero, suc, ◌+◌, ◌*◌, ◌^◌, ◌<◌, ◌≤◌, List, [], ◌∷◌, ◌++◌, length, take, drop, get_or, ◌-◌, refl, sym, ap, ◌∙◌, arith, Some}
use Rattle.std.proofs.lemmas.Bool.{cases_eq, cases_lt}
use Rattle.std.proofs.lemmas.List.{get_or-take, get_or-drop, get_or_past, get_or_append_left, get_or-append_right, length-take}
use Rattle.byteorder.specs.Endian.{big_from, big_number}
use Rattle.image_slot.specs.Slot.{slot_net}
use Rattle.host_core.specs.Bytes.{Filled}
use Rattle.checkpoint_cell.specs.declared.Phase.{Phase}
use Rattle.checkpoint_cell.specs.declared.Seen.TheVariants.{Empty, Set}
use Rattle.checkpoint_cell.specs.Cell.{cell_of, seen_of, behind_phase, checkpoint_of, phase_of}
use Rattle.checkpoint_cell.proofs.lemmas.Cells.{gate_open, gate_shut}

-- what an open gate shows
pub shown : (bytes : List ℕ) → get_or bytes 0 0 ≡ 1
    → seen_of (cell_of bytes) ≡ Set (phase_of (get_or bytes 1 0)) (big_number 8 (drop 2 bytes)) (big_number 8 (drop 10 bytes))
unfolding behind_phase
shown [] opens = ap seen_of (gate_open [] opens)
shown (a ∷ []) opens = ap seen_of (gate_open (a ∷ []) opens)
shown (a ∷ b ∷ bytes) opens = ap seen_of (gate_open (a ∷ b ∷ bytes) opens)

pub hidden : (bytes : List ℕ) → (get_or bytes 0 0 ≡ 1 → ⊥) → seen_of (cell_of bytes) ≡ Empty
hidden bytes shut = ap seen_of (gate_shut bytes shut)

Agree : ℕ → List ℕ → List ℕ → Type 0
Agree n xs ys = (i : ℕ) → i < n → get_or xs i 0 ≡ get_or ys i 0

-- the same bytes are the same number
pub same_number : (n j : ℕ) (xs ys : List ℕ) → ((i : ℕ) → i < j + n → get_or xs i 0 ≡ get_or ys i 0) → big_from j n xs ≡ big_from j n ys
same_number zero j xs ys same = refl
same_number (suc n) j xs ys same =
    let here : get_or xs j 0 ≡ get_or ys j 0 = same j (omega arith) in
    let rest : big_from (suc j) n xs ≡ big_from (suc j) n ys = same_number n (suc j) xs ys (λ i lt. same i (omega arith)) in
    λ k. here k * 256 ^ n + rest k

behind_same : (m : ℕ) (xs ys : List ℕ) → m + 8 ≤ 18 → ((i : ℕ) → i < 18 → get_or xs i 0 ≡ get_or ys i 0) → big_number 8 (drop m xs) ≡ big_number 8 (drop m ys)
behind_same m xs ys fits same =
    same_number 8 0 (drop m xs) (drop m ys) (λ i lt. get_or-drop m xs i 0 ∙ same (m + i) (omega arith) ∙ sym (get_or-drop m ys i 0))

-- areas with the same first 18 bytes show the same
pub seen_alike : (xs ys : List ℕ) → ((i : ℕ) → i < 18 → get_or xs i 0 ≡ get_or ys i 0) → seen_of (cell_of xs) ≡ seen_of (cell_of ys)
seen_alike xs ys same = elim (cases_eq (get_or xs 0 0) 1) [
  | inl opens ↦
      let first = behind_same 2 xs ys (omega arith) same in
      let second = behind_same 10 xs ys (omega arith) same in
      let phase = same 1 (omega arith) in
      shown xs opens ∙ (λ k. Set (phase_of (phase k)) (first k) (second k)) ∙ sym (shown ys (sym (same 0 (omega arith)) ∙ opens))
  | inr shut ↦ hidden xs shut ∙ sym (hidden ys (λ opens. shut (same 0 (omega arith) ∙ opens)))
]

-- a buffer of zeros that was filled reads as the area does from there
pub filled_alike : (at size : ℕ) (area old new : List ℕ) (n : ℕ) → length old ≡ size → ((i : ℕ) → i < size → get_or old i 0 ≡ 0) → Filled at area old new n
    → (i : ℕ) → i < size → get_or new i 0 ≡ get_or (drop at area) i 0
filled_alike at size area old new n long zeros filled i lt =
    let front : List ℕ = take (length old) (drop at area) in
    let is : new ≡ front ++ drop n old = filled.bytes in
    let long_front : length front ≡ n = length-take (length old) (drop at area) ∙ sym filled.many in
    elim (cases_lt i (length front)) [
      | inl inside ↦ ap (λ (l : List ℕ). get_or l i 0) is ∙ get_or_append_left front (drop n old) 0 i inside ∙ get_or-take (length old) (drop at area) i 0 (omega arith)
      | inr past ↦
          let short : length (drop at area) ≤ i = omega (arith, filled.many) in
          ap (λ (l : List ℕ). get_or l i 0) is
          ∙ get_or-append_right front (drop n old) n i 0 long_front (omega arith)
          ∙ get_or-drop n old (i - n) 0 ∙ zeros (n + (i - n)) (omega arith) ∙ sym (get_or_past (drop at area) i 0 short)
    ]

pub net_behind : (bytes : List ℕ) → (checkpoint_of (drop 1 bytes)).net ≡ slot_net (drop 18 bytes)
unfolding behind_phase
net_behind [] = refl
net_behind (a ∷ []) = refl
net_behind (a ∷ b ∷ bytes) = refl

-- what is seen of an open gate, with the network behind it
pub known : (bytes : List ℕ) (phase : Phase) (made deadline : ℕ) → Set phase made deadline ≡ seen_of (cell_of bytes)
    → cell_of bytes ≡ Some (record { phase = phase; made = made; deadline = deadline; net = slot_net (drop 18 bytes) })
known bytes phase made deadline seen = elim (cases_eq (get_or bytes 0 0) 1) [
  | inl opens ↦
      let is = gate_open bytes opens in
      let e : Set phase made deadline ≡ Set (checkpoint_of (drop 1 bytes)).phase (checkpoint_of (drop 1 bytes)).made (checkpoint_of (drop 1 bytes)).deadline = seen ∙ ap seen_of is in
      let same_phase : phase ≡ (checkpoint_of (drop 1 bytes)).phase = cc in
      let same_made : made ≡ (checkpoint_of (drop 1 bytes)).made = cc in
      let same_deadline : deadline ≡ (checkpoint_of (drop 1 bytes)).deadline = cc in
      let same_net : slot_net (drop 18 bytes) ≡ (checkpoint_of (drop 1 bytes)).net = sym (net_behind bytes) in
      is ∙ (λ i. Some (record { phase = sym same_phase i; made = sym same_made i; deadline = sym same_deadline i; net = sym same_net i }))
  | inr shut ↦ let e : Set phase made deadline ≡ Empty = seen ∙ hidden bytes shut in absurd (cc)
]

-- What reads tell of an area, and of a network behind its length.
use Rattle.std.proofs.Common.{◌≡◌, ◌⊎◌, inl, inr, ℕ, zero, suc, ◌+◌, ◌*◌, ◌^◌, ◌-◌, ◌<◌, ◌≤◌, List, [], ◌∷◌, ◌++◌, length, take, drop, get_or, refl, sym, ap, ◌∙◌, arith, length-drop, Option, Some, None}
use Rattle.std.proofs.lemmas.Bool.{cases_lt}
use Rattle.std.proofs.lemmas.List.{get_or-take, get_or-drop, get_or_past, get_or_append_left, get_or-append_right, get_or-replicate, length-take, drop-drop, drop_all, append-nil}
use Rattle.byteorder.specs.Endian.{big_from, big_number}
use Rattle.net_image.specs.Image.{net_of}
use Rattle.image_slot.specs.Slot.{slot_net}
use Rattle.image_slot.proofs.lemmas.Slots.{chosen, refused}
use Rattle.host_core.specs.Bytes.{Filled}

pub same_number : (n j : ℕ) (xs ys : List ℕ) → ((i : ℕ) → i < j + n → get_or xs i 0 ≡ get_or ys i 0) → big_from j n xs ≡ big_from j n ys
same_number zero j xs ys same = refl
same_number (suc n) j xs ys same =
    let here : get_or xs j 0 ≡ get_or ys j 0 = same j (omega arith) in
    let rest : big_from (suc j) n xs ≡ big_from (suc j) n ys = same_number n (suc j) xs ys (λ i lt. same i (omega arith)) in
    λ k. here k * 256 ^ n + rest k

-- a buffer of zeros that was filled reads as the area does from there
pub filled_alike : (at size : ℕ) (area old new : List ℕ) (n : ℕ) → length old ≡ size → ((i : ℕ) → i < size → get_or old i 0 ≡ 0) → Filled at area old new n
    → (i : ℕ) → i < size → get_or new i 0 ≡ get_or (drop at area) i 0
filled_alike at size area old new n long zeros filled i lt =
    let front : List ℕ = take (length old) (drop at area) in
    let is : new ≡ front ++ drop n old = filled.bytes in
    let long_front : length front ≡ n = length-take (length old) (drop at area) ∙ sym filled.many in
    elim (cases_lt i (length front)) [
      | inl inside ↦ ap (λ (l : List ℕ). get_or l i 0) is ∙ get_or_append_left front (drop n old) 0 i inside ∙ get_or-take (length old) (drop at area) i 0 (omega arith)
      | inr past ↦
          let short : length (drop at area) ≤ i = omega (arith, filled.many) in
          ap (λ (l : List ℕ). get_or l i 0) is
          ∙ get_or-append_right front (drop n old) n i 0 long_front (omega arith)
          ∙ get_or-drop n old (i - n) 0 ∙ zeros (n + (i - n)) (omega arith) ∙ sym (get_or_past (drop at area) i 0 short)
    ]

module _ (at : ℕ) (cell head : List ℕ) (many : ℕ) (filled : Filled at cell (0 ∷ 0 ∷ 0 ∷ 0 ∷ []) head many) where
  pub number : big_from 0 4 (drop at cell) ≡ big_number 4 head
  number = sym (same_number 4 0 head (drop at cell) (λ i lt. filled_alike at 4 cell (0 ∷ 0 ∷ 0 ∷ 0 ∷ []) head many refl (λ i lt. get_or-replicate 4 i 0 0 lt) filled i (omega arith)))

  pub too_short : many < 4 → slot_net (drop at cell) ≡ None
  too_short short = refused (drop at cell) (big_number 4 head) number (λ small fits. omega (arith, filled.many))

  pub too_long : 1048572 < big_number 4 head → slot_net (drop at cell) ≡ None
  too_long long = refused (drop at cell) (big_number 4 head) number (λ small fits. omega arith)

  module _ (buf image : List ℕ) (got : ℕ) (long : length buf ≡ big_number 4 head) (then : Filled (at + 4) cell buf image got) where
    pub cut_short : got < big_number 4 head → slot_net (drop at cell) ≡ None
    cut_short short = refused (drop at cell) (big_number 4 head) number (λ small fits. omega (arith, then.many, long, length-drop (at + 4) cell, length-drop at cell))

    pub read_whole : big_number 4 head ≤ got → 4 ≤ many → big_number 4 head ≤ 1048572 → slot_net (drop at cell) ≡ net_of image
    read_whole enough some small =
        let behind : drop 4 (drop at cell) ≡ drop (at + 4) cell = drop-drop 4 at cell in
        let none : drop got buf ≡ [] = drop_all got buf (omega (arith, long)) in
        let whole : image ≡ take (big_number 4 head) (drop (at + 4) cell) =
        then.bytes ∙ ap (λ (l : List ℕ). take (length buf) (drop (at + 4) cell) ++ l) none ∙ append-nil (take (length buf) (drop (at + 4) cell)) ∙ ap (λ (k : ℕ). take k (drop (at + 4) cell)) long in
        chosen (drop at cell) (big_number 4 head) number small (omega (arith, then.many, filled.many, long, length-drop (at + 4) cell, length-drop at cell))
        ∙ ap (λ (l : List ℕ). net_of (take (big_number 4 head) l)) behind ∙ ap net_of (sym whole)

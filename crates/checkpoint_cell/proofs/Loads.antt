-- What two reads of a length and of what is behind it tell of the network there.
use Rattle.std.proofs.Common.{◌≡◌, ◌<◌, ◌≤◌, ℕ, List, [], ◌∷◌, ◌++◌, length, take, drop, refl, sym, ap, ◌∙◌, arith, length-drop, None}
use Rattle.std.proofs.lemmas.List.{get_or-replicate, drop-drop, drop_all, append-nil}
use Rattle.byteorder.specs.Endian.{big_from, big_number}
use Rattle.net_image.specs.Image.{net_of}
use Rattle.image_slot.specs.Slot.{slot_net}
use Rattle.image_slot.proofs.lemmas.Slots.{chosen, refused}
use Rattle.host_core.specs.Bytes.{Filled}
use Rattle.checkpoint_cell.proofs.Heads.{same_number, filled_alike}

module _ (cell head : List ℕ) (many : ℕ) (filled : Filled 18 cell (0 ∷ 0 ∷ 0 ∷ 0 ∷ []) head many) where
  pub number : big_from 0 4 (drop 18 cell) ≡ big_number 4 head
  number = sym (same_number 4 0 head (drop 18 cell) (λ i lt. filled_alike 18 4 cell (0 ∷ 0 ∷ 0 ∷ 0 ∷ []) head many refl (λ i lt. get_or-replicate 4 i 0 0 lt) filled i (omega arith)))

  pub too_short : many < 4 → slot_net (drop 18 cell) ≡ None
  too_short short = refused (drop 18 cell) (big_number 4 head) number (λ small fits. omega (arith, filled.many))

  pub too_long : 1048572 < big_number 4 head → slot_net (drop 18 cell) ≡ None
  too_long long = refused (drop 18 cell) (big_number 4 head) number (λ small fits. omega arith)

  module _ (buf image : List ℕ) (got : ℕ) (long : length buf ≡ big_number 4 head) (then : Filled 22 cell buf image got) where
    pub cut_short : got < big_number 4 head → slot_net (drop 18 cell) ≡ None
    cut_short short = refused (drop 18 cell) (big_number 4 head) number (λ small fits. omega (arith, then.many, long, length-drop 22 cell, length-drop 18 cell))

    pub read_whole : big_number 4 head ≤ got → 4 ≤ many → big_number 4 head ≤ 1048572 → slot_net (drop 18 cell) ≡ net_of image
    read_whole enough some small =
        let behind : drop 4 (drop 18 cell) ≡ drop 22 cell = drop-drop 4 18 cell in
        let none : drop got buf ≡ [] = drop_all got buf (omega (arith, long)) in
        let whole : image ≡ take (big_number 4 head) (drop 22 cell) =
        then.bytes ∙ ap (λ (l : List ℕ). take (length buf) (drop 22 cell) ++ l) none ∙ append-nil (take (length buf) (drop 22 cell)) ∙ ap (λ (k : ℕ). take k (drop 22 cell)) long in
        chosen (drop 18 cell) (big_number 4 head) number small (omega (arith, then.many, filled.many, long, length-drop 22 cell, length-drop 18 cell))
        ∙ ap (λ (l : List ℕ). net_of (take (big_number 4 head) l)) behind ∙ ap net_of (sym whole)

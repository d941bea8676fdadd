-- A record that was written reads as it was meant.
use Rattle.std.proofs.Common.{◌≡◌, ℕ, ◌+◌, ◌<◌, ◌≤◌, ◌^◌, List, ◌∷◌, ◌++◌, length, drop, refl, sym, ap, ◌∙◌, append_assoc, length-append, Option, Some}
use Rattle.std.proofs.Math.Nat.{mod-eq_of_lt}
use Rattle.std.proofs.lemmas.List.{drop_at}
use Rattle.byteorder.specs.Endian.{big_number, big_bytes}
use Rattle.byteorder.specs.Numbers.{big_from-bytes, length-bytes_high_first}
use Rattle.net_model.specs.NetData.{NetData}
use Rattle.net_image.specs.Image.{IsImage}
use Rattle.net_image.specs.Laws.{ImageLaws}
use Rattle.image_slot.specs.Slot.{slot_net}
use Rattle.image_slot.proofs.lemmas.Slots.{slot_net-image}
use Rattle.checkpoint_cell.specs.declared.Phase.{Phase}
use Rattle.checkpoint_cell.specs.declared.Phase.TheVariants.{Applying}
use Rattle.checkpoint_cell.specs.Cell.{checkpoint_of, behind_phase, applying, in_phase}

pub behind_is : (phase : Phase) (bytes : List ℕ) (made deadline : ℕ) (net : Option NetData)
    → big_number 8 bytes ≡ made → big_number 8 (drop 8 bytes) ≡ deadline → slot_net (drop 16 bytes) ≡ net
    → behind_phase phase bytes ≡ record { phase = phase; made = made; deadline = deadline; net = net }
unfolding behind_phase
behind_is phase bytes made deadline net is_made is_deadline is_net = λ i. record { phase = phase; made = is_made i; deadline = is_deadline i; net = is_net i }

-- another phase before the same bytes
pub behind_other : (phase other : Phase) (bytes : List ℕ) → behind_phase phase bytes ≡ in_phase phase (behind_phase other bytes)
unfolding behind_phase
behind_other phase other bytes = refl

module _ (made deadline : ℕ) (net : NetData) (image rest : List ℕ) where
  abbrev behind : List ℕ
  behind = big_bytes 8 made ++ (big_bytes 8 deadline ++ (big_bytes 4 (length image) ++ (image ++ rest)))

  pub written_record : ImageLaws → made < 2 ^ 64 → deadline < 2 ^ 64 → length image ≤ 1048572 → IsImage image net
      → checkpoint_of (1 ∷ behind) ≡ applying made deadline net
  written_record laws made_fits deadline_fits small is =
      let first : big_number 8 behind ≡ made = big_from-bytes 8 made (big_bytes 8 deadline ++ (big_bytes 4 (length image) ++ (image ++ rest))) ∙ mod-eq_of_lt made_fits in
      let to_second : drop 8 behind ≡ big_bytes 8 deadline ++ (big_bytes 4 (length image) ++ (image ++ rest)) = drop_at (big_bytes 8 made) (big_bytes 8 deadline ++ (big_bytes 4 (length image) ++ (image ++ rest))) 8 (length-bytes_high_first 8 made) in
      let second : big_number 8 (drop 8 behind) ≡ deadline = ap (λ (l : List ℕ). big_number 8 l) to_second ∙ big_from-bytes 8 deadline (big_bytes 4 (length image) ++ (image ++ rest)) ∙ mod-eq_of_lt deadline_fits in
      let to_third : drop 16 behind ≡ big_bytes 4 (length image) ++ (image ++ rest) =
      ap (λ (l : List ℕ). drop 16 l) (sym (append_assoc (big_bytes 8 made) (big_bytes 8 deadline) (big_bytes 4 (length image) ++ (image ++ rest))))
      ∙ drop_at (big_bytes 8 made ++ big_bytes 8 deadline) (big_bytes 4 (length image) ++ (image ++ rest)) 16 (length-append (big_bytes 8 made) (big_bytes 8 deadline) ∙ (λ i. length-bytes_high_first 8 made i + length-bytes_high_first 8 deadline i)) in
      let third : slot_net (drop 16 behind) ≡ Some net = ap slot_net to_third ∙ slot_net-image image rest small ∙ laws.read image net is in
      behind_is Applying behind made deadline (Some net) first second third

-- a record that was written reads as the checkpoint, whatever follows it
pub record_reads : ImageLaws → (made deadline : ℕ) (net : NetData) (image rest : List ℕ) → made < 2 ^ 64 → deadline < 2 ^ 64 → length image ≤ 1048572 → IsImage image net
    → checkpoint_of ((1 ∷ (big_bytes 8 made ++ (big_bytes 8 deadline ++ (big_bytes 4 (length image) ++ image)))) ++ rest) ≡ applying made deadline net
record_reads laws made deadline net image rest made_fits deadline_fits small is =
    let A = big_bytes 8 made in
    let B = big_bytes 8 deadline in
    let C = big_bytes 4 (length image) in
    let regroup : (A ++ (B ++ (C ++ image))) ++ rest ≡ A ++ (B ++ (C ++ (image ++ rest))) =
    append_assoc A (B ++ (C ++ image)) rest ∙ ap (λ (l : List ℕ). A ++ l) (append_assoc B (C ++ image) rest ∙ ap (λ (l : List ℕ). B ++ l) (append_assoc C image rest)) in
    ap (λ (l : List ℕ). checkpoint_of (1 ∷ l)) regroup ∙ written_record made deadline net image rest laws made_fits deadline_fits small is

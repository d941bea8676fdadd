-- Where the saved network stands.
use Rattle.std.proofs.Common.{◌≡◌, ◌∙◌, ℕ, List, drop, sym, ap, Some}
use Rattle.std.proofs.lemmas.List.{drop-drop}
use Rattle.image_slot.specs.Slot.{slot_net}
use Rattle.checkpoint_cell.specs.Cell.{Checkpoint, cell_of, checkpoint_of, behind_phase, saved_net}
use Rattle.checkpoint_cell.proofs.lemmas.Cells.{set}

pub behind_net : (bytes : List ℕ) → (checkpoint_of (drop 1 bytes)).net ≡ saved_net bytes
unfolding behind_phase
behind_net bytes = ap slot_net (ap (λ (l : List ℕ). drop 16 l) (drop-drop 1 1 bytes) ∙ drop-drop 16 2 bytes)

pub saved_is : (checkpoint : Checkpoint) (bytes : List ℕ) → cell_of bytes ≡ Some checkpoint → saved_net bytes ≡ checkpoint.net
saved_is checkpoint bytes is = sym (behind_net bytes) ∙ ap (λ (c : Checkpoint). c.net) (set checkpoint bytes is).behind

pub saved_stays : (old new : List ℕ) → drop 1 new ≡ drop 1 old → saved_net new ≡ saved_net old
saved_stays old new same = ap slot_net (sym (drop-drop 17 1 new) ∙ ap (λ (l : List ℕ). drop 17 l) same ∙ drop-drop 17 1 old)

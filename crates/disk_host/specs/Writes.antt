-- What a kernel call writes to the kernel area, and what the making of a first network leaves there.
use Rattle.std.specs.Prelude.{◌≡◌, ◌+◌, ℕ, List, [], ◌∷◌, ◌++◌, length, not, Option, Some, None}
use Rattle.net_model.specs.NetData.{NetData}
use Rattle.net_model.specs.declared.call.Call.{Call}
use Rattle.net_image.specs.Image.{IsImage}
use Rattle.host_core.specs.Bytes.{Written}
use Rattle.host_core.specs.HostView.{Accepts}
use Rattle.call_journal.specs.Records.{open_record}
use Rattle.call_journal.specs.Area.{selects, selector, slot_at, slot_of, kernel_held, kernel_net, new_slot, new_record, room_in}

-- The slot that isn't selected is written, and then the selector. Each write reads back, and leaves every other byte
-- that was there.
pub record IsFolded (image old new : List ℕ) : Type 0 where
  pub between : List ℕ
  pub slot_written : Written (slot_at (not (selects old))) (new_slot image) old between
  pub then_selected : Written 0 (selector (not (selects old)) ∷ []) between new

-- the image of the network after the call is folded
pub record Folds (call : Call) (old new : List ℕ) : Type 0 where
  pub net : NetData
  pub image : List ℕ
  pub accepted : Accepts call (kernel_net old) (Some net)
  pub is_image : IsImage image net
  pub folded : IsFolded image old new

-- where there is room for the record at a closed gate of the selected slot, whose image isn't of version 1 and whose journal
-- may weigh more, it and a closed gate are written there
abbrev pub WritesAt : Option ℕ → Call → List ℕ → List ℕ → Type 0
WritesAt (Some gate) call old new = Written (slot_at (selects old) + gate) (new_record call) old new
WritesAt None call old new = Folds call old new

-- A call appends its record where the selected slot has room for it and its journal may weigh more. Otherwise it folds.
abbrev pub Writes : Call → List ℕ → List ℕ → Type 0
Writes call old new = WritesAt (room_in (kernel_held old) (length (open_record.write call))) call old new

-- a making leaves an image with an empty journal at the beginning of the slot that is selected then
abbrev pub IsMadeSlot : List ℕ → List ℕ → Type 0
IsMadeSlot image new = (rest : List ℕ) × (slot_of (selects new) new ≡ new_slot image ++ rest)

-- the image is this network's
pub record IsMadeOf (net : NetData) (new : List ℕ) : Type 0 where
  pub image : List ℕ
  pub is_image : IsImage image net
  pub made : IsMadeSlot image new

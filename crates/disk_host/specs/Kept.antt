-- What a host keeps of the network on its disk.
use Rattle.std.specs.Prelude.{◌≡◌, ⊤, ℕ, Bool, List, Option, Some, None, option_map, Ok}
use Rattle.net_model.specs.NetData.{NetData}
use Rattle.net_model.specs.declared.call.Call.{Call}
use Rattle.kernel_model.specs.Kernel.{step}
use Rattle.call_journal.specs.Area.{Held, held, selects, kernel_held}
use Rattle.disk_host.specs.declared.kept.Kept.{Kept}

abbrev pub held_by : Kept → Held
held_by kept = held kept.first_image kept.net kept.gate kept.spare

-- the selected slot is this one, and holds an image of this version, this network and this closed gate, if it has one, and
-- its journal may weigh so much more
pub record IsKept (kept : Kept) (area : List ℕ) : Type 0 where
  pub second : selects area ≡ kept.second
  pub held : kernel_held area ≡ Some (held_by kept)

-- what a slot holds, part by part
abbrev pub parts_held : Option Held → Option (Bool × NetData × Option ℕ × ℕ)
parts_held h = option_map (λ (k : Held). (k.first_image, k.net, k.gate, k.spare)) h

-- the same, of one that is kept
abbrev pub IsTold : Kept → List ℕ → Type 0
IsTold kept area = (selects area ≡ kept.second) × (parts_held (kernel_held area) ≡ Some (kept.first_image, kept.net, kept.gate, kept.spare))

-- what is kept is so; nothing may be kept
abbrev pub IsKnown : Option Kept → List ℕ → Type 0
IsKnown (Some kept) area = IsKept kept area
IsKnown None area = ⊤

-- the selected slot and its gate are these, and the network is the one after the call
pub record IsAfter (call : Call) (kept : Kept) (area : List ℕ) : Type 0 where
  pub before : NetData
  pub is_kept : IsKept (record kept { net = before }) area
  pub stepped : step call before ≡ Ok kept.net

-- A check: whether the commands can work with what is stored. It changes nothing.
use Rattle.std.specs.Prelude.{◌≡◌, ◌≢◌, ℕ, List, [], ◌∷◌, length, Option, Some, None, Result, Ok, Err}
use Rattle.net_model.specs.Hardware.{hardware}
use Rattle.net_model.specs.NetData.{NetData}
use Rattle.host_core.specs.Faults.{Rose}
use Rattle.host_core.specs.HostView.{HostView}
use Rattle.checkpoint_cell.specs.Cell.{Checkpoint, cell_of, seen_of}
use Rattle.checkpoint_cell.specs.Settled.{Standing, standing}
use Rattle.checkpoint_cell.specs.declared.Seen.{Seen}
use Rattle.checkpoint_cell.specs.declared.loading.Pending.{Pending}
use Rattle.engine_model.specs.Differing.{differing}
use Rattle.engine_model.specs.Stations.{Stands, Entry, Within, Before}
use Rattle.engine_model.specs.declared.answers.Checked.{Checked}
use Rattle.engine_model.specs.declared.answers.CheckFault.{CheckFault}
use Rattle.engine_model.specs.declared.answers.CheckFault.TheVariants.{HostFault, Damaged, HardwareDiffers, OutOfMemory}

-- ---- what it answers where no fault comes

-- how many links there are, and what is seen of the checkpoint
abbrev pub found : NetData → Option Checkpoint → Checked
found net cell = record { links = length net.links; cell = seen_of cell }

abbrev pub unless_other : Checked → List (List ℕ) → Result Checked CheckFault
unless_other checked [] = Ok checked
unless_other checked (name ∷ names) = Err (HardwareDiffers (name ∷ names))

-- the devices on which the saved network, if there is one, and this one differ
abbrev pub differing_from : Option NetData → NetData → List (List ℕ)
differing_from None net = []
differing_from (Some saved) net = differing saved net

-- a network runs, and has the devices of the saved one
abbrev pub check_net : Option Checkpoint → Option NetData → Option NetData → Result Checked CheckFault
check_net cell saved None = Err (Damaged 0)
check_net cell saved (Some net) = unless_other (found net cell) (differing_from saved net)

-- the checkpoint is open and has a whole image
abbrev pub check_saved : Option NetData → Checkpoint → Option NetData → Result Checked CheckFault
check_saved net c None = Err (Damaged 1)
check_saved net c (Some saved) = check_net (Some c) (Some saved) net

abbrev pub check_cell : Option NetData → Option Checkpoint → Result Checked CheckFault
check_cell net None = check_net None None net
check_cell net (Some c) = check_saved net c c.net

abbrev pub check : Standing → Result Checked CheckFault
check e = check_cell e.net e.cell

-- the saved network of a checkpoint that was loaded
abbrev pub saved_in : Option Pending → Option NetData
saved_in None = None
saved_in (Some pending) = Some pending.net

-- the hardware of the saved network, if there is one, is that of this one
abbrev pub SameHardware : Option NetData → NetData → Type 0
SameHardware None net = Unit {0}
SameHardware (Some saved) net = hardware saved.links ≡ hardware net.links

-- what a comparison answers: how many links, and what is seen, or the devices that differ
abbrev pub Compared : Seen → List (List ℕ) → ℕ → Result Checked CheckFault → Type 0
Compared seen names links (Ok checked) = (names ≡ []) × (checked ≡ record { links = links; cell = seen })
Compared seen names links (Err (HardwareDiffers others)) = (names ≡ others) × (others ≢ [])
Compared seen names links (Err OutOfMemory) = Unit {0}
Compared seen names links (Err fault) = ⊥

-- ---- when each answer comes

-- on every host: what was loaded is told as it reads; of the network, that which was dumped, which on an honest host is the one
-- that stands. Where none was dumped, there is none
abbrev pub CheckSays : Type 0 → HostView → HostView → Result Checked CheckFault → Type 0
CheckSays tells old new (Err HostFault) = Rose old.faults new.faults
CheckSays tells old new (Err OutOfMemory) = Unit {0}
CheckSays tells old new (Err (Damaged area)) = tells → check (standing old.state) ≡ Err (Damaged area)
CheckSays tells old new result = tells → (old.state.net ≢ None) × (check (record { net = new.fresh; cell = cell_of old.state.cell }) ≡ result)

-- on an honest host, sound or not: this is what it answers, unless a fault came or memory ran out
abbrev pub CheckAnswers : Result Checked CheckFault → HostView → HostView → Result Checked CheckFault → Type 0
CheckAnswers machine old new (Err HostFault) = Rose old.faults new.faults
CheckAnswers machine old new (Err OutOfMemory) = Unit {0}
CheckAnswers machine old new result = machine ≡ result

-- ---- what a stop at the exit leaves, on an honest host that is sound

-- of what could be left at the entry, what reads as the host did
abbrev pub AsRead : Entry → Stands
AsRead entry stands = entry.left stands × (stands ≡ entry.reads)

abbrev pub CheckExit : Entry → Stands → Result Checked CheckFault → Type 0
CheckExit entry left (Err HostFault) = Within left (Before entry)
CheckExit entry left (Err OutOfMemory) = Within left (Before entry)
CheckExit entry left result = Within left (AsRead entry)

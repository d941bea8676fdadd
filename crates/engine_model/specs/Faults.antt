-- When each answer of a call comes. A fault of the host brings the answers of faults, and running out of memory its own; every other
-- answer is the command machine's.
use Rattle.std.specs.Prelude.{◌≡◌, ◌≢◌, ◌⊎◌, ⊤, ℕ, Bool, true, false, length, List, [], Option, Some, None, IsSome, Result, Ok, Err}
use Rattle.net_model.specs.NetData.{NetData}
use Rattle.net_model.specs.declared.Call.{Call}
use Rattle.document_model.specs.declared.Doc.{Doc}
use Rattle.document_model.specs.declared.Refused.{Refused}
use Rattle.plan_model.specs.Plans.{IsPlan}
use Rattle.host_core.specs.Faults.{Rose, RoseTwice}
use Rattle.host_core.specs.HostView.{State, Kernel, HostView, HasNet, NoneRefused}
use Rattle.merge_model.specs.MergedNet.{merge}
use Rattle.engine_model.specs.Refusals.{NoCallMade}
use Rattle.checkpoint_cell.specs.declared.Phase.TheVariants.{Applying}
use Rattle.checkpoint_cell.specs.Cell.{Checkpoint, saved_net}
use Rattle.checkpoint_cell.specs.Loaded.{IsBad}
use Rattle.checkpoint_cell.specs.Settled.{standing, taken_back}
use Rattle.engine_model.specs.Differing.{differing}
use Rattle.engine_model.specs.Machine.{Asked, Outcome, apply, commit}
use Rattle.engine_model.specs.declared.answers.Left.{Left}
use Rattle.engine_model.specs.declared.answers.Left.TheVariants.{NotBegun, RolledBack, Pending}
use Rattle.engine_model.specs.declared.answers.Applied.{Applied}
use Rattle.engine_model.specs.declared.answers.ApplyFault.{ApplyFault}
use Rattle.engine_model.specs.declared.answers.ApplyFault.TheVariants as ap
use Rattle.engine_model.specs.declared.answers.CommitFault.{CommitFault}
use Rattle.engine_model.specs.declared.answers.CommitFault.TheVariants as co
use Rattle.engine_model.specs.declared.answers.BackFault.{BackFault}
use Rattle.engine_model.specs.declared.answers.BackFault.TheVariants as ba

-- the machine's answer, and the host reads as what the machine leaves
pub record IsOutcome {A E : Type 0} (machine : Outcome A E) (new : HostView) (result : Result A E) : Type 0 where
  pub answer : machine.answer ≡ result
  pub after : standing new.state ≡ machine.after

-- what a fault's answer says of what stands, where the host tells it
abbrev pub LeftSays : Type 0 → HostView → HostView → Left → Type 0
LeftSays tells old new NotBegun = tells → new.state ≡ old.state
LeftSays tells old new RolledBack = tells → (standing new.state).cell ≡ None
LeftSays tells old new Pending = Unit {0}

-- ---- commit, on every host: it looks at the checkpoint alone and takes no memory

abbrev pub CommitAnswers : Type 0 → ℕ → HostView → HostView → Result ⊤ CommitFault → Type 0
CommitAnswers tells now old new (Err co.HostFault) = Rose old.faults new.faults × LeftSays tells old new NotBegun
CommitAnswers tells now old new (Err co.InDoubt) = Rose old.faults new.faults × (tells → (commit now (standing old.state)).answer ≡ Ok tt)
CommitAnswers tells now old new result = tells → IsOutcome (commit now (standing old.state)) new result

-- ---- on an honest host that is sound

-- a checkpoint is there, and one that is to be taken back at this moment
abbrev pub HasSet : Option Checkpoint → Type 0
HasSet None = ⊥
HasSet (Some c) = Unit {0}

abbrev pub HasTaken : ℕ → Option Checkpoint → Type 0
HasTaken now None = ⊥
HasTaken now (Some c) = taken_back now c.phase c.made c.deadline ≡ true

-- rollback and recover take memory only where a restoring begins
abbrev pub BackAnswers : {A : Type 0} → Type 0 → Outcome A BackFault → HostView → HostView → Result A BackFault → Type 0
BackAnswers begins machine old new (Err (ba.HostFault left)) = Rose old.faults new.faults × (left ≢ RolledBack)
BackAnswers begins machine old new (Err (ba.KernelRefused k n left)) = ⊥
BackAnswers begins machine old new (Err ba.OutOfMemory) = begins
BackAnswers begins machine old new result = IsOutcome machine new result

-- on every honest host, sound or not: but for faults and memory the answer is the machine's
abbrev pub BackExact : {A : Type 0} → Result A BackFault → Result A BackFault → Type 0
BackExact machine (Err (ba.HostFault left)) = Unit {0}
BackExact machine (Err (ba.KernelRefused k n left)) = ⊥
BackExact machine (Err ba.OutOfMemory) = Unit {0}
BackExact machine result = machine ≡ result

abbrev pub ApplyAnswers : Asked → HostView → HostView → Result Applied ApplyFault → Type 0
ApplyAnswers a old new (Err (ap.HostFault left)) = Rose old.faults new.faults
ApplyAnswers a old new (Err ap.InDoubt) = Rose old.faults new.faults
ApplyAnswers a old new (Err (ap.KernelRefused k n left)) = ⊥
ApplyAnswers a old new (Err (ap.NotVerified found left)) = ⊥
ApplyAnswers a old new (Err ap.OutOfMemory) = Unit {0}
ApplyAnswers a old new result = IsOutcome (apply a (standing old.state)) new result

-- the machine's answer is a change, and each pair that is left has its network
pub record IsMade (machine : Outcome Applied ApplyFault) (new : HostView) : Type 0 where
  pub done : Applied
  pub answer : machine.answer ≡ Ok done
  pub net : HasNet machine.after.net new

-- on every honest host, sound or not, where the host's count of faults rose or didn't: but for faults and memory the answer is the
-- machine's, and the host reads as what it leaves. A putting of a checkpoint that fails half way may leave one that is none
abbrev pub ApplyExact : Type 0 → Outcome Applied ApplyFault → HostView → Result Applied ApplyFault → Type 0
ApplyExact rose machine new (Err (ap.HostFault left)) = rose
ApplyExact rose machine new (Err ap.InDoubt) = rose × IsMade machine new
ApplyExact rose machine new (Err (ap.KernelRefused k n left)) = ⊥
ApplyExact rose machine new (Err (ap.NotVerified found left)) = ⊥
ApplyExact rose machine new (Err (ap.Damaged area)) = rose ⊎ IsOutcome machine new (Err (ap.Damaged area))
ApplyExact rose machine new (Err (ap.HardwareDiffers names)) = rose ⊎ IsOutcome machine new (Err (ap.HardwareDiffers names))
ApplyExact rose machine new (Err ap.OutOfMemory) = Unit {0}
ApplyExact rose machine new result = IsOutcome machine new result

-- ---- on every host; of its content only where the host tells it

-- a change is being made, and its checkpoint has a saved network: a recovery is to take it back
abbrev pub HasOpen : Option Checkpoint → Type 0
HasOpen None = ⊥
HasOpen (Some c) = (c.phase ≡ Applying) × IsSome c.net

abbrev pub StillOpen : Type 0 → HostView → Type 0
StillOpen tells new = tells → HasOpen (standing new.state).cell

-- where memory ran out in a restoring, the host reads as before, or the change is being made
abbrev pub WantsBack : Type 0 → HostView → HostView → Type 0
WantsBack tells old new = tells → (new.state ≡ old.state) ⊎ HasOpen (standing new.state).cell

-- what was dumped last is the merge of the network that was saved
pub record Verified (a : Asked) (new : HostView) : Type 0 where
  pub saved : NetData
  pub fresh : NetData
  pub is_saved : saved_net new.state.cell ≡ Some saved
  pub is_fresh : new.fresh ≡ Some fresh
  pub merges : merge saved a.doc ≡ Ok fresh

-- the kernel area has no network, or the checkpoint is open and has no whole image
abbrev pub IsDamaged : ℕ → State → Type 0
IsDamaged area s = ((area ≡ 0) × (s.net ≡ None)) ⊎ ((area ≡ 1) × IsBad (standing s).cell)

-- some pair that was left on the way has no network, or an open checkpoint without a whole image
pub record HadDamaged (area : ℕ) (old new : HostView) : Type 0 where
  pub pair : State
  pub left : new.stops.left_since old.stops.moment pair
  pub damaged : IsDamaged area pair

-- this network isn't what the document makes of the saved one
pub record IsOther (doc : Doc) (found : NetData) (new : HostView) : Type 0 where
  pub saved : NetData
  pub is_saved : saved_net new.state.cell ≡ Some saved
  pub other : merge saved doc ≢ Ok found

-- the network that was dumped and the saved one of the checkpoint that stands have other devices, and these are all such names
pub record Differs (names : List (List ℕ)) (new : HostView) : Type 0 where
  pub saved : NetData
  pub found : NetData
  pub set : HasSet (standing new.state).cell
  pub is_saved : saved_net new.state.cell ≡ Some saved
  pub is_found : new.fresh ≡ Some found
  pub all : differing saved found ≡ names
  pub some : names ≢ []

-- the document breaks this rule on the network that was dumped last, and no checkpoint stands
pub record BrokeRule (doc : Doc) (refused : Refused) (new : HostView) : Type 0 where
  pub from : NetData
  pub is_fresh : new.fresh ≡ Some from
  pub breaks : merge from doc ≡ Err refused
  pub none : (standing new.state).cell ≡ None

-- Of a restoring that came to its end: behind its dump, which gave some network, as many calls were made as a plan from that network
-- to the saved one has. Where it has none, the dump gave the saved network.
pub record GaveSaved (new : HostView) : Type 0 where
  pub saved : NetData
  pub found : NetData
  pub calls : List Call
  pub is_saved : saved_net new.state.cell ≡ Some saved
  pub plan : IsPlan found saved calls
  pub made : new.kernel.calls ≡ length calls
  pub idle : calls ≡ [] → new.fresh ≡ Some saved

-- no kernel call was made since, but where a change was to be taken back first
abbrev pub SettlesOnly : Type 0 → ℕ → State → Kernel → Kernel → Type 0
SettlesOnly tells now state old new = (tells → HasTaken now (standing state).cell) ⊎ NoCallMade old new

-- where all is told as taken back behind a host fault: calls gave the saved network, or none was made
abbrev pub GaveBack : Type 0 → ℕ → State → Kernel → HostView → Type 0
GaveBack tells now state kernel new = GaveSaved new ⊎ SettlesOnly tells now state kernel new.kernel

-- where damage is told, it stands as the host reads; and no call was made, or a checkpoint stands by which to take it back
pub record StandsDamaged (tells : Type 0) (area now : ℕ) (state : State) (kernel : Kernel) (new : HostView) : Type 0 where
  pub damaged : IsDamaged area new.state
  pub held : SettlesOnly tells now state kernel new.kernel ⊎ IsSome (standing new.state).cell

-- Where memory ran out in an apply, its change is being made, and its checkpoint has a saved network. Or else no call was refused; and the
-- host failed, or calls gave the saved network, or none was made, unless a change was to be taken back first.
abbrev pub Starves : Type 0 → ℕ → ℕ → State → Kernel → HostView → Type 0
Starves tells now faults state kernel new = StillOpen tells new ⊎ (NoneRefused kernel new.kernel × (Rose faults new.faults ⊎ (tells → GaveBack tells now state kernel new)))

abbrev pub ApplySays : Type 0 → Asked → HostView → HostView → Result Applied ApplyFault → Type 0
ApplySays tells a old new (Ok done) = tells → a.opts.no_verify ≡ false → Verified a new
ApplySays tells a old new (Err (ap.Pending deadline)) = tells → IsOutcome (apply a (standing old.state)) new (Err (ap.Pending deadline))
ApplySays tells a old new (Err (ap.MergeRefused refused)) = SettlesOnly tells a.now old.state old.kernel new.kernel × (tells → BrokeRule a.doc refused new)
ApplySays tells a old new (Err (ap.HostFault left)) = Rose old.faults new.faults × LeftSays tells old new left × (left ≡ RolledBack → tells → GaveBack tells a.now old.state old.kernel new)
ApplySays tells a old new (Err ap.InDoubt) = Rose old.faults new.faults × (a.opts.no_commit ≡ false) × (tells → a.opts.no_verify ≡ false → Verified a new)
ApplySays tells a old new (Err (ap.KernelRefused k n left)) = LeftSays tells old new left × (left ≢ NotBegun) × (left ≡ RolledBack → tells → GaveSaved new) × (left ≡ Pending → StillOpen tells new)
ApplySays tells a old new (Err (ap.NotVerified found left)) = (left ≡ RolledBack) × (a.opts.no_verify ≡ false) × LeftSays tells old new RolledBack × (tells → GaveSaved new) × (tells → IsOther a.doc found new)
ApplySays tells a old new (Err (ap.Damaged area)) = tells → HadDamaged area old new × StandsDamaged tells area a.now old.state old.kernel new
ApplySays tells a old new (Err (ap.HardwareDiffers names)) = tells → Differs names new
ApplySays tells a old new (Err ap.OutOfMemory) = Starves tells a.now old.faults old.state old.kernel new

-- of a rollback or a recovery, where the machine answers so
abbrev pub BackSays : {A : Type 0} → Type 0 → Result A BackFault → HostView → HostView → Result A BackFault → Type 0
BackSays tells machine old new (Err ba.NoCheckpoint) = tells → machine ≡ Err ba.NoCheckpoint
BackSays tells machine old new (Err (ba.HostFault left)) = Rose old.faults new.faults × LeftSays tells old new left × (left ≢ RolledBack)
BackSays tells machine old new (Err (ba.KernelRefused k n left)) = (left ≡ Pending) × StillOpen tells new
BackSays tells machine old new (Err (ba.Damaged area)) = tells → HadDamaged area old new × IsDamaged area new.state
BackSays tells machine old new (Err (ba.HardwareDiffers names)) = tells → Differs names new
BackSays tells machine old new (Err ba.OutOfMemory) = WantsBack tells old new
BackSays tells machine old new (Ok done) = Unit {0}

-- ---- whether it tried, and what it did in doing so

-- a change may stand half way where one was to be taken back first, or where one is compared, and differs
abbrev pub MayStandHalf : Type 0 → Asked → HostView → Type 0
MayStandHalf tells a old = (tells → HasTaken a.now (standing old.state).cell) ⊎ (a.opts.no_verify ≡ false)

-- that a change may stand half way is told only where its restoring was tried: where it may (the excuse), or else where two things
-- went wrong, the second of them in restoring
abbrev pub Tries : Type 0 → ℕ → ℕ → HostView → Result Applied ApplyFault → Type 0
Tries excuse faults refusals new (Err (ap.KernelRefused k n Pending)) = excuse ⊎ RoseTwice refusals new.kernel.refusals ⊎ Rose faults new.faults
Tries excuse faults refusals new (Err (ap.HostFault Pending)) = excuse ⊎ RoseTwice faults new.faults ⊎ Rose refusals new.kernel.refusals
Tries excuse faults refusals new result = Unit {0}

-- on an honest host, sound or not: it is told of a host fault only where a change was to be taken back first, or the host failed twice
abbrev pub FailsTwice : Type 0 → ℕ → HostView → Result Applied ApplyFault → Type 0
FailsTwice taken faults new (Err (ap.HostFault Pending)) = taken ⊎ RoseTwice faults new.faults
FailsTwice taken faults new result = Unit {0}

-- A change that is verified was dumped after its last kernel call, also where its end is in doubt. One that isn't was not: the last dump
-- that is still fresh, if there is one, gave the network that was saved.
abbrev pub Dumps : Type 0 → Bool → HostView → Result Applied ApplyFault → Type 0
Dumps tells no_verify new (Ok done) = (no_verify ≡ false → new.kernel.calls ≡ 0) × (no_verify ≡ true → tells → (net : NetData) → new.fresh ≡ Some net → saved_net new.state.cell ≡ Some net)
Dumps tells no_verify new (Err ap.InDoubt) = no_verify ≡ false → new.kernel.calls ≡ 0
Dumps tells no_verify new (Err fault) = Unit {0}

-- where it says that all is taken back, the network is the saved one, or where none was saved the one from before
abbrev pub Backs : Option NetData → HostView → Result Applied ApplyFault → Type 0
Backs before new (Err (ap.HostFault RolledBack)) = (new.state.net ≡ saved_net new.state.cell) ⊎ (new.state.net ≡ before)
Backs before new result = Unit {0}

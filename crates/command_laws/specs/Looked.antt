-- What a command that only looks at the network answers.
use Rattle.std.specs.Prelude.{◌≡◌, ◌≤◌, ℕ, List, Vec, None, Some, Result, Ok, Err}
use Rattle.std.specs.declared.alloc.Global.{Global}
use Rattle.net_model.specs.NetData.{NetData}
use Rattle.net_model.specs.declared.Call.{Call}
use Rattle.host_core.specs.Faults.{Rose}
use Rattle.host_core.specs.HostView.{HostView}
use Rattle.host_core.specs.Stops.{Steps, Stays}
use Rattle.engine_model.specs.Refusals.{NoCallMade}
use Rattle.engine_model.specs.declared.Left.TheVariants.{NotBegun}
use Rattle.top_model.specs.Said.{Said, Says}
use Rattle.top_model.specs.Machine.{simulated}
use Rattle.top_model.specs.Told.{Answer}
use Rattle.top_model.specs.declared.report.Cause.{Cause}
use Rattle.top_model.specs.declared.report.Cause.TheVariants.{DocRefused, MergeRefused, CallRefused, HostFault, Damaged, OutOfMemory}

-- nothing is changed, and no kernel call is made
pub record ChangesNothing (tells : Type 0) (old new : HostView) : Type 0 where
  pub state : tells → new.state ≡ old.state
  pub stops : Steps Stays old.stops new.stops
  pub unmade : NoCallMade old.kernel new.kernel
  pub later : old.faults ≤ new.faults

-- this network was found: the host's, where it is honest
pub record IsFound (tells honest : Type 0) (old new : HostView) (net : NetData) : Type 0 where
  pub is : honest → old.state.net ≡ Some net
  pub fresh : tells → new.fresh ≡ Some net

-- the network, or why none was found
abbrev pub Finds : Type 0 → Type 0 → HostView → HostView → Result NetData Cause → Type 0
Finds tells honest old new (Ok net) = IsFound tells honest old new net
Finds tells honest old new (Err (HostFault NotBegun)) = Rose old.faults new.faults
Finds tells honest old new (Err (Damaged area)) = (area ≡ 0) × (tells → old.state.net ≡ None)
Finds tells honest old new (Err OutOfMemory) = Unit {0}
Finds tells honest old new (Err _) = ⊥

-- what is answered of the network that is found, or why none is
abbrev pub Looked : Type 0 → Type 0 → (NetData → Answer) → HostView → HostView → Answer → Type 0
Looked tells honest say old new (Ok said) = (net : NetData) × IsFound tells honest old new net × (say net ≡ Ok said)
Looked tells honest say old new (Err (DocRefused fault)) = (net : NetData) × IsFound tells honest old new net × (say net ≡ Err (DocRefused fault))
Looked tells honest say old new (Err (MergeRefused refused)) = (net : NetData) × IsFound tells honest old new net × (say net ≡ Err (MergeRefused refused))
Looked tells honest say old new (Err (CallRefused n k)) = (net : NetData) × IsFound tells honest old new net × (say net ≡ Err (CallRefused n k))
Looked tells honest say old new (Err (HostFault NotBegun)) = Rose old.faults new.faults
Looked tells honest say old new (Err (Damaged area)) = (area ≡ 0) × (tells → old.state.net ≡ None)
Looked tells honest say old new (Err OutOfMemory) = Unit {0}
Looked tells honest say old new (Err _) = ⊥

-- the text is what is said, or the refusal is this one
abbrev pub HasText : Answer → Result (Vec ℕ Global) Cause → Type 0
HasText (Ok said) (Ok text) = Says said text.items
HasText (Err cause) (Err refusal) = refusal ≡ cause
HasText _ _ = ⊥

pub record LooksAs (tells honest : Type 0) (say : NetData → Answer) (old new : HostView) (result : Result (Vec ℕ Global) Cause) : Type 0 where
  pub answer : Answer
  pub looked : Looked tells honest say old new answer
  pub text : HasText answer result

-- the text of what is answered of this network, or out of memory
abbrev pub TextOf : (NetData → Answer) → NetData → Result (Vec ℕ Global) Cause → Type 0
TextOf say net (Ok text) = (said : Said) × (say net ≡ Ok said) × Says said text.items
TextOf say net (Err (DocRefused fault)) = say net ≡ Err (DocRefused fault)
TextOf say net (Err (MergeRefused refused)) = say net ≡ Err (MergeRefused refused)
TextOf say net (Err (CallRefused n k)) = say net ≡ Err (CallRefused n k)
TextOf say net (Err OutOfMemory) = Unit {0}
TextOf say net (Err _) = ⊥

-- the network that the calls lead to from another one, or the first of them that is refused, or out of memory
abbrev pub LeadsTo : List Call → NetData → Result NetData Cause → Type 0
LeadsTo calls from (Ok to) = simulated 1 calls from ≡ Ok to
LeadsTo calls from (Err (CallRefused n k)) = simulated 1 calls from ≡ Err (CallRefused n k)
LeadsTo calls from (Err OutOfMemory) = Unit {0}
LeadsTo calls from (Err _) = ⊥

-- What each stage of a run is given by the one before it.
use Rattle.std.specs.Prelude.{◌≡◌, ◌⊎◌, ℕ, List, length, Err}
use Rattle.net_model.specs.NetData.{NetData}
use Rattle.net_model.specs.declared.Call.{Call}
use Rattle.document_model.specs.declared.Doc.{Doc}
use Rattle.merge_model.specs.declared.fault.MergeFault.TheVariants as me
use Rattle.plan_model.specs.Plans.{IsPlan}
use Rattle.host_core.specs.HostView.{HostView}
use Rattle.checkpoint_cell.specs.Settled.{Standing, standing}
use Rattle.merge_model.specs.MergedNet.{merge}
use Rattle.engine_model.specs.Sound.{Sound}
use Rattle.scenario_model.specs.Saying.{MakeSays}
use Rattle.scenario_model.specs.declared.WorkFault.{WorkFault}
use Rattle.scenario_model.specs.declared.WorkFault.TheVariants.{Make, Dump, Apply, Merge, Back, OutOfMemory}

-- the host is sound, and reads as this
pub record IsAt (stands : Standing) (host : HostView) : Type 0 where
  pub sound : Sound host
  pub reads : standing host.state ≡ stands

-- a plan from one network to the other has so many calls
pub record HasLength (from to : NetData) (count : ℕ) : Type 0 where
  pub calls : List Call
  pub plan : IsPlan from to calls
  pub counted : count ≡ length calls

-- why no plan was made to what a document makes of a network
abbrev pub NoPlan : Doc → NetData → WorkFault → Type 0
NoPlan doc from (Merge (me.Refused refused)) = merge from doc ≡ Err refused
NoPlan doc from (Merge me.OutOfMemory) = Unit {0}
NoPlan doc from OutOfMemory = Unit {0}
NoPlan doc from fault = ⊥

-- why the first network wasn't made
abbrev pub NotMade : Type 0 → HostView → HostView → WorkFault → Type 0
NotMade tells old new (Make fault) = MakeSays tells old new fault
NotMade tells old new OutOfMemory = Unit {0}
NotMade tells old new fault = ⊥

-- it is one of the two documents
abbrev pub IsOneOf : Doc → Doc → Doc → Type 0
IsOneOf first second doc = (doc ≡ first) ⊎ (doc ≡ second)

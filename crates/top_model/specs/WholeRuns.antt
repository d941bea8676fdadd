-- Whole runs: what the steps of a script leave, whatever fails in them and wherever they are stopped.
use Rattle.std.specs.Prelude.{◌≡◌, ◌≢◌, ◌⊎◌, ◌<◌, ℕ, true, List, [], ◌∷◌, ◌++◌, Some, None, Result, Ok, Err}
use Rattle.net_model.specs.NetData.{NetData}
use Rattle.document_model.specs.declared.Doc.{Doc}
use Rattle.host_core.specs.Faults.{Rose}
use Rattle.host_core.specs.HostView.{State, HostView}
use Rattle.host_core.specs.declared.Source.{Ghosts as SourceGhosts}
use Rattle.host_core.specs.declared.Sink.{Ghosts as SinkGhosts}
use Rattle.host_core.specs.declared.Host.{Ghosts as HostGhosts}
use Rattle.checkpoint_cell.specs.Cell.{Checkpoint}
use Rattle.checkpoint_cell.specs.Settled.{Standing, standing, restored_to}
use Rattle.checkpoint_cell.specs.declared.Phase.TheVariants.{Waiting}
use Rattle.merge_model.specs.MergedNet.{merge}
use Rattle.engine_model.specs.Machine.{Asked, asked, apply, commit, rollback, recover, changed}
use Rattle.engine_model.specs.Sound.{Sound}
use Rattle.engine_model.specs.Stations.{Stands, Near, Only, Settled, Either, at, left_by}
use Rattle.engine_model.specs.Exit.{Unsettled, Marked}
use Rattle.engine_model.specs.declared.ApplyOpts.{ApplyOpts}
use Rattle.engine_model.specs.declared.Left.TheVariants as side
use Rattle.top_model.specs.Orders.{Order, AppliesTo, applying, applying_policy, committing, rolling_back, recovering, making}
use Rattle.top_model.specs.Lines.{Timed}
use Rattle.top_model.specs.Machine.{first_net, apply_policy}
use Rattle.top_model.specs.Runs.{Run}
use Rattle.top_model.specs.Told.{Answer}
use Rattle.top_model.specs.Exits.{Stations}
use Rattle.top_model.specs.Answered.{Answered}
use Rattle.top_model.specs.StepsRun.{World, with_out, step_run, Went, EndsWith}
use Rattle.top_model.specs.declared.report.Report.{Report}
use Rattle.top_model.specs.declared.report.Cause.{Cause}
use Rattle.top_model.specs.declared.report.Cause.TheVariants.{DocRefused, MergeRefused, Pending, HostFault, InDoubt, OutOfMemory}

-- ---- the steps that were run

-- what was asked by a step, the answer behind its status, the status as it was written or reported, and the host's count of
-- faults before it and after it
pub record Ran : Type 0 where
  pub step : Timed
  pub order : Result Order Cause
  pub answer : Answer
  pub status : ℕ
  pub faults : ℕ
  pub faults_after : ℕ

-- of an answered run, with this status
abbrev pub ran_of : (r : Run) → Answered r → ℕ → Ran
ran_of r a status = record {
  step = record { at = r.now; words = r.words };
  order = a.order;
  answer = a.answer;
  status = status;
  faults = r.host.faults;
  faults_after = r.host_after.faults;
}

module _ {X Y Z : Type 0} (H : HostGhosts X) (S : SourceGhosts Y) (W : SinkGhosts Z) where
  abbrev pub rans_of : (steps : List Timed) (old new : World X Y Z) → Went H S W steps old new → List Ran
  rans_of [] old new went = []
  rans_of (step ∷ steps) old new went = ran_of (step_run H S W step old went.0 went.2.report) went.2.answered went.2.report.status ∷ rans_of steps (with_out went.0 went.1) new went.3

  abbrev pub last_of : (steps : List Timed) (old new : World X Y Z) (report : Report) → EndsWith H S W steps old new report → List Ran
  last_of [] old new report end = []
  last_of (step ∷ steps) old new report end = ran_of (step_run H S W step old end.told end.ended) end.answered report.status ∷ []

  -- all steps that were run: those behind which the script went on, and the one that ended it
  abbrev pub all_rans : (done more : List Timed) (old mid new : World X Y Z) (report : Report) → Went H S W done old mid → EndsWith H S W more mid new report → List Ran
  all_rans done more old mid new report went end = rans_of done old mid went ++ last_of more mid new report end

-- ---- the table at exit from one state: the states that an answer may leave of it

abbrev pub ApplyEnds : Asked → Standing → Type 0 → Answer → Stands
ApplyEnds a e rose (Ok said) = Only (apply a e).after
ApplyEnds a e rose (Err (Pending deadline)) = Settled a.now (at e)
ApplyEnds a e rose (Err (MergeRefused refused)) = Settled a.now (at e)
ApplyEnds a e rose (Err (HostFault side.RolledBack)) = Settled a.now (at e)
-- where its settling wasn't finished what stood may stand, and where a marking failed the change that waits
ApplyEnds a e rose (Err (HostFault side.Pending)) = Either (λ s. Unsettled a.now (at e) × (s ≡ e)) (Either (Settled a.now (at e)) (Marked a (at e) rose))
ApplyEnds a e rose (Err OutOfMemory) = Either (Only e) (Either (Settled a.now (at e)) (Marked a (at e) rose))
ApplyEnds a e rose (Err InDoubt) = Either (Settled a.now (at e)) (Only (apply a e).after)
ApplyEnds a e rose (Err cause) = Only e

-- the same of an apply of a policy, which leads to this where it is done
abbrev pub PolicyMarked : ApplyOpts → Standing → Type 0 → Stands
PolicyMarked opts after rose s = (opts.no_commit ≡ true) × rose × (s ≡ after)

abbrev pub PolicyEnds : ApplyOpts → ℕ → Standing → Standing → Type 0 → Answer → Stands
PolicyEnds opts now after e rose (Ok said) = Only after
PolicyEnds opts now after e rose (Err (Pending deadline)) = Settled now (at e)
PolicyEnds opts now after e rose (Err (DocRefused fault)) = Settled now (at e)
PolicyEnds opts now after e rose (Err (MergeRefused refused)) = Settled now (at e)
PolicyEnds opts now after e rose (Err (HostFault side.RolledBack)) = Settled now (at e)
PolicyEnds opts now after e rose (Err (HostFault side.Pending)) = Either (λ s. Unsettled now (at e) × (s ≡ e)) (Either (Settled now (at e)) (PolicyMarked opts after rose))
PolicyEnds opts now after e rose (Err OutOfMemory) = Either (Only e) (Either (Settled now (at e)) (PolicyMarked opts after rose))
PolicyEnds opts now after e rose (Err InDoubt) = Either (Settled now (at e)) (Only after)
PolicyEnds opts now after e rose (Err cause) = Only e

abbrev pub CommitEnds : ℕ → Standing → Answer → Stands
CommitEnds now e (Ok said) = Only (commit now e).after
CommitEnds now e (Err InDoubt) = Either (Only e) (Only (commit now e).after)
CommitEnds now e (Err cause) = Only e

-- a rollback or a recovery, which leads to this where it is done
abbrev pub BackEnds : Standing → Standing → Answer → Stands
BackEnds after e (Ok said) = Only after
BackEnds after e (Err (HostFault side.Pending)) = Either (Only e) (Only after)
BackEnds after e (Err OutOfMemory) = Either (Only e) (Only after)
BackEnds after e (Err cause) = Only e

-- the making of a first network, of a state that has one
abbrev pub MakeEnds : NetData → Standing → Answer → Stands
MakeEnds first e (Ok said) = Only (restored_to first)
MakeEnds first e (Err cause) = Only e

abbrev pub Ends : ℕ → Standing → Type 0 → Result Order Cause → Answer → Stands
Ends now e rose (Ok (applying doc opts)) answer = ApplyEnds (asked doc opts now) e rose answer
Ends now e rose (Ok (applying_policy p opts)) answer = PolicyEnds opts now (apply_policy p opts now e).after e rose answer
Ends now e rose (Ok committing) answer = CommitEnds now e answer
Ends now e rose (Ok rolling_back) answer = BackEnds (rollback e).after e answer
Ends now e rose (Ok recovering) answer = BackEnds (recover now e).after e answer
Ends now e rose (Ok (making links)) answer = MakeEnds (first_net links) e answer
-- what only looks, is refused before any call on the host, or works on a host of its own
Ends now e rose order answer = Only e

abbrev pub RanEnds : Ran → Standing → Stands
RanEnds ran e = Ends ran.step.at e (Rose ran.faults ran.faults_after) ran.order ran.answer

-- ---- the states of a run

-- that it may reach by these steps, from one
abbrev pub MayReach : List Ran → Standing → Stands
MayReach [] e s = s ≡ e
MayReach (ran ∷ rans) e s = (next : Standing) × RanEnds ran e next × MayReach rans next s

-- that it may pass: those that it may reach by some of the steps, and the stations of the step that follows
abbrev pub MayPass : List Ran → Standing → Stands
MayPass [] e s = s ≡ e
MayPass (ran ∷ rans) e s = Stations ran.step.at (at e) ran.order s ⊎ ((next : Standing) × RanEnds ran e next × MayPass rans next s)

-- from each that a stop at its start may leave
abbrev pub ReachedFrom : Stands → List Ran → Stands
ReachedFrom first rans s = (e : Standing) × first e × MayReach rans e s

abbrev pub PassedFrom : Stands → List Ran → Stands
PassedFrom first rans s = (e : Standing) × first e × MayPass rans e s

-- ---- whole runs

-- an honest host that is sound and has a network
pub record Begins (is_honest : Type 0) (host : HostView) : Type 0 where
  pub honest : is_honest
  pub sound : Sound host
  pub has : host.state.net ≢ None

-- the change of an apply that was left to wait: the merged network, with the checkpoint that the apply wrote
pub record IsChangeOf (ran : Ran) (s : Standing) : Type 0 where
  pub doc : Doc
  pub opts : ApplyOpts
  pub from : NetData
  pub is : AppliesTo from ran.order doc opts
  pub to : NetData
  pub merges : merge from doc ≡ Ok to
  pub stands : s ≡ (changed (asked doc opts ran.step.at) from to).after

-- one of the steps that were run
pub record Among (P : Ran → Type 0) (rans : List Ran) : Type 0 where
  pub front : List Ran
  pub one : Ran
  pub rest : List Ran
  pub all : rans ≡ front ++ one ∷ rest
  pub is : P one

-- a stop leaves no change that waits
abbrev pub NoneWaits : HostView → Type 0
NoneWaits host = (s : State) → host.stops.may_leave s → (c : Checkpoint) → (standing s).cell ≡ Some c → c.phase ≡ Waiting → ⊥

pub record IsWhole (old new : HostView) (rans : List Ran) : Type 0 where
  -- at the end each stop leaves what settles like a state that the run may have reached
  pub ends : (s : State) → new.stops.may_leave s → Near (ReachedFrom (left_by old) rans) (standing s)
  -- at each moment since the start a stop left what settles like a state that it may have passed
  pub during : (s : State) → new.stops.left_since old.stops.moment s → Near (PassedFrom (left_by old) rans) (standing s)
  -- it is sound again, and has a network
  pub sound : Sound new
  pub has : new.state.net ≢ None
  -- no change is half committed: what waits with time ahead of it is, wholly, the change of an apply of this run, also after a
  -- rollback that was stopped
  pub waits : NoneWaits old → (s : State) → new.stops.left_since old.stops.moment s → (c : Checkpoint) → (standing s).cell ≡ Some c → c.phase ≡ Waiting → c.made < c.deadline
      → Among (λ ran. IsChangeOf ran (standing s)) rans

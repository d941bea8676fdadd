-- While nobody else changes the network, for every valid running state, document and pattern of faults, `apply` is refused
-- before any change exactly when the merge breaks a listed rule. Without a fault it reaches exactly the merged state, by
-- accepted calls. Failed, expired or stopped anywhere, a recovery without fault restores exactly the checkpointed state, or
-- the merged one once its commit was acknowledged; a stopped commit leaves either.
use Rattle.std.specs.Prelude.{◌≡◌, ◌⊎◌, ℕ, true, false, Some, Ok, Err}
use Rattle.net_model.specs.NetData.{NetData}
use Rattle.document_model.specs.declared.Doc.{Doc}
use Rattle.document_model.specs.declared.Refused.{Refused}
use Rattle.host_core.specs.HostView.{State, HasNet}
use Rattle.checkpoint_cell.specs.declared.Phase.TheVariants.{Waiting}
use Rattle.checkpoint_cell.specs.Cell.{Checkpoint, cell_of, is_due}
use Rattle.checkpoint_cell.specs.Settled.{Standing, standing, settled, restored_to}
use Rattle.merge_model.specs.MergedNet.{merge}
use Rattle.engine_model.specs.Machine.{asked, changed, committed, deadline_of}
use Rattle.engine_model.specs.Compared.{IsWaiting}
use Rattle.engine_model.specs.Sound.{Sound}
use Rattle.engine_model.specs.Stations.{Near, Within, Only, Before, Either}
use Rattle.engine_model.specs.declared.ApplyOpts.{ApplyOpts}
use Rattle.engine_model.specs.declared.Left.{Left}
use Rattle.top_model.specs.Said.{committed as said_committed}
use Rattle.top_model.specs.Orders.{committing, rolling_back, recovering}
use Rattle.top_model.specs.Causes.{expected}
use Rattle.top_model.specs.Runs.{Run, Asks, AsksApply, Alone, Quiet, HostRose, SourceRose, SinkRose, Acknowledged, reads, reads_after, entry, left_at_exit}
use Rattle.top_model.specs.declared.report.Cause.TheVariants.{Done, MergeRefused, WriteFault, HostFault, KernelRefused, OutOfMemory}

-- ---- for every valid running state, document and pattern of faults

-- an apply of a document, at which no change waits; this network stands after its settling, and what was read is the document, or a
-- policy that is this document on that network
pub record IsApply (r : Run) (doc : Doc) (opts : ApplyOpts) (from : NetData) : Type 0 where
  pub nobody_else : Alone r
  pub asks : AsksApply r doc opts from
  pub stands : settled r.now (reads r) ≡ Some (restored_to from)

-- what stands after the change to this network
abbrev pub after : Run → Doc → ApplyOpts → NetData → NetData → Standing
after r doc opts from to = (changed (asked doc opts r.now) from to).after

-- what a fault or out of memory kept from an end
abbrev pub IsHindered : Run → Type 0
IsHindered r = HostRose r ⊎ SourceRose r ⊎ SinkRose r ⊎ (r.report.cause ≡ OutOfMemory)

-- the host reads as this, and a stop leaves nothing that settles otherwise
pub record Leaves (r : Run) (stands : Standing) : Type 0 where
  pub reads : reads_after r ≡ stands
  pub left : Within (left_at_exit r) (Only stands)

-- ---- refused before any change exactly when the merge breaks a listed rule

pub record RefusedByRule (r : Run) (doc : Doc) (opts : ApplyOpts) (from : NetData) : Type 0 where
  pub only : (refused : Refused) → r.report.cause ≡ MergeRefused refused → (merge from doc ≡ Err refused) × Leaves r (restored_to from)
  -- no change towards a merged network is made, whatever comes
  pub always : (refused : Refused) → merge from doc ≡ Err refused
      → ((r.report.cause ≡ MergeRefused refused) ⊎ IsHindered r) × Within (left_at_exit r) (Either (Before (entry r)) (Only (restored_to from)))

-- ---- without a fault it reaches exactly the merged state

abbrev pub Reached : Run → Doc → ApplyOpts → NetData → Type 0
Reached r doc opts from = (to : NetData) → merge from doc ≡ Ok to → (IsHindered r → ⊥) → (r.report.cause ≡ Done) × Leaves r (after r doc opts from to)

-- ---- by accepted calls

abbrev pub Accepted : Run → Type 0
Accepted r = (k n : ℕ) (left : Left) → r.report.cause ≡ KernelRefused k n left → ⊥

-- ---- failed, expired or stopped anywhere

-- it failed: what stands goes back to what stood at the entry, or to the checkpointed network. A change that was to wait may
-- stand, and goes back at its deadline
abbrev pub Failed : Run → Doc → ApplyOpts → NetData → Type 0
Failed r doc opts from = (to : NetData) → merge from doc ≡ Ok to → (left : Left) → (r.report.cause ≡ HostFault left) ⊎ (r.report.cause ≡ OutOfMemory)
    → Within (left_at_exit r) (Either (Before (entry r)) (Either (Only (restored_to from)) (λ s. (opts.no_commit ≡ true) × (s ≡ after r doc opts from to))))

-- where it verifies, a change that a stop leaves to wait then could be left at the entry; or the last dump gave the merged network, and no
-- kernel call came after that dump
abbrev pub LeftToWait : Run → Doc → ApplyOpts → NetData → Type 0
LeftToWait r doc opts from = (to : NetData) → merge from doc ≡ Ok to → opts.no_verify ≡ false → (s : State) → r.host_after.stops.may_leave s → IsWaiting (cell_of s.cell)
    → Before (entry r) (standing s) ⊎ (r.host_after.fresh ≡ Some to)

-- it expired: a change that waits goes back to the checkpointed network
abbrev pub Expired : Run → Doc → ApplyOpts → NetData → Type 0
Expired r doc opts from = (to : NetData) (moment : ℕ) → opts.no_commit ≡ true → is_due r.now (deadline_of (asked doc opts r.now)) moment ≡ true
    → settled moment (after r doc opts from to) ≡ Some (restored_to from)

-- it was stopped: each pair left since the entry settles like what stood there, like the checkpointed network, or like the
-- changed state
abbrev pub Stopped : Run → Doc → ApplyOpts → NetData → Type 0
Stopped r doc opts from = (to : NetData) → merge from doc ≡ Ok to → (s : State) → r.host_after.stops.left_since r.host.stops.moment s
    → Near (Either (Before (entry r)) (Either (Only (restored_to from)) (Only (after r doc opts from to)))) (standing s)

-- ---- a recovery without fault restores exactly the checkpointed state

-- out of memory, also where that couldn't be told
abbrev pub RanOut : Run → Type 0
RanOut r = (r.report.cause ≡ OutOfMemory) ⊎ (r.report.cause ≡ WriteFault 8)

abbrev pub Recovered : Run → Type 0
Recovered r = Alone r → Asks r (Ok recovering) → Quiet r → RanOut r ⊎ ((stands : Standing) × (settled r.now (reads r) ≡ Some stands) × Leaves r stands)

-- a rollback takes back a change also before it is due
abbrev pub RolledBack : Run → Type 0
RolledBack r = Alone r → Asks r (Ok rolling_back) → Quiet r → (c : Checkpoint) → (reads r).cell ≡ Some c
    → RanOut r ⊎ ((saved : NetData) × (c.net ≡ Some saved) × Leaves r (restored_to saved))

-- ---- or the merged one once its commit was acknowledged; a stopped commit leaves either

-- a change waits, and its time isn't up
pub record WaitsStill (now : ℕ) (stands : Standing) : Type 0 where
  pub checkpoint : Checkpoint
  pub is : stands.cell ≡ Some checkpoint
  pub waits : checkpoint.phase ≡ Waiting
  pub in_time : is_due checkpoint.made checkpoint.deadline now ≡ false

-- acknowledged by `commit`, or by a plain apply itself
pub record Committed (r : Run) : Type 0 where
  -- on every host that tells its content, only a change that waits is committed, before its deadline
  pub only : r.host_tells → Asks r (Ok committing) → Acknowledged r → WaitsStill r.now (reads r)
  -- where a stop may leave a change that waits, each stop leaves one and the same network: none is half committed
  pub whole : Sound r.host_after → (s : State) → r.host_after.stops.may_leave s → (c : Checkpoint) → (standing s).cell ≡ Some c → c.phase ≡ Waiting → HasNet s.net r.host_after
  pub acknowledged : Alone r → Asks r (Ok committing) → Acknowledged r → Leaves r (committed (reads r))
  pub stopped : Alone r → Asks r (Ok committing) → expected r (Ok committing) ≡ Ok said_committed → (s : State) → r.host_after.stops.left_since r.host.stops.moment s
      → Near (Either (Before (entry r)) (Only (committed (reads r)))) (standing s)

abbrev pub Merged : Run → Doc → ApplyOpts → NetData → Type 0
Merged r doc opts from = (to : NetData) → merge from doc ≡ Ok to → opts.no_commit ≡ false → Acknowledged r → Leaves r (restored_to to)

-- ---- all of it

pub record OfApply (r : Run) (doc : Doc) (opts : ApplyOpts) (from : NetData) : Type 0 where
  pub refused : RefusedByRule r doc opts from
  pub reached : Reached r doc opts from
  pub failed : Failed r doc opts from
  pub left_to_wait : LeftToWait r doc opts from
  pub expired : Expired r doc opts from
  pub stopped : Stopped r doc opts from
  pub merged : Merged r doc opts from

pub record Headline (r : Run) : Type 0 where
  pub applies : (doc : Doc) (opts : ApplyOpts) (from : NetData) → IsApply r doc opts from → OfApply r doc opts from
  pub accepted : Alone r → Accepted r
  pub recovered : Recovered r
  pub rolled_back : RolledBack r
  pub committed : Committed r

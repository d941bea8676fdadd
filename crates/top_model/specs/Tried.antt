-- On every host: of an apply whether a restoring was tried, what was dumped, and what stands where all is told as rolled back; that a
-- restoring which came to its end gave the saved network; and what stands where memory ran out.
use Rattle.std.specs.Prelude.{◌≡◌, ◌⊎◌, true, false, Some, Result, Ok, Err}
use Rattle.net_model.specs.NetData.{NetData}
use Rattle.host_core.specs.Faults.{Rose, RoseTwice}
use Rattle.checkpoint_cell.specs.Cell.{saved_net}
use Rattle.engine_model.specs.Machine.{recover}
use Rattle.engine_model.specs.Faults.{HasSet, HasTaken, GaveSaved, GaveBack, WantsBack, Starves}
use Rattle.engine_model.specs.declared.ApplyOpts.{ApplyOpts}
use Rattle.engine_model.specs.declared.Left.TheVariants.{RolledBack, Pending}
use Rattle.top_model.specs.Said.{restored}
use Rattle.top_model.specs.Orders.{Order, applying, applying_policy, rolling_back, recovering}
use Rattle.top_model.specs.Runs.{Run, HostRose, HostRoseTwice, reads}
use Rattle.top_model.specs.Told.{Answer}
use Rattle.top_model.specs.declared.report.Cause.{Cause}
use Rattle.top_model.specs.declared.report.Cause.TheVariants.{HostFault, InDoubt, KernelRefused, NotVerified, OutOfMemory}

-- the host's count of refusals
abbrev pub WasRefusedOnce : Run → Type 0
WasRefusedOnce r = Rose r.host.kernel.refusals r.host_after.kernel.refusals

abbrev pub WasRefusedTwice : Run → Type 0
WasRefusedTwice r = RoseTwice r.host.kernel.refusals r.host_after.kernel.refusals

-- a change was to be taken back first, or the network was to be compared
abbrev pub HasExcuse : Run → ApplyOpts → Type 0
HasExcuse r opts = (r.host_tells → HasTaken r.now (reads r).cell) ⊎ (opts.no_verify ≡ false)

-- a change that is verified was dumped after its last kernel call; of one that isn't, the last dump gave the network that was saved, if
-- it is still fresh
pub record DumpedBy (r : Run) (opts : ApplyOpts) : Type 0 where
  pub verified : opts.no_verify ≡ false → r.host_after.kernel.calls ≡ 0
  pub skipped : opts.no_verify ≡ true → r.host_tells → (net : NetData) → r.host_after.fresh ≡ Some net → saved_net r.host_after.state.cell ≡ Some net

-- A change may stand half way behind a host fault only where its restoring was tried: with such an excuse, or where two things went wrong.
-- On an honest host, sound or not, it was two faults, unless a change was to be taken back first.
pub record TriedBack (r : Run) (opts : ApplyOpts) : Type 0 where
  pub tried : HasExcuse r opts ⊎ HostRoseTwice r ⊎ WasRefusedOnce r
  pub twice : r.honest → HasTaken r.now (reads r).cell ⊎ HostRoseTwice r

-- where a restoring came to its end, calls as of a plan gave the network that was saved
abbrev pub Gave : Run → Type 0
Gave r = r.host_tells → GaveSaved r.host_after

-- Where all is told as taken back behind a host fault, calls gave that network; or else none was made, unless a change was taken back
-- first. On an honest host, sound or not, the network is the saved one, or the one that was settled.
pub record TakenBack (r : Run) : Type 0 where
  pub gave : r.host_tells → GaveBack r.host_tells r.now r.host.state r.host.kernel r.host_after
  pub net : r.honest → (r.host_after.state.net ≡ saved_net r.host_after.state.cell) ⊎ (r.host_after.state.net ≡ (recover r.now (reads r)).after.net)

-- Of an apply, of a document or of a policy. Where its end is in doubt, what it made was dumped after its last kernel call, if it verifies.
abbrev pub ApplyTried : Run → ApplyOpts → Answer → Type 0
ApplyTried r opts (Ok said) = DumpedBy r opts
ApplyTried r opts (Err InDoubt) = opts.no_verify ≡ false → r.host_after.kernel.calls ≡ 0
ApplyTried r opts (Err (HostFault Pending)) = TriedBack r opts
ApplyTried r opts (Err (HostFault RolledBack)) = TakenBack r
ApplyTried r opts (Err (KernelRefused k n Pending)) = HasExcuse r opts ⊎ WasRefusedTwice r ⊎ HostRose r
ApplyTried r opts (Err (KernelRefused k n RolledBack)) = Gave r
ApplyTried r opts (Err (NotVerified found left)) = Gave r
ApplyTried r opts (Err OutOfMemory) = Starves r.host_tells r.now r.host.faults r.host.state r.host.kernel r.host_after
ApplyTried r opts answer = Unit {0}

-- A rollback or a recovery may have stood half way only where there was something to take back. Where memory ran out in one, the host reads
-- as before, or the change is being made.
abbrev pub Tried : Run → Result Order Cause → Answer → Type 0
Tried r (Ok (applying doc opts)) answer = ApplyTried r opts answer
Tried r (Ok (applying_policy p opts)) answer = ApplyTried r opts answer
Tried r (Ok rolling_back) (Ok said) = Gave r
Tried r (Ok recovering) (Ok restored) = Gave r
Tried r (Ok rolling_back) (Err (HostFault Pending)) = r.host_tells → HasSet (reads r).cell
Tried r (Ok recovering) (Err (HostFault Pending)) = r.host_tells → HasTaken r.now (reads r).cell
Tried r (Ok rolling_back) (Err OutOfMemory) = WantsBack r.host_tells r.host r.host_after
Tried r (Ok recovering) (Err OutOfMemory) = WantsBack r.host_tells r.host r.host_after
Tried r order answer = Unit {0}

-- What a stop at the exit of a call may leave, by its answer, on an honest host that is sound. An answer whose
-- type is empty (⊥) never comes there.
use Rattle.std.specs.Prelude.{◌≡◌, ◌⊎◌, ℕ, ⊤, true, Some, Result, Ok, Err}
use Rattle.net_model.specs.NetData.{NetData}
use Rattle.checkpoint_cell.specs.Cell.{Checkpoint}
use Rattle.checkpoint_cell.specs.Settled.{Standing, taken_back}
use Rattle.engine_model.specs.Machine.{Asked, apply, commit}
use Rattle.engine_model.specs.Stations.{Stands, Entry, Within, Only, Before, BeforeAsRead, Settled, Either}
use Rattle.engine_model.specs.declared.answers.Left.TheVariants.{NotBegun, RolledBack, Pending}
use Rattle.engine_model.specs.declared.answers.Applied.{Applied}
use Rattle.engine_model.specs.declared.answers.ApplyFault.{ApplyFault}
use Rattle.engine_model.specs.declared.answers.ApplyFault.TheVariants as ap
use Rattle.engine_model.specs.declared.answers.CommitFault.{CommitFault}
use Rattle.engine_model.specs.declared.answers.CommitFault.TheVariants as co
use Rattle.engine_model.specs.declared.answers.BackFault.{BackFault}
use Rattle.engine_model.specs.declared.answers.BackFault.TheVariants as ba

-- ---- commit

abbrev pub CommitExit : ℕ → Entry → Stands → Result ⊤ CommitFault → Type 0
CommitExit now entry left (Ok done) = Within left (Only (commit now entry.reads).after)
CommitExit now entry left (Err co.NoCheckpoint) = Within left (BeforeAsRead entry)
CommitExit now entry left (Err (co.Unfinished made deadline)) = Within left (BeforeAsRead entry)
CommitExit now entry left (Err (co.Expired made deadline)) = Within left (BeforeAsRead entry)
CommitExit now entry left (Err co.HostFault) = Within left (Before entry)
CommitExit now entry left (Err co.InDoubt) = Within left (Either (BeforeAsRead entry) (Only (commit now entry.reads).after))

-- ---- rollback and recover, which lead to this where they are done

abbrev pub BackExit : {A : Type 0} → Standing → Entry → Stands → Result A BackFault → Type 0
BackExit after entry left (Ok done) = Within left (Only after)
BackExit after entry left (Err ba.NoCheckpoint) = Within left (BeforeAsRead entry)
BackExit after entry left (Err (ba.HostFault NotBegun)) = Within left (Before entry)
BackExit after entry left (Err (ba.HostFault RolledBack)) = ⊥
BackExit after entry left (Err (ba.HostFault Pending)) = Within left (Either (Before entry) (Only after))
BackExit after entry left (Err (ba.KernelRefused k n side)) = ⊥
BackExit after entry left (Err (ba.Damaged area)) = ⊥
BackExit after entry left (Err (ba.HardwareDiffers names)) = ⊥
BackExit after entry left (Err ba.OutOfMemory) = Within left (Either (Before entry) (Only after))

-- ---- apply

-- a change was to be taken back first
pub record Unsettled (now : ℕ) (entry : Entry) : Type 0 where
  pub checkpoint : Checkpoint
  pub is : entry.reads.cell ≡ Some checkpoint
  pub taken : taken_back now checkpoint.phase checkpoint.made checkpoint.deadline ≡ true

-- the waiting change, where its marking failed
abbrev pub Marked : Asked → Entry → Type 0 → Stands
Marked a entry rose stands = (a.opts.no_commit ≡ true) × rose × (stands ≡ (apply a entry.reads).after)

-- taken back: on the way to what was settled, or where the change was begun what was settled, or the change that waits
abbrev pub OnWay : Asked → Entry → Stands → Type 0 → Type 0 → Type 0
OnWay a entry left rose begun = (Unsettled a.now entry × Within left (Either (Before entry) (Settled a.now entry))) ⊎ (begun × Within left (Either (Settled a.now entry) (Marked a entry rose)))

-- the change, with its checkpoint or without
pub record InDoubt (a : Asked) (entry : Entry) (left : Stands) : Type 0 where
  pub to : NetData
  pub near : Within left (Either (Settled a.now entry) (Only (apply a entry.reads).after))
  pub net : (stands : Standing) → left stands → stands.net ≡ Some to
  pub changed : (apply a entry.reads).after.net ≡ Some to

-- rose, twice: the host's count of faults rose, and rose at two places
abbrev pub ApplyExit : Asked → Entry → Stands → Type 0 → Type 0 → Result Applied ApplyFault → Type 0
ApplyExit a entry left rose twice (Ok done) = Within left (Only (apply a entry.reads).after)
ApplyExit a entry left rose twice (Err (ap.Pending deadline)) = Within left (Settled a.now entry)
ApplyExit a entry left rose twice (Err (ap.MergeRefused refused)) = Within left (Settled a.now entry)
ApplyExit a entry left rose twice (Err (ap.HostFault NotBegun)) = Within left (Before entry)
ApplyExit a entry left rose twice (Err (ap.HostFault RolledBack)) = Within left (Settled a.now entry)
ApplyExit a entry left rose twice (Err (ap.HostFault Pending)) = OnWay a entry left rose twice
ApplyExit a entry left rose twice (Err (ap.KernelRefused k n side)) = ⊥
ApplyExit a entry left rose twice (Err (ap.NotVerified found side)) = ⊥
ApplyExit a entry left rose twice (Err ap.InDoubt) = InDoubt a entry left
ApplyExit a entry left rose twice (Err (ap.Damaged area)) = Within left (Before entry)
ApplyExit a entry left rose twice (Err (ap.HardwareDiffers names)) = ⊥
ApplyExit a entry left rose twice (Err ap.OutOfMemory) = OnWay a entry left rose (Unit {0})

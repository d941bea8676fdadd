-- What the cause at which a service stops may be.
use Rattle.std.proofs.Common.{◌≡◌, ℕ}
use Rattle.std.specs.Prelude.{Err}
use Rattle.host_core.specs.Faults.{Rose}
use Rattle.host_core.specs.Folders.{FolderView}
use Rattle.engine_model.specs.declared.answers.Left.TheVariants.{NotBegun, RolledBack, Pending as Unknown}
use Rattle.engine_model.specs.declared.answers.ApplyFault.{ApplyFault}
use Rattle.engine_model.specs.declared.answers.ApplyFault.TheVariants as ap
use Rattle.boot_service.specs.declared.fault.ServeFault.{ServeFault}
use Rattle.boot_service.specs.declared.fault.ServeFault.TheVariants.{Apply, NotMarked}
use Rattle.top_model.specs.Orders.{Text}
use Rattle.top_model.specs.Texts.{status_of}
use Rattle.top_model.specs.declared.report.Cause.{Cause}
use Rattle.top_model.specs.declared.report.Cause.TheVariants.{DocRefused, BadLine, BatchLine, BatchLarge, NoSuchName, FolderFault, WriteFault, OutOfMemory}
use Rattle.service_run.specs.Documents.{serve_cause}
use Rattle.service_run.specs.Reading.{DocumentOutcome}

-- it is neither that all is done nor a sink's fault
pub record IsStop (cause : Cause) : Type 0 where
  pub undone : status_of cause ≡ 0 → ⊥
  pub unwritten : (status : ℕ) → cause ≡ WriteFault status → ⊥

pub stop_read : (tells : Type 0) (name : Text) (old new : FolderView) (cause : Cause) → DocumentOutcome tells name old new (Err cause) → IsStop cause
stop_read tells name old new (DocRefused fault) h = record { undone = λ e. cc; unwritten = λ status e. cc }
stop_read tells name old new (BadLine n) h = record { undone = λ e. cc; unwritten = λ status e. cc }
stop_read tells name old new (BatchLine n) h = record { undone = λ e. cc; unwritten = λ status e. cc }
stop_read tells name old new BatchLarge h = record { undone = λ e. cc; unwritten = λ status e. cc }
stop_read tells name old new NoSuchName h = record { undone = λ e. cc; unwritten = λ status e. cc }
stop_read tells name old new FolderFault h = record { undone = λ e. cc; unwritten = λ status e. cc }
stop_read tells name old new OutOfMemory h = record { undone = λ e. cc; unwritten = λ status e. cc }
stop_read tells name old new _ h = absurd h

pub stop_memory : IsStop OutOfMemory
stop_memory = record { undone = λ e. cc; unwritten = λ status e. cc }

pub stop_folder : IsStop FolderFault
stop_folder = record { undone = λ e. cc; unwritten = λ status e. cc }

-- of a serving it is no fault of reading
pub record IsServing (cause : Cause) : Type 0 where
  pub stop : IsStop cause
  pub named : cause ≡ NoSuchName → ⊥

pub stop_applied : (fault : ApplyFault) → IsServing (serve_cause (Apply fault))
stop_applied (ap.Pending deadline) = record { stop = record { undone = λ e. cc; unwritten = λ status e. cc }; named = λ e. cc }
stop_applied (ap.MergeRefused refused) = record { stop = record { undone = λ e. cc; unwritten = λ status e. cc }; named = λ e. cc }
stop_applied (ap.HostFault NotBegun) = record { stop = record { undone = λ e. cc; unwritten = λ status e. cc }; named = λ e. cc }
stop_applied (ap.HostFault RolledBack) = record { stop = record { undone = λ e. cc; unwritten = λ status e. cc }; named = λ e. cc }
stop_applied (ap.HostFault Unknown) = record { stop = record { undone = λ e. cc; unwritten = λ status e. cc }; named = λ e. cc }
stop_applied (ap.KernelRefused k n NotBegun) = record { stop = record { undone = λ e. cc; unwritten = λ status e. cc }; named = λ e. cc }
stop_applied (ap.KernelRefused k n RolledBack) = record { stop = record { undone = λ e. cc; unwritten = λ status e. cc }; named = λ e. cc }
stop_applied (ap.KernelRefused k n Unknown) = record { stop = record { undone = λ e. cc; unwritten = λ status e. cc }; named = λ e. cc }
stop_applied (ap.NotVerified found left) = record { stop = record { undone = λ e. cc; unwritten = λ status e. cc }; named = λ e. cc }
stop_applied ap.InDoubt = record { stop = record { undone = λ e. cc; unwritten = λ status e. cc }; named = λ e. cc }
stop_applied (ap.Damaged area) = record { stop = record { undone = λ e. cc; unwritten = λ status e. cc }; named = λ e. cc }
stop_applied (ap.HardwareDiffers names) = record { stop = record { undone = λ e. cc; unwritten = λ status e. cc }; named = λ e. cc }
stop_applied ap.OutOfMemory = record { stop = record { undone = λ e. cc; unwritten = λ status e. cc }; named = λ e. cc }

pub stop_served : (fault : ServeFault) → IsServing (serve_cause fault)
stop_served (Apply fault) = stop_applied fault
stop_served NotMarked = record { stop = stop_folder; named = λ e. cc }

-- a fault of the folder is none of the apply's
pub folder_fault : (fault : ApplyFault) → serve_cause (Apply fault) ≡ FolderFault → ⊥
folder_fault (ap.Pending deadline) e = cc
folder_fault (ap.MergeRefused refused) e = cc
folder_fault (ap.HostFault left) e = cc
folder_fault (ap.KernelRefused k n left) e = cc
folder_fault (ap.NotVerified found left) e = cc
folder_fault ap.InDoubt e = cc
folder_fault (ap.Damaged area) e = cc
folder_fault (ap.HardwareDiffers names) e = cc
folder_fault ap.OutOfMemory e = cc

pub read_fault : (tells : Type 0) (name : Text) (old new : FolderView) (cause : Cause) → DocumentOutcome tells name old new (Err cause) → cause ≡ FolderFault → Rose old.faults new.faults
read_fault tells name old new FolderFault h e = h
read_fault tells name old new (DocRefused fault) h e = absurd (cc)
read_fault tells name old new (BadLine n) h e = absurd (cc)
read_fault tells name old new (BatchLine n) h e = absurd (cc)
read_fault tells name old new BatchLarge h e = absurd (cc)
read_fault tells name old new NoSuchName h e = absurd (cc)
read_fault tells name old new OutOfMemory h e = absurd (cc)
read_fault tells name old new _ h e = absurd h

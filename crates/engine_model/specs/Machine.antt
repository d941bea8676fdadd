-- What each call of the engine answers where no fault comes, and what stands after it. It has no plan, no kernel call and
-- no order of writes.
use Rattle.std.specs.Prelude.{ℕ, ◌+◌, ◌-◌, ◌^◌, min, ⊤, List, [], ◌∷◌, Option, Some, None, Result, Ok, Err, if◌then◌else◌}
use Rattle.net_model.specs.NetData.{NetData}
use Rattle.document_model.specs.declared.Refused.{Refused}
use Rattle.document_model.specs.declared.Doc.{Doc}
use Rattle.merge_model.specs.MergedNet.{merge}
use Rattle.checkpoint_cell.specs.Cell.{Checkpoint, is_due}
use Rattle.checkpoint_cell.specs.Settled.{Standing, restored_to, taken_back}
use Rattle.engine_model.specs.Differing.{differing}
use Rattle.checkpoint_cell.specs.declared.Phase.{Phase}
use Rattle.checkpoint_cell.specs.declared.Phase.TheVariants.{Applying, Waiting}
use Rattle.engine_model.specs.declared.answers.Applied.{Applied}
use Rattle.engine_model.specs.declared.answers.ApplyOpts.{ApplyOpts}
use Rattle.engine_model.specs.declared.answers.Recovered.{Recovered}
use Rattle.engine_model.specs.declared.answers.Recovered.TheVariants.{Nothing, Waiting as Waits, Restored}
use Rattle.engine_model.specs.declared.answers.ApplyFault.{ApplyFault}
use Rattle.engine_model.specs.declared.answers.ApplyFault.TheVariants as ap
use Rattle.engine_model.specs.declared.answers.CommitFault.{CommitFault}
use Rattle.engine_model.specs.declared.answers.CommitFault.TheVariants as co
use Rattle.engine_model.specs.declared.answers.BackFault.{BackFault}
use Rattle.engine_model.specs.declared.answers.BackFault.TheVariants as ba

pub record Outcome (A E : Type 0) : Type 0 where
  pub answer : Result A E
  pub after : Standing

abbrev pub stays : {A E : Type 0} → Standing → Result A E → Outcome A E
stays e answer = record { answer = answer; after = e }

-- ---- to restore

abbrev pub unless_differing : NetData → List (List ℕ) → Result NetData BackFault
unless_differing saved [] = Ok saved
unless_differing saved (name ∷ names) = Err (ba.HardwareDiffers (name ∷ names))

-- the saved network, or why what is there can't go back to it: no image behind the gate, no network, other devices
abbrev pub saved_on : Option NetData → Option NetData → Result NetData BackFault
saved_on None net = Err (ba.Damaged 1)
saved_on (Some saved) None = Err (ba.Damaged 0)
saved_on (Some saved) (Some net) = unless_differing saved (differing saved net)

abbrev pub restored_as : {A : Type 0} → A → Standing → Result NetData BackFault → Outcome A BackFault
restored_as a e (Ok saved) = record { answer = Ok a; after = restored_to saved }
restored_as a e (Err fault) = stays e (Err fault)

-- what stands is restored with this answer
abbrev pub restore : {A : Type 0} → A → Standing → Checkpoint → Outcome A BackFault
restore a e c = restored_as a e (saved_on c.net e.net)

-- ---- rollback

abbrev pub rollback_cell : Standing → Option Checkpoint → Outcome ⊤ BackFault
rollback_cell e None = stays e (Err ba.NoCheckpoint)
rollback_cell e (Some c) = restore tt e c

-- where it is done the answer says no more
abbrev pub rollback : Standing → Outcome ⊤ BackFault
rollback e = rollback_cell e e.cell

-- ---- recover

abbrev pub recover_cell : ℕ → Standing → Option Checkpoint → Outcome Recovered BackFault
recover_cell now e None = stays e (Ok Nothing)
recover_cell now e (Some c) = if taken_back now c.phase c.made c.deadline then restore Restored e c else stays e (Ok (Waits c.deadline))

abbrev pub recover : ℕ → Standing → Outcome Recovered BackFault
recover now e = recover_cell now e e.cell

-- ---- settle, which is a recovery that answers when a change that waits is due

abbrev pub due_at : Recovered → Option ℕ
due_at Nothing = None
due_at (Waits deadline) = Some deadline
due_at Restored = None

abbrev pub settled_as : Result Recovered BackFault → Result (Option ℕ) BackFault
settled_as (Ok done) = Ok (due_at done)
settled_as (Err fault) = Err fault

abbrev pub settle : ℕ → Standing → Outcome (Option ℕ) BackFault
settle now e = record { answer = settled_as (recover now e).answer; after = (recover now e).after }

-- ---- commit

abbrev pub committed : Standing → Standing
committed e = record e { cell = None }

abbrev pub commit_waiting : ℕ → Standing → Checkpoint → Outcome ⊤ CommitFault
commit_waiting now e c = if is_due c.made c.deadline now then stays e (Err (co.Expired c.made c.deadline)) else record { answer = Ok tt; after = committed e }

abbrev pub commit_phase : ℕ → Standing → Checkpoint → Phase → Outcome ⊤ CommitFault
commit_phase now e c Applying = stays e (Err (co.Unfinished c.made c.deadline))
commit_phase now e c Waiting = commit_waiting now e c

abbrev pub commit_cell : ℕ → Standing → Option Checkpoint → Outcome ⊤ CommitFault
commit_cell now e None = stays e (Err co.NoCheckpoint)
commit_cell now e (Some c) = commit_phase now e c c.phase

abbrev pub commit : ℕ → Standing → Outcome ⊤ CommitFault
commit now e = commit_cell now e e.cell

-- ---- apply

-- what is asked of an apply
pub record Asked : Type 0 where
  pub doc : Doc
  pub opts : ApplyOpts
  pub now : ℕ

abbrev pub asked : Doc → ApplyOpts → ℕ → Asked
asked doc opts now = record { doc = doc; opts = opts; now = now }

-- the last moment that there is, at most
abbrev pub deadline_of : Asked → ℕ
deadline_of a = min (a.now + a.opts.timeout) (2 ^ 64 - 1)

abbrev pub waiting : Asked → NetData → Checkpoint
waiting a from = record { phase = Waiting; made = a.now; deadline = deadline_of a; net = Some from }

-- the change is made, and waits where it isn't to be committed
abbrev pub changed : Asked → NetData → NetData → Outcome Applied ApplyFault
changed a from to =
    if a.opts.no_commit then record { answer = Ok (record { deadline = Some (deadline_of a) }); after = record { net = Some to; cell = Some (waiting a from) } }
    else record { answer = Ok (record { deadline = None }); after = restored_to to }

abbrev pub merged_as : Asked → NetData → Result NetData Refused → Outcome Applied ApplyFault
merged_as a from (Ok to) = changed a from to
merged_as a from (Err refused) = stays (restored_to from) (Err (ap.MergeRefused refused))

abbrev pub change : Asked → Standing → Option NetData → Outcome Applied ApplyFault
change a e None = stays e (Err (ap.Damaged 0))
change a e (Some from) = merged_as a from (merge from a.doc)

-- the same fault of an apply
abbrev pub apply_fault : BackFault → ApplyFault
apply_fault ba.NoCheckpoint = ap.Damaged 1
apply_fault (ba.HostFault left) = ap.HostFault left
apply_fault (ba.KernelRefused k n left) = ap.KernelRefused k n left
apply_fault (ba.Damaged area) = ap.Damaged area
apply_fault (ba.HardwareDiffers names) = ap.HardwareDiffers names
apply_fault ba.OutOfMemory = ap.OutOfMemory

-- after its settling
abbrev pub apply_settled : Asked → Standing → Result Recovered BackFault → Outcome Applied ApplyFault
apply_settled a e (Ok (Waits deadline)) = stays e (Err (ap.Pending deadline))
apply_settled a e (Ok Nothing) = change a e e.net
apply_settled a e (Ok Restored) = change a e e.net
apply_settled a e (Err fault) = stays e (Err (apply_fault fault))

abbrev pub apply_step : Asked → Outcome Recovered BackFault → Outcome Applied ApplyFault
apply_step a settling = apply_settled a settling.after settling.answer

abbrev pub apply : Asked → Standing → Outcome Applied ApplyFault
apply a e = apply_step a (recover a.now e)

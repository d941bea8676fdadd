-- The answer of a recovery is one of a settling.
use Rattle.std.proofs.Common.{◌≡◌, ◌∙◌, ℕ, Bool, true, false, refl, sym, ap, Option, Some, None, Result, Ok, Err}
use Rattle.std.specs.Prelude.{IsSome, if◌then◌else◌}
use Rattle.net_model.specs.NetData.{NetData}
use Rattle.host_core.specs.HostView.{HostView}
use Rattle.checkpoint_cell.specs.Cell.{Checkpoint}
use Rattle.checkpoint_cell.specs.Settled.{Standing}
use Rattle.engine_model.specs.Answers.{IsClear}
use Rattle.engine_model.specs.Exit.{BackExit}
use Rattle.engine_model.specs.Faults.{BackAnswers, BackExact, BackSays, HasTaken}
use Rattle.engine_model.specs.Machine.{recover, recover_cell, restore, restored_as, saved_on, settle, settled_as, due_at, stays}
use Rattle.engine_model.specs.Stations.{Stands, Entry}
use Rattle.engine_model.specs.declared.answers.Left.TheVariants.{NotBegun, RolledBack, Pending}
use Rattle.engine_model.specs.declared.answers.Recovered.{Recovered}
use Rattle.engine_model.specs.declared.answers.Recovered.TheVariants.{Nothing, Waiting, Restored}
use Rattle.engine_model.specs.declared.answers.BackFault.{BackFault}
use Rattle.engine_model.specs.declared.answers.BackFault.TheVariants.{NoCheckpoint, HostFault, KernelRefused, Damaged, HardwareDiffers, OutOfMemory}

abbrev Recovery : Type 0
Recovery = Result Recovered BackFault

abbrev Settling : Type 0
Settling = Result (Option ℕ) BackFault

abbrev recovery : BackFault → Recovery
recovery fault = Err fault

abbrev done : Recovered → Recovery
done recovered = Ok recovered

abbrev settling : BackFault → Settling
settling fault = Err fault

-- the same fault
pub same_fault : (one two : BackFault) → settling one ≡ settling two → recovery one ≡ recovery two
same_fault one two is = let e : settling one ≡ settling two = is in let same : one ≡ two = cc in ap recovery same

pub settle_says : (tells : Type 0) (machine : Recovery) (old new : HostView) (fault : BackFault) → BackSays tells machine old new (recovery fault) → BackSays tells (settled_as machine) old new (settling fault)
settle_says tells machine old new NoCheckpoint says = λ told. ap settled_as (says told)
settle_says tells machine old new (HostFault left) says = says
settle_says tells machine old new (KernelRefused k n left) says = says
settle_says tells machine old new (Damaged area) says = says
settle_says tells machine old new (HardwareDiffers names) says = says
settle_says tells machine old new OutOfMemory says = says

pub settle_exact : (machine : Recovery) (fault : BackFault) → BackExact machine (recovery fault) → BackExact (settled_as machine) (settling fault)
settle_exact machine NoCheckpoint is = ap settled_as is
settle_exact machine (HostFault left) is = is
settle_exact machine (KernelRefused k n left) is = is
settle_exact machine (Damaged area) is = ap settled_as is
settle_exact machine (HardwareDiffers names) is = ap settled_as is
settle_exact machine OutOfMemory is = is

pub settle_answers : (begins : Type 0) (now : ℕ) (stands : Standing) (old new : HostView) (fault : BackFault) → BackAnswers begins (recover now stands) old new (recovery fault) → BackAnswers begins (settle now stands) old new (settling fault)
settle_answers begins now stands old new NoCheckpoint a = record { answer = ap settled_as a.answer; after = a.after }
settle_answers begins now stands old new (HostFault left) a = a
settle_answers begins now stands old new (KernelRefused k n left) a = a
settle_answers begins now stands old new (Damaged area) a = record { answer = ap settled_as a.answer; after = a.after }
settle_answers begins now stands old new (HardwareDiffers names) a = record { answer = ap settled_as a.answer; after = a.after }
settle_answers begins now stands old new OutOfMemory a = a

pub settle_exit : (after : Standing) (entry : Entry) (left : Stands) (fault : BackFault) → BackExit after entry left (recovery fault) → BackExit after entry left (settling fault)
settle_exit after entry left NoCheckpoint is = is
settle_exit after entry left (HostFault NotBegun) is = is
settle_exit after entry left (HostFault RolledBack) is = is
settle_exit after entry left (HostFault Pending) is = is
settle_exit after entry left (KernelRefused k n side) is = is
settle_exit after entry left (Damaged area) is = is
settle_exit after entry left (HardwareDiffers names) is = is
settle_exit after entry left OutOfMemory is = is

-- ---- where it is done

-- the same answer
pub same_done : (one two : Recovered) → one ≡ two → done one ≡ done two
same_done one two is = ap done is

-- where it tells when the change is due, nothing was restored
pub due_kept : (recovered : Recovered) → IsSome (due_at recovered) → recovered ≡ Restored → ⊥
due_kept Nothing due is = let e : false ≡ true = due in cc
due_kept (Waiting deadline) due is = let e : Waiting deadline ≡ Restored = is in cc
due_kept Restored due is = let e : false ≡ true = due in cc

-- and where it doesn't, no checkpoint stands
pub due_clear : (recovered : Recovered) → due_at recovered ≡ None → IsClear recovered
due_clear Nothing is = tt
due_clear (Waiting deadline) is = let e : Some deadline ≡ None = is in absurd (cc)
due_clear Restored is = tt

restored_only : (e : Standing) (found : Result NetData BackFault) (recovered : Recovered) → (restored_as Restored e found).answer ≡ done recovered → recovered ≡ Restored
restored_only e (Ok saved) recovered is = let same : done Restored ≡ done recovered = is in cc
restored_only e (Err fault) recovered is = let no : recovery fault ≡ done recovered = is in absurd (cc)

taken_only : (now : ℕ) (e : Standing) (cell : Option Checkpoint) (recovered : Recovered) → HasTaken now cell → (recover_cell now e cell).answer ≡ done recovered → recovered ≡ Restored
taken_only now e None recovered taken is = absurd taken
taken_only now e (Some c) recovered taken is =
    restored_only e (saved_on c.net e.net) recovered (ap (λ (b : Bool). (if b then restore Restored e c else stays e (Ok (Waiting c.deadline))).answer) (sym taken) ∙ is)

-- what is to be taken back is restored where it is done
pub taken_restored : (now : ℕ) (e : Standing) (cell : Option Checkpoint) (recovered : Recovered) → HasTaken now cell → (recovered ≡ Nothing → (recover_cell now e cell).answer ≡ done Nothing)
    → ((deadline : ℕ) → recovered ≡ Waiting deadline → (recover_cell now e cell).answer ≡ done (Waiting deadline)) → recovered ≡ Restored
taken_restored now e cell Nothing taken nothing waiting = taken_only now e cell Nothing taken (nothing refl)
taken_restored now e cell (Waiting deadline) taken nothing waiting = taken_only now e cell (Waiting deadline) taken (waiting deadline refl)
taken_restored now e cell Restored taken nothing waiting = refl

-- An apply of a policy that ends before the change: how it is told, and where the policy is no document on the network that was dumped.
use Rattle.std.proofs.Common.{[], ◌≡◌, inl, refl, ap, subst, ℕ, ◌++◌}
use Rattle.std.specs.Prelude.{Result, Ok, Err}
use Rattle.net_model.specs.NetData.{NetData}
use Rattle.document_model.specs.declared.Doc.{Doc}
use Rattle.policy_model.specs.Values.{PolicyData}
use Rattle.host_core.specs.HostView.{HostView}
use Rattle.checkpoint_cell.specs.Settled.{standing}
use Rattle.engine_model.specs.Answers.{IsBefore}
use Rattle.engine_model.specs.Faults.{BackSays, HasTaken}
use Rattle.engine_model.specs.declared.Left.TheVariants.{NotBegun, RolledBack, Pending}
use Rattle.engine_model.specs.declared.Recovered.{Recovered}
use Rattle.engine_model.specs.declared.Recovered.TheVariants.{Nothing, Waiting as Waits, Restored}
use Rattle.engine_model.specs.declared.BackFault.{BackFault}
use Rattle.engine_model.specs.declared.BackFault.TheVariants as ba
use Rattle.host_core.specs.declared.DumpFault.{DumpFault}
use Rattle.host_core.specs.declared.DumpFault.TheVariants as du
use Rattle.engine_model.specs.declared.ApplyFault.TheVariants.{HostFault, KernelRefused, Damaged, HardwareDiffers, OutOfMemory}
use Rattle.engine_model.specs.declared.ApplyOpts.{ApplyOpts}
use Rattle.top_model.specs.Orders.{Inputs, Order, document_on, applying_policy, order_of}
use Rattle.top_model.specs.Texts.{error_line}
use Rattle.top_model.specs.Runs.{Run, MayRead}
use Rattle.top_model.specs.Grounds.{Grounds, TakesFirst}
use Rattle.top_model.specs.Told.{ErrTextOn, Told}
use Rattle.top_model.specs.Answered.{GoesOn, Answered}
use Rattle.top_model.specs.declared.report.DocFault.{DocFault}
use Rattle.top_model.specs.declared.report.Cause.{Cause}
use Rattle.top_model.specs.declared.report.Cause.TheVariants as cause
use Rattle.top_model.proofs.lemmas.Deriving.{late}
use Rattle.answer_text.specs.Speaking.{Spoken}
use Rattle.answer_text.proofs.lemmas.Told.{starved_line, told_refused}
use Rattle.order_reading.specs.Reading.{Answers, itself}
use Rattle.command_laws.specs.Begun.{look_cause, Begun, Seen}
use Rattle.command_laws.proofs.lemmas.EndsEarly.{recovery_cause, given}
use Rattle.command_laws.proofs.lemmas.EndsUnchanged.{refused_late, ran_out}
use Rattle.command_laws.proofs.lemmas.Evaluates.{document_refused}

-- a refusal was told, with the cause that was made of a fault
pub told_plain : (r : Run) (order : Result Order Cause) (c named : Cause) → c ≡ named → ErrTextOn (TakesFirst r) (Grounds r order) order named (error_line named)
    → Spoken r.sinks_tell c [] ([] ++ error_line c) r.out r.out_after r.err r.err_after r.report → Told r order (Err named)
told_plain r order c named is plain spoken = told_refused r order named [] plain (subst (λ (x : Cause). Spoken r.sinks_tell x [] ([] ++ error_line x) r.out r.out_after r.err r.err_after r.report) is spoken)

rolled_pending : RolledBack ≡ Pending → ⊥
rolled_pending e = cc

-- it isn't told as rolled back
abbrev pub NotRolled : BackFault → Type 0
NotRolled (ba.HostFault RolledBack) = ⊥
NotRolled (ba.KernelRefused k n RolledBack) = ⊥
NotRolled fault = Unit {0}

-- a recovery tells nothing so
pub never_rolled : (tells : Type 0) (machine : Result Recovered BackFault) (old new : HostView) (fault : BackFault) → BackSays tells machine old new (Err fault) → NotRolled fault
never_rolled tells machine old new ba.NoCheckpoint says = tt
never_rolled tells machine old new (ba.HostFault NotBegun) says = tt
never_rolled tells machine old new (ba.HostFault RolledBack) says = says.2 refl
never_rolled tells machine old new (ba.HostFault Pending) says = tt
never_rolled tells machine old new (ba.KernelRefused k n NotBegun) says = tt
never_rolled tells machine old new (ba.KernelRefused k n RolledBack) says = rolled_pending says.0
never_rolled tells machine old new (ba.KernelRefused k n Pending) says = tt
never_rolled tells machine old new (ba.Damaged area) says = tt
never_rolled tells machine old new (ba.HardwareDiffers names) says = tt
never_rolled tells machine old new ba.OutOfMemory says = tt

-- what was restored was to be taken back first
pub taken_first : (tells honest : Type 0) (now : ℕ) (done : Recovered) (old mid : HostView) → Begun tells honest now done old mid → done ≡ Restored → tells → HasTaken now (standing old.state).cell
taken_first tells honest now done old mid begun is t = begun.recovers.restored t (ap given is)

module _ (early : Type 0) (on : NetData → Type 0) (p : PolicyData) (opts : ApplyOpts) where
  pub recovery_err : (fault : BackFault) → NotRolled fault → ((IsBefore fault → ⊥) → early) → ErrTextOn early on (Ok (applying_policy p opts)) (recovery_cause fault) (error_line (recovery_cause fault))
  recovery_err ba.NoCheckpoint never begun = inl refl
  recovery_err (ba.HostFault NotBegun) never begun = inl refl
  recovery_err (ba.HostFault RolledBack) never begun = absurd never
  recovery_err (ba.HostFault Pending) never begun = inl (begun (λ before. before), refl)
  recovery_err (ba.KernelRefused k n NotBegun) never begun = inl refl
  recovery_err (ba.KernelRefused k n RolledBack) never begun = absurd never
  recovery_err (ba.KernelRefused k n Pending) never begun = inl (begun (λ before. before), refl)
  recovery_err (ba.Damaged area) never begun = inl refl
  recovery_err (ba.HardwareDiffers names) never begun = inl refl
  recovery_err ba.OutOfMemory never begun = inl refl

  pub look_err : (done : Recovered) (fault : DumpFault) → (done ≡ Restored → early) → ErrTextOn early on (Ok (applying_policy p opts)) (look_cause done fault) (error_line (look_cause done fault))
  look_err Nothing du.Failed taken = inl refl
  look_err (Waits deadline) du.Failed taken = inl refl
  look_err Restored du.Failed taken = inl (taken refl, refl)
  look_err done du.Damaged taken = inl refl
  look_err done du.OutOfMemory taken = inl refl

-- ---- the policy is no document on the network that was dumped

line_fault : (n : ℕ) (fault : DocFault) → cause.BadLine n ≡ cause.DocRefused fault → ⊥
line_fault n fault e = cc

batch_fault : (n : ℕ) (fault : DocFault) → cause.BatchLine n ≡ cause.DocRefused fault → ⊥
batch_fault n fault e = cc

large_fault : (fault : DocFault) → cause.BatchLarge ≡ cause.DocRefused fault → ⊥
large_fault fault e = cc

module _ (r : Run) (p : PolicyData) (opts : ApplyOpts) (inputs : Inputs) (may_read : MayRead r inputs) (is : order_of r.in_script inputs r.words ≡ Ok (applying_policy p opts))
    (done : Recovered) (mid : HostView) (net : NetData) (seen : Seen r.host_tells r.honest r.now done r.host mid r.host_after net) (goes_on : GoesOn r) where
  abbrev refused_as : Cause → Result Doc Cause
  refused_as c = Err c

  pub no_document : (c : Cause) → Answers itself (document_on p net) (refused_as c) → Spoken r.sinks_tell c [] ([] ++ error_line c) r.out r.out_after r.err r.err_after r.report → Answered r
  no_document (cause.DocRefused fault) refused spoken =
      refused_late r p opts inputs may_read is done seen.begun.clear mid seen.begun.recovers net seen.looks fault refused (document_refused fault p net refused) goes_on
      (told_refused r (Ok (applying_policy p opts)) (cause.DocRefused fault) [] refl spoken)
  no_document (cause.BadLine n) refused spoken = let is_refusal = late p net (cause.BadLine n) refused in absurd (line_fault n is_refusal.0 is_refusal.1)
  no_document (cause.BatchLine n) refused spoken = let is_refusal = late p net (cause.BatchLine n) refused in absurd (batch_fault n is_refusal.0 is_refusal.1)
  no_document cause.BatchLarge refused spoken = let is_refusal = late p net cause.BatchLarge refused in absurd (large_fault is_refusal.0 is_refusal.1)
  no_document cause.OutOfMemory refused spoken =
      ran_out r p opts inputs may_read is done seen.begun.clear mid seen.begun.recovers net seen.looks goes_on
      (told_refused r (Ok (applying_policy p opts)) cause.OutOfMemory [] (starved_line (TakesFirst r) (Grounds r (Ok (applying_policy p opts))) (Ok (applying_policy p opts))) spoken)
  no_document c refused spoken = absurd refused

-- What the answers of the stages say, from where the run began.
use Rattle.std.proofs.Common.{◌≡◌, ℕ, ◌∙◌, ◌⊎◌, inl, inr, refl, sym, ap, subst, arith, Result, Ok, Err, Option, Some, None}
use Rattle.std.specs.Prelude.{IsSome, ⊤}
use Rattle.net_model.specs.NetData.{NetData}
use Rattle.document_model.specs.declared.Doc.{Doc}
use Rattle.document_model.specs.declared.Refused.{Refused}
use Rattle.merge_model.specs.declared.MergeFault.{MergeFault}
use Rattle.merge_model.specs.declared.MergeFault.TheVariants as me
use Rattle.host_core.specs.Faults.{Rose}
use Rattle.host_core.specs.HostView.{State, HostView}
use Rattle.host_core.specs.Stops.{Steps, Stays}
use Rattle.host_core.specs.declared.MakeFault.{MakeFault}
use Rattle.host_core.specs.declared.MakeFault.TheVariants as ma
use Rattle.host_core.specs.declared.DumpFault.{DumpFault}
use Rattle.host_core.specs.declared.DumpFault.TheVariants as du
use Rattle.host_core.proofs.lemmas.Counts.{rose_after}
use Rattle.merge_model.specs.MergedNet.{merge}
use Rattle.engine_model.specs.Machine.{Asked}
use Rattle.engine_model.specs.Faults.{ApplySays, BackSays, LeftSays, HadDamaged}
use Rattle.engine_model.specs.declared.Left.{Left}
use Rattle.engine_model.specs.declared.Left.TheVariants.{NotBegun, RolledBack, Pending}
use Rattle.engine_model.specs.declared.ApplyFault.{ApplyFault}
use Rattle.engine_model.specs.declared.ApplyFault.TheVariants as ap_
use Rattle.engine_model.specs.declared.BackFault.{BackFault}
use Rattle.engine_model.specs.declared.BackFault.TheVariants as ba
use Rattle.scenario_model.specs.Saying.{Past, past_of, host_at, IsPast, MakeSays, StepSays, RunSays, WorkSays}
use Rattle.scenario_model.specs.declared.Summary.{Summary}
use Rattle.scenario_model.specs.declared.WorkFault.{WorkFault}
use Rattle.scenario_model.specs.declared.WorkFault.TheVariants.{Make, Dump, Apply, Merge, Back, OutOfMemory}
use Rattle.scenario.specs.Stages.{NoPlan, NotMade, IsOneOf}

-- a later moment than a later one
pub past_on : (tells : Type 0) (a b c : Past) → IsPast tells a b → IsPast tells b c → IsPast tells a c
past_on tells a b c one two = record {
  faults = omega (arith, one.faults, two.faults);
  quiet = record { refusals = two.quiet.refusals ∙ one.quiet.refusals; last = two.quiet.last ∙ one.quiet.last };
  moment = λ told. omega (arith, one.moment told, two.moment told);
}

-- the same moment
pub past_here : (tells : Type 0) (a : Past) → IsPast tells a a
past_here tells a = record { faults = omega arith; quiet = record { refusals = refl; last = refl }; moment = λ told. omega arith }

module _ (tells : Type 0) (first second : Doc) (a b : Past) (le : IsPast tells a b) (new : HostView) where
  -- a fault that was met since later was met since before
  pub step_says_from : (fault : WorkFault) → StepSays tells first second b new fault → StepSays tells first second a new fault
  step_says_from (Make f) s = absurd s
  step_says_from (Dump du.Failed) s = rose_after a.faults b.faults new.faults le.faults s
  step_says_from (Dump du.Damaged) s = s
  step_says_from (Dump du.OutOfMemory) s = tt
  step_says_from (Apply f) s = record { asked = s.asked; is = s.is; past = s.past; later = past_on tells a b s.past le s.later; says = s.says; counts = s.counts }
  step_says_from (Merge (me.Refused r)) s = s
  step_says_from (Merge me.OutOfMemory) s = tt
  step_says_from (Back f) s = record { past = s.past; later = past_on tells a b s.past le s.later; says = s.says; counts = s.counts }
  step_says_from OutOfMemory s = tt

  -- the same of the answer of a run
  pub run_says_from : (result : Result Summary WorkFault) → RunSays tells first second b new result → RunSays tells first second a new result
  run_says_from (Ok summary) s = s
  run_says_from (Err fault) s = step_says_from fault s

-- ---- from where a call began

left_past : (tells : Type 0) (old new : HostView) (left : Left) → LeftSays tells old new left → LeftSays tells (host_at (past_of old)) new left
left_past tells old new NotBegun s = s
left_past tells old new RolledBack s = s
left_past tells old new Pending s = s

had_past : (area : ℕ) (old new : HostView) → HadDamaged area old new → HadDamaged area (host_at (past_of old)) new
had_past area old new had = record { pair = had.pair; left = had.left; damaged = had.damaged }

-- what a change's answer says needs no more of the host before it
pub apply_past : (tells : Type 0) (a : Asked) (old new : HostView) (fault : ApplyFault) → ApplySays tells a old new (Err fault) → ApplySays tells a (host_at (past_of old)) new (Err fault)
apply_past tells a old new (ap_.Pending deadline) s = s
apply_past tells a old new (ap_.MergeRefused r) s = s
apply_past tells a old new (ap_.HostFault left) s = (s.0, left_past tells old new left s.1, s.2)
apply_past tells a old new ap_.InDoubt s = s
apply_past tells a old new (ap_.KernelRefused k n left) s = (left_past tells old new left s.0, s.1, s.2, s.3)
apply_past tells a old new (ap_.NotVerified found left) s = s
apply_past tells a old new (ap_.Damaged area) s = λ t. (had_past area old new (s t).0, (s t).1)
apply_past tells a old new (ap_.HardwareDiffers names) s = s
apply_past tells a old new ap_.OutOfMemory s = s

-- nor does that of a taking back
pub back_past : (tells : Type 0) (machine : Result ⊤ BackFault) (old new : HostView) (fault : BackFault) → BackSays tells machine old new (Err fault) → BackSays tells machine (host_at (past_of old)) new (Err fault)
back_past tells machine old new ba.NoCheckpoint s = s
back_past tells machine old new (ba.HostFault left) s = (s.0, left_past tells old new left s.1, s.2)
back_past tells machine old new (ba.KernelRefused k n left) s = s
back_past tells machine old new (ba.Damaged area) s = λ t. (had_past area old new (s t).0, (s t).1)
back_past tells machine old new (ba.HardwareDiffers names) s = s
back_past tells machine old new ba.OutOfMemory s = s

-- ---- where no plan was made

module _ (tells : Type 0) (first second doc : Doc) (is : IsOneOf first second doc) (from : NetData) (start : Past) (new : HostView) (dumped : tells → new.fresh ≡ Some from) where
  breaks : (r : Refused) → merge from doc ≡ Err r → (merge from first ≡ Err r) ⊎ (merge from second ≡ Err r)
  breaks r broken = elim is [
    | inl one ↦ inl (subst (λ (d : Doc). merge from d ≡ Err r) one broken)
    | inr two ↦ inr (subst (λ (d : Doc). merge from d ≡ Err r) two broken)
  ]

  pub no_plan_says : (fault : WorkFault) → NoPlan doc from fault → StepSays tells first second start new fault
  no_plan_says (Merge (me.Refused r)) s = record { from = from; dumped = dumped; breaks = breaks r s }
  no_plan_says (Merge me.OutOfMemory) s = tt
  no_plan_says OutOfMemory s = tt
  no_plan_says (Make f) s = absurd s
  no_plan_says (Dump f) s = absurd s
  no_plan_says (Apply f) s = absurd s
  no_plan_says (Back f) s = absurd s

-- why a merge gave nothing
pub no_merge : (doc : Doc) (from : NetData) (fault : MergeFault) → ((r : Refused) → fault ≡ me.Refused r → merge from doc ≡ Err r) → NoPlan doc from (Merge fault)
no_merge doc from (me.Refused r) broken = broken r refl
no_merge doc from me.OutOfMemory broken = tt

-- ---- why the host gave no network, and why none was made

pub dump_says : (tells : Type 0) (first second : Doc) (old new : HostView) (fault : DumpFault) → (fault ≡ du.Failed → Rose old.faults new.faults) → (tells → fault ≡ du.Damaged → old.state.net ≡ None)
    → (tells → new.state ≡ old.state) → StepSays tells first second (past_of old) new (Dump fault)
dump_says tells first second old new du.Failed rose damaged state = rose refl
dump_says tells first second old new du.Damaged rose damaged state = λ t. ap (λ (s : State). s.net) (state t) ∙ damaged t refl
dump_says tells first second old new du.OutOfMemory rose damaged state = tt

pub make_says : (tells : Type 0) (old new : HostView) (fault : MakeFault) → (fault ≡ ma.Failed → Rose old.faults new.faults) → (tells → fault ≡ ma.Exists → IsSome old.state.net)
    → (tells → IsSome old.state.net → Steps Stays old.stops new.stops × (new.state ≡ old.state)) → (tells → fault ≡ ma.OutOfMemory → Steps Stays old.stops new.stops × (new.state ≡ old.state))
    → MakeSays tells old new fault
make_says tells old new ma.Exists rose exists stays same = λ t. let there = exists t refl in let still = stays t there in (there, record { stops = still.0; state = still.1 })
make_says tells old new ma.Failed rose exists stays same = rose refl
make_says tells old new ma.OutOfMemory rose exists stays same = λ t. let still = same t refl in record { stops = still.0; state = still.1 }

-- ---- the whole run

pub work_says : (tells : Type 0) (first second : Doc) (old new : HostView) (result : Result Summary WorkFault) → RunSays tells first second (past_of old) new result → WorkSays tells first second old new result
work_says tells first second old new (Ok summary) s = s
work_says tells first second old new (Err (Make f)) s = absurd s
work_says tells first second old new (Err (Dump f)) s = s
work_says tells first second old new (Err (Apply f)) s = s
work_says tells first second old new (Err (Merge f)) s = s
work_says tells first second old new (Err (Back f)) s = s
work_says tells first second old new (Err OutOfMemory) s = s

pub unmade_says : (tells : Type 0) (first second : Doc) (old new : HostView) (fault : WorkFault) → NotMade tells old new fault → WorkSays tells first second old new (Err fault)
unmade_says tells first second old new (Make f) s = s
unmade_says tells first second old new OutOfMemory s = tt
unmade_says tells first second old new (Dump f) s = absurd s
unmade_says tells first second old new (Apply f) s = absurd s
unmade_says tells first second old new (Merge f) s = absurd s
unmade_says tells first second old new (Back f) s = absurd s

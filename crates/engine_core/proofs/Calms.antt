-- What a change leaves as it was, carried through its parts.
use Rattle.std.proofs.Common.{◌≡◌, inl, inr, ◌≤◌, ℕ, refl, sym, ap, ◌∙◌, subst, List, Option, Some, None, Result, Ok, Err, Bool, true, false, arith}
use Rattle.std.specs.Prelude.{OnOk, IfOk, if◌then◌else◌}
use Rattle.net_model.specs.NetData.{NetData}
use Rattle.net_model.specs.declared.Call.{Call}
use Rattle.document_model.specs.declared.Doc.{Doc}
use Rattle.document_model.specs.declared.Refused.{Refused}
use Rattle.host_core.specs.HostView.{State, HostView, HasNet, SameNet}
use Rattle.host_core.specs.Stops.{Stops, Steps, Stays, IsLawful}
use Rattle.host_core.proofs.lemmas.Moments.{follow, weaken}
use Rattle.checkpoint_cell.specs.Cell.{cell_of, applying}
use Rattle.checkpoint_cell.specs.Settled.{standing, settled, restored_to}
use Rattle.host_core.specs.Faults.{Rose}
use Rattle.merge_model.specs.MergedNet.{merge}
use Rattle.engine_model.specs.Machine.{Asked, asked, apply, deadline_of}
use Rattle.engine_model.specs.Sound.{Fit, Sound}
use Rattle.engine_model.specs.Faults.{ApplyAnswers, ApplySays}
use Rattle.engine_model.specs.declared.answers.ApplyOpts.{ApplyOpts}
use Rattle.engine_model.specs.declared.answers.Applied.{Applied}
use Rattle.engine_model.specs.declared.answers.ApplyFault.{ApplyFault}
use Rattle.engine_model.specs.declared.answers.ApplyFault.TheVariants as fa
use Rattle.engine_model.specs.Stations.{FrontStep}
use Rattle.plan_model.specs.Plans.{IsPlan}
use Rattle.plan_model.specs.Undisturbed.{IsUndisturbed}
use Rattle.engine_core.specs.Calm.{CalmSince}
use Rattle.engine_core.specs.Applying.{ExitApply}
use Rattle.engine_core.proofs.Applies.{Made, made_as, makes, apply_answers}
use Rattle.engine_core.proofs.Says.{said_left, said_doubt}

-- the start is undisturbed
pub calm_start : (from to : NetData) → IsUndisturbed from to from
calm_start from to = record { links = λ name calm. refl; routes = λ route calm has also. has }

module _ (from to : NetData) (t : ℕ) (old new : HostView) (lawful : IsLawful old.stops) (le : t ≤ old.stops.moment) (calm : CalmSince from to t old) where
  -- where the network stays
  pub calm_on : Steps SameNet old.stops new.stops → CalmSince from to t new
  calm_on steps = record {
    pair = λ s left. elim (steps.since t s le left) [
      | inl was ↦ calm.pair s was
      | inr (r, may, same) ↦
          let before = calm.pair r (lawful.counts_now t r le may) in
          (before.0, same ∙ before.1, before.2)
    ];
  }

  pub calm_stays : Steps Stays old.stops new.stops → CalmSince from to t new
  calm_stays steps = calm_on (weaken Stays SameNet old.stops new.stops steps (λ r s left is. ap (λ (p : State). p.net) is))

  -- where the calls of a plan are made
  pub calm_runs : (calls : List Call) → IsPlan from to calls → HasNet (Some from) old → Steps (FrontStep calls from) old.stops new.stops → CalmSince from to t new
  calm_runs calls plan nets steps = record {
    pair = λ s left. elim (steps.since t s le left) [
      | inl was ↦ calm.pair s was
      | inr (r, may, step) ↦
          let there = step (nets r may) in
          (there.0, there.1, plan.gentle.fronts there.2.front there.2.rest there.0 there.2.is there.2.runs)
    ];
  }

-- where no checkpoint stands, each pair has the network that reads
pub calm_first : (from to : NetData) (host : HostView) → IsLawful host.stops → host.stops.may_leave host.state → Sound host → cell_of host.state.cell ≡ None → host.state.net ≡ Some from → CalmSince from to host.stops.moment host
calm_first from to host lawful reads sound none is = record {
  pair = λ s left. elim sound.one [
    | inl (net, all) ↦ (from, all s (lawful.only_now s left) ∙ sym (all host.state reads) ∙ is, calm_start from to)
    | inr (saved, all) ↦
        let set = all host.state reads in
        let e : None ≡ Some (applying set.0 set.1 saved) = sym none ∙ set.2 in
        absurd (cc)
  ];
}

-- the same networks
pub calm_as : (from to a b : NetData) (t : ℕ) (host : HostView) → a ≡ from → b ≡ to → CalmSince from to t host → CalmSince a b t host
calm_as from to a b t host first second calm = subst (λ (x : NetData). CalmSince x b t host) (sym first) (subst (λ (y : NetData). CalmSince from y t host) (sym second) calm)

pub one_net : (a b : NetData) (net : Option NetData) → net ≡ Some a → net ≡ Some b → a ≡ b
one_net a b net one two = let e : Some a ≡ Some b = sym one ∙ two in cc

abbrev merged_with : NetData → Result NetData Refused
merged_with to = Ok to

pub one_merged : (a b : NetData) (result : Result NetData Refused) → result ≡ Ok a → result ≡ Ok b → a ≡ b
one_merged a b result one two = let e : merged_with a ≡ merged_with b = sym one ∙ two in cc

-- nothing happened
pub still : (stops : Stops State) → Steps SameNet stops stops
still stops = record {
  later = omega arith;
  now = λ s left. (s, left, refl);
  since = λ t s le left. inl left;
  keeps = λ t s le left. left;
}

pub stays_nets : (old mid new : Stops State) → Steps Stays old mid → Steps SameNet mid new → Steps SameNet old new
stays_nets old mid new one two = follow Stays SameNet SameNet old mid new one two (λ r s left is. ap (λ (p : State). p.net) is) (λ q r s start left a b. b ∙ ap (λ (p : State). p.net) a)

-- ---- the answer where nothing failed

abbrev ok_with : Applied → Result Applied ApplyFault
ok_with applied = Ok applied

abbrev err_with : ApplyFault → Result Applied ApplyFault
err_with fault = Err fault

made_ok : (a : Asked) (from to : NetData) (b : Bool) → (applied : Applied) × ((made_as a from to b).answer ≡ Ok applied)
made_ok a from to true = (record { deadline = Some (deadline_of a) }, refl)
made_ok a from to false = (record { deadline = None }, refl)

module _ (a : Asked) (old new : HostView) (from to : NetData) (fit : Fit old.state) (is : standing old.state ≡ restored_to from) (merges : merge from a.doc ≡ Ok to) (calm : Rose old.faults new.faults → ⊥) where
  answer_is : (applied : Applied) × ((apply a (standing old.state)).answer ≡ Ok applied)
  answer_is =
      let made = made_ok a from to a.opts.no_commit in
      (made.0, ap (λ (o : Made). o.answer) (makes a old.state from fit (ap (settled a.now) is) to merges) ∙ made.1)

  never : (fault : ApplyFault) → (apply a (standing old.state)).answer ≡ Err fault → ⊥
  never fault answer = let e : ok_with answer_is.0 ≡ err_with fault = sym answer_is.1 ∙ answer in cc

  pub done_calm : (P : Type 0) (result : Result Applied ApplyFault) → ApplyAnswers a old new result → (result ≡ Err fa.OutOfMemory → ⊥) → OnOk result P → P
  done_calm P (Ok applied) answers memory p = p
  done_calm P (Err (fa.Pending until)) answers memory p = absurd (never (fa.Pending until) answers.answer)
  done_calm P (Err (fa.MergeRefused r)) answers memory p = absurd (never (fa.MergeRefused r) answers.answer)
  done_calm P (Err (fa.HostFault left)) answers memory p = absurd (calm answers)
  done_calm P (Err (fa.KernelRefused k n left)) answers memory p = absurd answers
  done_calm P (Err (fa.NotVerified found left)) answers memory p = absurd answers
  done_calm P (Err fa.InDoubt) answers memory p = absurd (calm answers)
  done_calm P (Err (fa.Damaged area)) answers memory p = absurd (never (fa.Damaged area) answers.answer)
  done_calm P (Err (fa.HardwareDiffers names)) answers memory p = absurd (never (fa.HardwareDiffers names) answers.answer)
  done_calm P (Err fa.OutOfMemory) answers memory p = absurd (memory refl)

-- it is done where nothing failed, from how the change ended
pub ended_calm : (doc : Doc) (opts : ApplyOpts) (now : ℕ) (tells : Type 0) (old new : HostView) → new.stops.may_leave new.state → Fit old.state → (result : Result Applied ApplyFault) → ExitApply (asked doc opts now) old result new
    → IfOk result (λ applied. applied.deadline ≡ (if opts.no_commit then Some (deadline_of (asked doc opts now)) else None)) → ApplySays tells (asked doc opts now) old new result
    → (from to : NetData) → standing old.state ≡ restored_to from → merge from doc ≡ Ok to → (Rose old.faults new.faults → ⊥) → (result ≡ Err fa.OutOfMemory → ⊥) → (P : Type 0) → OnOk result P → P
ended_calm doc opts now tells old new there fit result exit value says from to is merges quiet memory P done =
    done_calm (asked doc opts now) old new from to fit is merges quiet P result
    (apply_answers doc opts now old new there fit result exit value
    (λ left said. (said_left tells (asked doc opts now) old new result left said says).0) (λ said. said_doubt tells (asked doc opts now) old new result said says)) memory done

-- What was done before the change of an apply of a policy: the recovery and the dump, and what is told of a fault behind them.
use Rattle.std.proofs.Common.{◌≡◌, ◌≤◌, inr, refl, sym, ap, arith, ◌∙◌, ℕ, Some, None}
use Rattle.std.specs.Prelude.{◌≢◌, Result, Ok, Err}
use Rattle.net_model.specs.NetData.{NetData}
use Rattle.document_model.specs.declared.Doc.{Doc}
use Rattle.policy_model.specs.Values.{PolicyData}
use Rattle.host_core.specs.HostView.{State, HostView, NoneRefused}
use Rattle.checkpoint_cell.specs.Cell.{cell_of}
use Rattle.checkpoint_cell.specs.Settled.{Standing, standing, restored_to}
use Rattle.engine_model.specs.Machine.{recover}
use Rattle.engine_model.specs.Sound.{Sound}
use Rattle.engine_model.specs.Answers.{IsClear}
use Rattle.engine_model.specs.Stations.{Near, Only, Kept, left_by}
use Rattle.engine_model.specs.Failing.{IsUnbegun}
use Rattle.engine_model.specs.Faults.{HasTaken}
use Rattle.engine_model.specs.declared.Left.TheVariants as sides
use Rattle.engine_model.specs.declared.Applied.{Applied}
use Rattle.engine_model.specs.declared.Recovered.{Recovered}
use Rattle.engine_model.specs.declared.Recovered.TheVariants.{Nothing, Waiting as Waits, Restored}
use Rattle.engine_model.specs.declared.BackFault.{BackFault}
use Rattle.engine_model.specs.declared.ApplyFault.{ApplyFault}
use Rattle.engine_model.specs.declared.ApplyFault.TheVariants.{Pending, MergeRefused, HostFault, KernelRefused, NotVerified, InDoubt, Damaged, HardwareDiffers, OutOfMemory}
use Rattle.engine_model.proofs.lemmas.Leading.{near_wider, kept_on, kept_stays}
use Rattle.engine_model.proofs.lemmas.Refusals.{quiet_on, quiet_dumped}
use Rattle.top_model.specs.declared.report.Cause.{Cause}
use Rattle.top_model.proofs.lemmas.Unbegun.{unbegun_on}
use Rattle.top_model.proofs.lemmas.Counting.{nothing_other}
use Rattle.top_model.proofs.lemmas.Continued as go
use Rattle.command_laws.specs.Begun.{Recovers, side_of, Seen, Wants, told_side}

abbrev pub given : Recovered → Result Recovered BackFault
given done = Ok done

abbrev pub failed : ApplyFault → Result Applied ApplyFault
failed fault = Err fault

abbrev read_as : Doc → Result Doc Cause
read_as doc = Ok doc

pub same_given : (a b : Recovered) → given a ≡ given b → a ≡ b
same_given a b e = cc

pub same_doc : (a b : Doc) → read_as a ≡ read_as b → a ≡ b
same_doc a b e = cc

-- a fault is told as what stands behind the recovery
pub sided : (done : Recovered) (fault : ApplyFault) → go.told_as (side_of done) (failed fault) ≡ failed (told_side done fault)
sided done (Pending deadline) = refl
sided done (MergeRefused refused) = refl
sided done (HostFault sides.NotBegun) = refl
sided done (HostFault sides.RolledBack) = refl
sided done (HostFault sides.Pending) = refl
sided done (KernelRefused k n left) = refl
sided done (NotVerified found left) = refl
sided done InDoubt = refl
sided done (Damaged area) = refl
sided done (HardwareDiffers names) = refl
sided done OutOfMemory = refl

-- ---- what was done before the change

begun_pending : sides.NotBegun ≡ sides.Pending → ⊥
begun_pending e = cc

rolled_pending : sides.RolledBack ≡ sides.Pending → ⊥
rolled_pending e = cc

rolled_begun : sides.RolledBack ≡ sides.NotBegun → ⊥
rolled_begun e = cc

pub never_pending : (done : Recovered) → side_of done ≢ sides.Pending
never_pending Nothing e = begun_pending e
never_pending (Waits deadline) e = begun_pending e
never_pending Restored e = rolled_pending e

-- nothing was begun where nothing was taken back
unbegun : (done : Recovered) → IsClear done → side_of done ≡ sides.NotBegun → done ≡ Nothing
unbegun Nothing clear is = refl
unbegun (Waits deadline) clear is = absurd clear
unbegun Restored clear is = absurd (rolled_begun is)

-- what is told as taken back was restored
restored : (done : Recovered) → IsClear done → side_of done ≡ sides.RolledBack → done ≡ Restored
restored Nothing clear is = absurd (rolled_begun (sym is))
restored (Waits deadline) clear is = absurd clear
restored Restored clear is = refl

pub later : (a b c : ℕ) → a ≤ b → b ≤ c → a ≤ c
later a b c one two = omega arith

module _ (tells honest : Type 0) (honest_tells : honest → tells) (now : ℕ) (done : Recovered) (old between new : HostView) (net : NetData) (seen : Seen tells honest now done old between new net) where
  abbrev first : Recovers tells honest now old between (Ok done)
  first = seen.begun.recovers

  pub seen_faults : old.faults ≤ new.faults
  seen_faults = later old.faults between.faults new.faults first.later seen.looks.cause.later

  pub seen_moment : old.stops.moment ≤ new.stops.moment
  seen_moment = later old.stops.moment between.stops.moment new.stops.moment first.moment seen.looks.stops.later

  pub seen_quiet : NoneRefused old.kernel new.kernel
  seen_quiet = quiet_on old.kernel between.kernel new.kernel first.counts (quiet_dumped between.kernel new.kernel seen.looks.calls)

  -- where nothing was taken back, nothing was begun
  seen_idle : side_of done ≡ sides.NotBegun → IsUnbegun tells old between
  seen_idle is = first.idle (λ e. nothing_other (sym (unbegun done seen.begun.clear is) ∙ e))

  pub seen_unbegun : side_of done ≡ sides.NotBegun → IsUnbegun tells old new
  seen_unbegun is = unbegun_on tells old between new (seen_idle is) (record { stops = seen.looks.stops; same = seen.looks.state; unmade = inr seen.looks.calls })

  -- where something was, it was to be
  pub seen_taken : side_of done ≡ sides.RolledBack → tells → HasTaken now (standing old.state).cell
  seen_taken is t = first.restored t (ap given (restored done seen.begun.clear is))

  -- no checkpoint stands
  pub seen_none : tells → (standing new.state).cell ≡ None
  seen_none t = ap (λ (s : State). cell_of s.cell) (seen.looks.state t) ∙ (first.cleared t seen.begun.clear).cell

  pub seen_answer : honest → (recover now (standing old.state)).answer ≡ given done
  seen_answer h = first.exact h

  pub seen_after : honest → standing new.state ≡ (recover now (standing old.state)).after
  seen_after h = ap standing (seen.looks.state (honest_tells h)) ∙ first.after h

  pub seen_found : honest → new.state.net ≡ Some net
  seen_found h = ap (λ (s : State). s.net) (seen.looks.state (honest_tells h)) ∙ seen.looks.net h

  pub seen_kept : honest → Sound old → Kept (Only (recover now (standing old.state)).after) old new
  seen_kept h sound =
      let kept = first.kept h sound in
      kept_on (Only (recover now (standing old.state)).after) old between new kept (kept_stays (Only (recover now (standing old.state)).after) between new kept.sound seen.looks.stops)

  -- all that is left settles like what reads
  pub seen_left : honest → Sound old → (x : Standing) → left_by new x → Near (Only (standing new.state)) x
  seen_left h sound x left =
      let from = seen.looks.stops.now left.0 left.1 in
      near_wider (Only (recover now (standing old.state)).after) (Only (standing new.state)) (λ y is. is ∙ sym (seen_after h)) x
      (first.exit h sound x (from.0, from.1, ap standing (sym from.2) ∙ left.2))

  pub seen_alone : honest → standing new.state ≡ restored_to net
  seen_alone h = λ i. record { net = seen_found h i; cell = seen_none (honest_tells h) i }

-- no count fell on the way
pub seen_later : (tells honest : Type 0) (now : ℕ) (done : Recovered) (old mid new : HostView) (net : NetData) → Seen tells honest now done old mid new net → old.faults ≤ new.faults
seen_later tells honest now done old mid new net seen = later old.faults mid.faults new.faults seen.begun.recovers.later seen.looks.cause.later

pub wanted_later : (tells honest : Type 0) (now : ℕ) (done : Recovered) (old mid between new : HostView) (p : PolicyData) (doc : Doc) → Wants tells honest now done old mid between p doc
    → between.faults ≤ new.faults → old.faults ≤ new.faults
wanted_later tells honest now done old mid between new p doc wants le =
    later old.faults between.faults new.faults (seen_later tells honest now done old mid between wants.net wants.seen) le

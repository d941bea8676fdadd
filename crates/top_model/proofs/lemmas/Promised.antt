-- What a run promises by its report, from its answer.
use Rattle.std.proofs.Common.{◌≡◌, ◌∙◌, ◌⊎◌, inl, inr, refl, sym, ap, subst, ℕ, Bool, true, false, Option, Some, None}
use Rattle.std.specs.Prelude.{⊤, Result, Ok, Err, if◌then◌else◌}
use Rattle.host_core.specs.HostView.{State, HostView, HasNet}
use Rattle.checkpoint_cell.specs.Cell.{Checkpoint, applying, is_due}
use Rattle.checkpoint_cell.specs.Settled.{Standing, standing}
use Rattle.engine_model.specs.Machine.{Outcome, stays, committed, commit_phase, commit_cell, commit}
use Rattle.engine_model.specs.Stations.{Near, Within, Only, Before, Either}
use Rattle.engine_model.specs.Sound.{Sound}
use Rattle.engine_model.specs.Faults.{IsOutcome}
use Rattle.checkpoint_cell.specs.declared.Phase.{Phase}
use Rattle.checkpoint_cell.specs.declared.Phase.TheVariants.{Applying, Waiting}
use Rattle.engine_model.specs.declared.CommitFault.{CommitFault}
use Rattle.engine_model.specs.declared.CommitFault.TheVariants.{Expired}
use Rattle.top_model.specs.Said.{Said, committed as said_committed}
use Rattle.top_model.specs.Orders.{Order, committing}
use Rattle.top_model.specs.Machine.{machine_of, told, commit_cause}
use Rattle.top_model.specs.Runs.{Run, Asks, Alone, Quiet, Acknowledged, reads, entry, left_at_exit}
use Rattle.top_model.specs.Told.{Answer, Told}
use Rattle.top_model.specs.Causes.{expected, Comes, Expects}
use Rattle.top_model.specs.Exits.{Leaves, KeptBy}
use Rattle.top_model.specs.Answered.{Rests, Answered}
use Rattle.top_model.specs.Promises.{IsMachine, Complete, DoneOnly}
use Rattle.top_model.specs.Headline.{Leaves as Leaving, WaitsStill, Committed}
use Rattle.top_model.specs.declared.report.Cause.{Cause}
use Rattle.top_model.specs.declared.report.Cause.TheVariants.{ReadFault, HostFault, InDoubt, KernelRefused, NotVerified, OutOfMemory}
use Rattle.top_model.proofs.lemmas.Leaving.{on_the_way}
use Rattle.top_model.proofs.lemmas.Reports.{rests, order_is, reported, is_done}

-- ---- without a fault the answer is the machine's

as_machine : (r : Run) (order : Result Order Cause) (answer : Answer) → IsOutcome (machine_of r.now order (reads r)) r.host_after answer → Told r order answer → IsMachine r order
as_machine r order answer is told = record { told = subst (Told r order) (sym is.answer) told; stands = is.after }

machine_or_memory : (r : Run) → Quiet r → (order : Result Order Cause) (answer : Answer) → Expects r order answer → Told r order answer → IsMachine r order ⊎ Told r order (Err OutOfMemory)
machine_or_memory r quiet order (Err ReadFault) is told = absurd (quiet.source is)
machine_or_memory r quiet order (Err (HostFault left)) is told = absurd (quiet.host is)
machine_or_memory r quiet order (Err InDoubt) is told = absurd (quiet.host is)
machine_or_memory r quiet order (Err (KernelRefused k n left)) is told = absurd is
machine_or_memory r quiet order (Err (NotVerified found left)) is told = absurd is
machine_or_memory r quiet order (Err OutOfMemory) is told = inr told
machine_or_memory r quiet order answer is told = inl (as_machine r order answer is told)

pub complete : (r : Run) → Answered r → Complete r
complete r a order asked asks quiet = subst (λ o. IsMachine r o ⊎ Told r o (Err OutOfMemory)) (order_is r a order asks)
    (machine_or_memory r quiet a.order a.answer (a.expects (subst (Rests r) (sym (order_is r a order asks)) asked)) a.told)

-- what is done is the machine's
pub done_only : (r : Run) → Answered r → DoneOnly r
done_only r a order asked asks done =
    let same = order_is r a order asks in
    let said = is_done r a.order a.answer a.comes (reported r a) done in
    let expects : Expects r order (Ok said.0) = subst (λ o. Expects r o (Ok said.0)) same (subst (Expects r a.order) said.1 (a.expects (subst (Rests r) (sym same) asked))) in
    record { said = said.0; is_said = expects.answer; stands = expects.after }

-- ---- a commit that is done leaves the committed state

abbrev answer_of : Result ⊤ CommitFault → Answer
answer_of result = told (λ (x : ⊤). said_committed) commit_cause result

ok_err : (said : Said) (c : Cause) → Ok said ≡ Err c → ⊥
ok_err said c e = cc

-- a change that waits, and is due or isn't
abbrev ended : Standing → Checkpoint → Bool → Outcome ⊤ CommitFault
ended e c due = if due then stays e (Err (Expired c.made c.deadline)) else record { answer = Ok tt; after = committed e }

module _ (e : Standing) (now : ℕ) (said : Said) where
  by_due : (c : Checkpoint) (due : Bool) → answer_of (ended e c due).answer ≡ Ok said → (ended e c due).after ≡ committed e
  by_due c true is = absurd (ok_err said _ (sym is))
  by_due c false is = refl

  by_phase : (c : Checkpoint) (phase : Phase) → answer_of (commit_phase now e c phase).answer ≡ Ok said → (commit_phase now e c phase).after ≡ committed e
  by_phase c Applying is = absurd (ok_err said _ (sym is))
  by_phase c Waiting is = by_due c (is_due c.made c.deadline now) is

  by_cell : (cell : Option Checkpoint) → answer_of (commit_cell now e cell).answer ≡ Ok said → (commit_cell now e cell).after ≡ committed e
  by_cell None is = absurd (ok_err said _ (sym is))
  by_cell (Some c) is = by_phase c c.phase is

  -- the machine's commit that is done leaves the network alone
  pub commit_done : answer_of (commit now e).answer ≡ Ok said → (commit now e).after ≡ committed e
  commit_done is = by_cell e.cell is

module _ (r : Run) (a : Answered r) (alone : Alone r) (asks : Asks r (Ok committing)) where
  of_commit : a.order ≡ Ok committing
  of_commit = order_is r a (Ok committing) asks

  acknowledged : (said : Said) → a.answer ≡ Ok said → Leaving r (committed (reads r))
  acknowledged said is =
      let expects : Expects r (Ok committing) (Ok said) = subst (λ o. Expects r o (Ok said)) of_commit (subst (Expects r a.order) is (a.expects (rests r a.order alone))) in
      let leaves : Leaves r (Ok committing) (Ok said) = subst (λ o. Leaves r o (Ok said)) of_commit (subst (Leaves r a.order) is (a.leaves (rests r a.order alone))) in
      let after = commit_done (reads r) r.now said expects.answer in
      record { reads = expects.after ∙ after; left = subst (λ e. Within (left_at_exit r) (Only e)) after leaves }

  stopped : expected r (Ok committing) ≡ Ok said_committed → (s : State) → r.host_after.stops.left_since r.host.stops.moment s
      → Near (Either (Before (entry r)) (Only (committed (reads r)))) (standing s)
  stopped waits s left =
      let P : Result Order Cause → Type 0 = λ o. KeptBy r o a.answer in
      let during = on_the_way (Only (commit r.now (reads r)).after) r.host r.host_after a.goes_on.lawful.stops (subst P of_commit (a.kept (rests r a.order alone))) in
      subst (λ e. Near (Either (Before (entry r)) (Only e)) (standing s)) (commit_done (reads r) r.now said_committed waits) (during s left)

-- ---- which changes are committed

-- the machine's commit is done only where a change waits in time
module _ (now : ℕ) (e : Standing) (said : Said) where
  waits_due : (c : Checkpoint) (due : Bool) → e.cell ≡ Some c → c.phase ≡ Waiting → is_due c.made c.deadline now ≡ due → answer_of (ended e c due).answer ≡ Ok said → WaitsStill now e
  waits_due c true is waits due done = absurd (ok_err said _ (sym done))
  waits_due c false is waits due done = record { checkpoint = c; is = is; waits = waits; in_time = due }

  waits_phase : (c : Checkpoint) (phase : Phase) → e.cell ≡ Some c → c.phase ≡ phase → answer_of (commit_phase now e c phase).answer ≡ Ok said → WaitsStill now e
  waits_phase c Applying is waits done = absurd (ok_err said _ (sym done))
  waits_phase c Waiting is waits done = waits_due c (is_due c.made c.deadline now) is waits refl done

  waits_cell : (cell : Option Checkpoint) → e.cell ≡ cell → answer_of (commit_cell now e cell).answer ≡ Ok said → WaitsStill now e
  waits_cell None is done = absurd (ok_err said _ (sym done))
  waits_cell (Some c) is done = waits_phase c c.phase is refl done

waits_still : (r : Run) → Answered r → r.host_tells → Asks r (Ok committing) → Acknowledged r → WaitsStill r.now (reads r)
waits_still r a tells asks done =
    let said = is_done r a.order a.answer a.comes (reported r a) done in
    let comes : Comes r (Ok committing) (Ok said.0) = subst (λ o. Comes r o (Ok said.0)) (order_is r a (Ok committing) asks) (subst (Comes r a.order) said.1 a.comes) in
    waits_cell r.now (reads r) said.0 (reads r).cell refl (comes tells).answer

applying_waiting : Applying ≡ Waiting → ⊥
applying_waiting e = cc

some_same : (x y : Checkpoint) → Some x ≡ Some y → x ≡ y
some_same x y e = cc

-- a sound host of which a stop leaves a change that waits has one network
one_net : (host : HostView) → Sound host → (s : State) → host.stops.may_leave s → (c : Checkpoint) → (standing s).cell ≡ Some c → c.phase ≡ Waiting → HasNet s.net host
one_net host sound s left c is waits = elim sound.one as (λ v. HasNet s.net host) [
  | inl one ↦ λ t other. one.1 t other ∙ sym (one.1 s left)
  | inr all ↦ let at = all.1 s left in
      absurd (applying_waiting (ap (λ (x : Checkpoint). x.phase) (some_same (applying at.0 at.1 all.0) c (sym at.2 ∙ is)) ∙ waits))
]

-- which changes are committed, and what a commit leaves
pub committed_state : (r : Run) → Answered r → Committed r
committed_state r a = record {
  only = waits_still r a;
  whole = one_net r.host_after;
  acknowledged = λ alone asks done. let said = is_done r a.order a.answer a.comes (reported r a) done in acknowledged r a alone asks said.0 said.1;
  stopped = λ alone asks waits s left. stopped r a alone asks waits s left;
}

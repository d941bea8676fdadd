-- Where no step met a fault, what the host reads as is a state that the run may reach; and the status of a step is the
-- machine's in such a state.
use Rattle.std.proofs.Common.{◌≡◌, ◌∙◌, ◌⊎◌, inl, inr, refl, sym, ap, subst, ℕ, Bool, true, false, ◌||◌, List, [], ◌∷◌, ◌++◌, Option, Some, None, append_assoc, append-nil}
use Rattle.std.specs.Prelude.{⊤, Result, Ok, Err, if◌then◌else◌}
use Rattle.std.specs.List.{list_any}
use Rattle.std.proofs.lemmas.List.Folds.{list_any-append}
use Rattle.net_model.specs.NetData.{NetData}
use Rattle.net_model.specs.declared.Link.{Link}
use Rattle.document_model.specs.declared.Refused.{Refused}
use Rattle.host_core.specs.HostView.{HostView}
use Rattle.checkpoint_cell.specs.Cell.{Checkpoint, is_due}
use Rattle.checkpoint_cell.specs.Settled.{Standing, standing, restored_to, settled, taken_back, Alike}
use Rattle.checkpoint_cell.specs.declared.Phase.{Phase}
use Rattle.checkpoint_cell.specs.declared.Phase.TheVariants.{Applying, Waiting}
use Rattle.merge_model.specs.MergedNet.{merge}
use Rattle.engine_model.specs.Machine.{Asked, asked, Outcome, stays, restore, unless_differing, saved_on, rollback_cell, rollback, recover_cell, recover, committed as committed_to, commit_phase, commit_cell, commit, merged_as, apply}
use Rattle.engine_model.specs.Differing.{differing}
use Rattle.engine_model.specs.Checks.{found, unless_other, check_net, check_saved, check_cell}
use Rattle.engine_model.specs.Stations.{Stands}
use Rattle.engine_model.specs.Faults.{IsOutcome}
use Rattle.engine_model.specs.declared.Applied.{Applied}
use Rattle.engine_model.specs.declared.ApplyFault.{ApplyFault}
use Rattle.engine_model.specs.declared.Recovered.{Recovered}
use Rattle.engine_model.specs.declared.Recovered.TheVariants.{Waiting as Waits, Restored}
use Rattle.engine_model.specs.declared.BackFault.{BackFault}
use Rattle.engine_model.specs.declared.BackFault.TheVariants as ba
use Rattle.engine_model.specs.declared.Checked.{Checked}
use Rattle.engine_model.specs.declared.CheckFault.{CheckFault}
use Rattle.engine_model.specs.declared.CommitFault.{CommitFault}
use Rattle.engine_model.specs.declared.CommitFault.TheVariants as co
use Rattle.engine_model.specs.declared.Left.TheVariants as side
use Rattle.top_model.specs.Said.{Said, committed as said_committed, rolled_back, checked, said_applied, said_recovered}
use Rattle.engine_model.specs.declared.ApplyOpts.{ApplyOpts}
use Rattle.policy_model.specs.Values.{PolicyData}
use Rattle.top_model.specs.Orders.{Order, showing, planning, evaluating, planning_policy, applying_policy, simulating, applying, committing, rolling_back, recovering, checking, making, generating}
use Rattle.top_model.specs.Machine.{told, told_of, apply_policy, apply_cause, commit_cause, back_cause, check_cause, make_on, machine_of, first_net}
use Rattle.top_model.specs.Texts.{status_of}
use Rattle.top_model.specs.Runs.{Run, reads}
use Rattle.top_model.specs.Told.{Answer, cause_of}
use Rattle.top_model.specs.Causes.{Expects}
use Rattle.top_model.specs.WholeRuns.{Ran, ApplyEnds, PolicyEnds, CommitEnds, BackEnds, MakeEnds, Ends, ReachedFrom}
use Rattle.top_model.specs.ScriptFaults.{is_fault_status, is_unread, is_fault_step, IsLoose, IsExplained, ExplainedFrom}
use Rattle.top_model.specs.declared.report.Cause.{Cause}
use Rattle.top_model.specs.declared.report.Cause.TheVariants.{ReadFault, HostFault, InDoubt, KernelRefused, NotVerified, OutOfMemory}
use Rattle.top_model.proofs.lemmas.Firm.{Firm, Saved, Closed, kin, after_of, apply_to, policy_to, closed_taken, back_to, Applies, it_waits, it_merges, applies, changed_when}
use Rattle.top_model.proofs.lemmas.Deriving.{Derives, it_waits as policy_waits, it_refuses, it_merges as policy_merges, derives}
use Rattle.top_model.proofs.lemmas.Reaching.{Led}

none_some : (net : NetData) → None ≡ Some net → ⊥
none_some net e = cc

abbrev refuses : BackFault → Result NetData BackFault
refuses fault = Err fault

err_ok : (fault : BackFault) (to : NetData) → refuses fault ≡ Ok to → ⊥
err_ok fault to e = cc

-- ---- the machine's own way is one that the table allows

module _ (now : ℕ) (e : Standing) (firm : Firm e) (rose : Type 0) where
  module _ (a : Asked) where
    abbrev OfApply : Outcome Applied ApplyFault → Type 0
    OfApply o = ApplyEnds a e rose (told said_applied apply_cause o.answer) o.after

    by_change : (from to : NetData) (no_commit : Bool) → apply a e ≡ changed_when a from to no_commit → OfApply (changed_when a from to no_commit)
    by_change from to true is = sym (ap (λ (o : Outcome Applied ApplyFault). o.after) is)
    by_change from to false is = sym (ap (λ (o : Outcome Applied ApplyFault). o.after) is)

    by_merge : (from : NetData) (m : Result NetData Refused) → settled a.now e ≡ Some (restored_to from) → apply a e ≡ merged_as a from m → OfApply (merged_as a from m)
    by_merge from (Ok to) stands is = by_change from to a.opts.no_commit is
    by_merge from (Err refused) stands is = stands

    by_applies : Applies a e → OfApply (apply a e)
    by_applies (it_waits deadline is stands) = subst OfApply (sym is) stands
    by_applies (it_merges from is stands) = subst OfApply (sym is) (by_merge from (merge from a.doc) stands is)

  module _ (p : PolicyData) (opts : ApplyOpts) where
    abbrev OfPolicy : Outcome Said Cause → Type 0
    OfPolicy o = PolicyEnds opts now (apply_policy p opts now e).after e rose o.answer o.after

    abbrev answers_as : Outcome Applied ApplyFault → Outcome Said Cause
    answers_as outcome = told_of said_applied apply_cause outcome

    policy_change : (a : Asked) (from to : NetData) (no_commit : Bool) → apply_policy p opts now e ≡ answers_as (changed_when a from to no_commit) → OfPolicy (answers_as (changed_when a from to no_commit))
    policy_change a from to true is = sym (ap (λ (o : Outcome Said Cause). o.after) is)
    policy_change a from to false is = sym (ap (λ (o : Outcome Said Cause). o.after) is)

    policy_merge : (a : Asked) (from : NetData) (m : Result NetData Refused) → settled now e ≡ Some (restored_to from) → apply_policy p opts now e ≡ answers_as (merged_as a from m) → OfPolicy (answers_as (merged_as a from m))
    policy_merge a from (Ok to) stands is = policy_change a from to a.opts.no_commit is
    policy_merge a from (Err refused) stands is = stands

    by_policy : Derives p opts now e → OfPolicy (apply_policy p opts now e)
    by_policy (policy_waits deadline is stands) = subst OfPolicy (sym is) stands
    by_policy (it_refuses from fault is stands) = subst OfPolicy (sym is) stands
    by_policy (policy_merges from doc reads is stands) = subst OfPolicy (sym is) (policy_merge (asked doc opts now) from (merge from doc) stands is)

  abbrev OfCommit : Outcome ⊤ CommitFault → Type 0
  OfCommit o = CommitEnds now e (told (λ (x : ⊤). said_committed) commit_cause o.answer) o.after

  abbrev ended : Checkpoint → Bool → Outcome ⊤ CommitFault
  ended c due = if due then stays e (Err (co.Expired c.made c.deadline)) else record { answer = Ok tt; after = committed_to e }

  by_due : (c : Checkpoint) (due : Bool) → commit now e ≡ ended c due → OfCommit (ended c due)
  by_due c true is = refl
  by_due c false is = sym (ap (λ (o : Outcome ⊤ CommitFault). o.after) is)

  by_phase : (c : Checkpoint) (phase : Phase) → commit now e ≡ commit_phase now e c phase → OfCommit (commit_phase now e c phase)
  by_phase c Applying is = refl
  by_phase c Waiting is = by_due c (is_due c.made c.deadline now) is

  by_commit : (cell : Option Checkpoint) → commit now e ≡ commit_cell now e cell → OfCommit (commit_cell now e cell)
  by_commit None is = refl
  by_commit (Some c) is = by_phase c c.phase is

  abbrev OfRollback : Outcome ⊤ BackFault → Type 0
  OfRollback o = BackEnds (rollback e).after e (told (λ (x : ⊤). rolled_back) back_cause o.answer) o.after

  by_rollback : (cell : Option Checkpoint) → e.cell ≡ cell → OfRollback (rollback_cell e cell)
  by_rollback None is = refl
  by_rollback (Some c) is =
      let w = firm.backed c is in
      let to = back_to tt e c w.saved w.goes in
      subst OfRollback (sym to) (sym (ap (λ (o : Outcome ⊤ BackFault). o.after) (ap (rollback_cell e) is ∙ to)))

  abbrev OfRecover : Outcome Recovered BackFault → Type 0
  OfRecover o = BackEnds (recover now e).after e (told said_recovered back_cause o.answer) o.after

  abbrev recovered : Checkpoint → Bool → Outcome Recovered BackFault
  recovered c taken = if taken then restore Restored e c else stays e (Ok (Waits c.deadline))

  by_taken : (c : Checkpoint) (w : Saved e c) (taken : Bool) → recover now e ≡ recovered c taken → OfRecover (recovered c taken)
  by_taken c w true is =
      let to = back_to Restored e c w.saved w.goes in
      subst OfRecover (sym to) (sym (ap (λ (o : Outcome Recovered BackFault). o.after) (is ∙ to)))
  by_taken c w false is = sym (ap (λ (o : Outcome Recovered BackFault). o.after) is)

  by_recover : (cell : Option Checkpoint) → e.cell ≡ cell → recover now e ≡ recover_cell now e cell → OfRecover (recover_cell now e cell)
  by_recover None none is = sym (ap (λ (o : Outcome Recovered BackFault). o.after) is)
  by_recover (Some c) some is = by_taken c (firm.backed c some) (taken_back now c.phase c.made c.deadline) is

  abbrev OfMake : List Link → Option NetData → Type 0
  OfMake links net = MakeEnds (first_net links) e (make_on links e net).answer (make_on links e net).after

  by_order : (order : Result Order Cause) → Ends now e rose order (machine_of now order e).answer (after_of now order e)
  by_order (Ok (applying doc opts)) = by_applies (asked doc opts now) (applies (asked doc opts now) e firm)
  by_order (Ok (applying_policy p opts)) = by_policy p opts (derives p opts now e firm)
  by_order (Ok (evaluating p)) = refl
  by_order (Ok (planning_policy p in_batch)) = refl
  by_order (Ok committing) = by_commit e.cell refl
  by_order (Ok rolling_back) = by_rollback e.cell refl
  by_order (Ok recovering) = by_recover e.cell refl refl
  by_order (Ok (making links)) = let P : Option NetData → Type 0 = OfMake links in subst P (sym firm.is_net) refl
  by_order (Ok checking) = refl
  by_order (Ok (showing only json)) = refl
  by_order (Ok (planning doc in_batch)) = refl
  by_order (Ok (simulating calls)) = refl
  by_order (Ok (generating devices first second)) = refl
  by_order (Err refusal) = refl

  pub machine_ends : (order : Result Order Cause) (answer : Answer) → (machine_of now order e).answer ≡ answer → Ends now e rose order answer (after_of now order e)
  machine_ends order answer is = let P : Answer → Type 0 = λ x. Ends now e rose order x (after_of now order e) in subst P is (by_order order)

-- ---- the statuses of two that settle alike

abbrev status_at : ℕ → Result Order Cause → Standing → ℕ
status_at now order e = status_of (cause_of (machine_of now order e).answer)

module _ (now : ℕ) (e : Standing) (saved : NetData) (firm : Firm e) (closed : Closed saved e) where
  abbrev commit_status : Outcome ⊤ CommitFault → ℕ
  commit_status o = status_of (cause_of (told (λ (x : ⊤). said_committed) commit_cause o.answer))

  abbrev ended_by : Checkpoint → Bool → Outcome ⊤ CommitFault
  ended_by c due = if due then stays e (Err (co.Expired c.made c.deadline)) else record { answer = Ok tt; after = committed_to e }

  commit_three_phase : (c : Checkpoint) → e.cell ≡ Some c → (phase : Phase) → c.phase ≡ phase → commit_status (commit_phase now e c phase) ≡ 3
  commit_three_phase c is Applying phase = refl
  commit_three_phase c is Waiting phase =
      ap (λ (b : Bool). commit_status (ended_by c b)) (sym (ap (λ (p : Phase). taken_back now p c.made c.deadline) phase) ∙ (closed_taken e saved firm.backed closed c is now).0)

  commit_three_cell : (cell : Option Checkpoint) → e.cell ≡ cell → commit_status (commit_cell now e cell) ≡ 3
  commit_three_cell None is = refl
  commit_three_cell (Some c) is = commit_three_phase c is c.phase refl

  -- a commit is refused
  commit_three : status_at now (Ok committing) e ≡ 3
  commit_three = commit_three_cell e.cell refl

  abbrev recover_status : Outcome Recovered BackFault → ℕ
  recover_status o = status_of (cause_of (told said_recovered back_cause o.answer))

  abbrev recovered_by : Checkpoint → Bool → Outcome Recovered BackFault
  recovered_by c taken = if taken then restore Restored e c else stays e (Ok (Waits c.deadline))

  recover_zero_cell : (cell : Option Checkpoint) → e.cell ≡ cell → recover_status (recover_cell now e cell) ≡ 0
  recover_zero_cell None is = refl
  recover_zero_cell (Some c) is =
      let t = closed_taken e saved firm.backed closed c is now in
      ap (λ (b : Bool). recover_status (recovered_by c b)) t.0 ∙ ap recover_status (back_to Restored e c saved t.1)

  -- a recovery is done
  recover_zero : status_at now (Ok recovering) e ≡ 0
  recover_zero = recover_zero_cell e.cell refl

  abbrev check_status : Result Checked CheckFault → ℕ
  check_status found = status_of (cause_of (told checked check_cause found))

  check_alike : (seen : Checked) (from to : NetData) (names : List (List ℕ)) → unless_differing from names ≡ Ok to → check_status (unless_other seen names) ≡ 0
  check_alike seen from to [] is = refl
  check_alike seen from to (name ∷ names) is = absurd (err_ok (ba.HardwareDiffers (name ∷ names)) to is)

  check_on : (c : Checkpoint) (from to : NetData) (net : Option NetData) → saved_on (Some from) net ≡ Ok to → check_status (check_net (Some c) (Some from) net) ≡ 0
  check_on c from to None is = absurd (err_ok (ba.Damaged 0) to is)
  check_on c from to (Some net) is = check_alike (found net (Some c)) from to (differing from net) is

  check_with : (c : Checkpoint) (to : NetData) (from net : Option NetData) → saved_on from net ≡ Ok to → check_status (check_saved net c from) ≡ 0
  check_with c to None net is = absurd (err_ok (ba.Damaged 1) to is)
  check_with c to (Some from) net is = check_on c from to net is

  check_bare : (runs : NetData) (net : Option NetData) → net ≡ Some runs → check_status (check_net None None net) ≡ 0
  check_bare runs None is = absurd (none_some runs is)
  check_bare runs (Some net) is = refl

  check_zero_cell : (cell : Option Checkpoint) → e.cell ≡ cell → check_status (check_cell e.net cell) ≡ 0
  check_zero_cell None is = check_bare firm.net e.net firm.is_net
  check_zero_cell (Some c) is = let w = firm.backed c is in check_with c w.saved c.net e.net w.goes

  -- a check is done
  check_zero : status_at now (Ok checking) e ≡ 0
  check_zero = check_zero_cell e.cell refl

  make_three : (links : List Link) → status_at now (Ok (making links)) e ≡ 3
  make_three links = ap (λ (n : Option NetData). status_of (cause_of (make_on links e n).answer)) firm.is_net

module _ (now : ℕ) (e r : Standing) (firm : Firm e) (other : Firm r) (like : Alike r e) where
  abbrev SameStatus : Result Order Cause → Type 0
  SameStatus order = IsLoose order ⊎ (status_at now order r ≡ status_at now order e)

  closed_status : (saved : NetData) → Closed saved r → Closed saved e → (order : Result Order Cause) → SameStatus order
  closed_status saved closed_r closed_e (Ok (applying doc opts)) =
      let a = asked doc opts now in
      inr (ap (λ (o : Outcome Applied ApplyFault). status_of (cause_of (told said_applied apply_cause o.answer))) (apply_to r saved other.backed closed_r a ∙ sym (apply_to e saved firm.backed closed_e a)))
  closed_status saved closed_r closed_e (Ok (applying_policy p opts)) =
      inr (ap (λ (o : Outcome Said Cause). status_of (cause_of o.answer)) (policy_to r saved other.backed closed_r p opts now ∙ sym (policy_to e saved firm.backed closed_e p opts now)))
  closed_status saved closed_r closed_e (Ok (evaluating p)) = inl tt
  closed_status saved closed_r closed_e (Ok (planning_policy p in_batch)) = inl tt
  closed_status saved closed_r closed_e (Ok committing) = inr (commit_three now r saved other closed_r ∙ sym (commit_three now e saved firm closed_e))
  closed_status saved closed_r closed_e (Ok rolling_back) = inl tt
  closed_status saved closed_r closed_e (Ok recovering) = inr (recover_zero now r saved other closed_r ∙ sym (recover_zero now e saved firm closed_e))
  closed_status saved closed_r closed_e (Ok checking) = inr (check_zero now r saved other closed_r ∙ sym (check_zero now e saved firm closed_e))
  closed_status saved closed_r closed_e (Ok (making links)) = inr (make_three now r saved other closed_r links ∙ sym (make_three now e saved firm closed_e links))
  closed_status saved closed_r closed_e (Ok (showing only json)) = inl tt
  closed_status saved closed_r closed_e (Ok (planning doc in_batch)) = inl tt
  closed_status saved closed_r closed_e (Ok (simulating calls)) = inl tt
  closed_status saved closed_r closed_e (Ok (generating devices first second)) = inr refl
  closed_status saved closed_r closed_e (Err refusal) = inr refl

  same_status : (order : Result Order Cause) → SameStatus order
  same_status order = elim (kin e r like firm.backed) as (λ v. SameStatus order) [
    | inl same ↦ inr (ap (status_at now order) same)
    | inr closed ↦ closed_status closed.0 closed.1 closed.2 order
  ]

-- ---- a step

-- the status is that of its answer, or of a sink's fault
abbrev pub IsStatus : ℕ → Answer → Type 0
IsStatus status answer = (status ≡ 7) ⊎ (status ≡ status_of (cause_of answer))

abbrev pub Faulty : ℕ → Answer → Type 0
Faulty status answer = (is_fault_status status || is_unread answer) ≡ true

module _ (r : Run) (order : Result Order Cause) (status : ℕ) where
  of_status : (answer : Answer) (n : ℕ) → status ≡ n → (is_fault_status n || is_unread answer) ≡ true → Faulty status answer
  of_status answer n is faulty = ap (λ (s : ℕ). is_fault_status s || is_unread answer) is ∙ faulty

  abbrev pub FaultyOr : Answer → Type 0
  FaultyOr answer = Faulty status answer ⊎ (status ≡ 8) ⊎ IsOutcome (machine_of r.now order (reads r)) r.host_after answer

  told_as : (answer : Answer) → Expects r order answer → status ≡ status_of (cause_of answer) → FaultyOr answer
  told_as (Err ReadFault) expects is = inl (of_status (Err ReadFault) 6 is refl)
  told_as (Err (HostFault side.NotBegun)) expects is = inl (of_status (Err (HostFault side.NotBegun)) 5 is refl)
  told_as (Err (HostFault side.RolledBack)) expects is = inl (of_status (Err (HostFault side.RolledBack)) 4 is refl)
  told_as (Err (HostFault side.Pending)) expects is = inl (of_status (Err (HostFault side.Pending)) 5 is refl)
  told_as (Err InDoubt) expects is = inl (of_status (Err InDoubt) 10 is refl)
  told_as (Err (KernelRefused k n left)) expects is = absurd expects
  told_as (Err (NotVerified found left)) expects is = absurd expects
  told_as (Err OutOfMemory) expects is = inr (inl is)
  told_as answer expects is = inr (inr expects)

  pub faulty_or : (answer : Answer) → Expects r order answer → IsStatus status answer → FaultyOr answer
  faulty_or answer expects (inl seven) = inl (of_status answer 7 seven refl)
  faulty_or answer expects (inr is) = told_as answer expects is

module _ (first : Stands) (rans : List Ran) (host : HostView) where
  -- where no step met a fault, what the host reads as is a state that the run may reach
  abbrev pub IsExact : Type 0
  IsExact = list_any is_fault_step rans ≡ false → ReachedFrom first rans (standing host.state)

clash : true ≡ false → ⊥
clash e = cc

or_false : (a b : Bool) → (a || b) ≡ false → (a ≡ false) × (b ≡ false)
or_false true b is = absurd (clash is)
or_false false b is = (refl, is)

pub none_faulty : (rans : List Ran) (ran : Ran) → list_any is_fault_step (rans ++ ran ∷ []) ≡ false → (list_any is_fault_step rans ≡ false) × (is_fault_step ran ≡ false)
none_faulty rans ran is =
    let both = or_false (list_any is_fault_step rans) (is_fault_step ran || false) (sym (list_any-append is_fault_step rans (ran ∷ [])) ∙ is) in
    (both.0, (or_false (is_fault_step ran) false both.1).0)

module _ (r : Run) (first : Stands) (rans : List Ran) (here : Led (ReachedFrom first rans) (reads r)) (firm : Firm (reads r)) (ran : Ran) (at : ran.step.at ≡ r.now)
    (outcome : FaultyOr r ran.order ran.status ran.answer) (shown : IsStatus ran.status ran.answer) (exact : IsExact first rans r.host) where
  explained_by : IsOutcome (machine_of r.now ran.order (reads r)) r.host_after ran.answer → ran.status ≡ status_of (cause_of ran.answer) → (faulty : Bool) → list_any is_fault_step rans ≡ faulty → IsExplained first rans ran
  explained_by is status true faulty = elim (same_status r.now (reads r) here.station firm here.firm here.like ran.order) as (λ v. IsExplained first rans ran) [
    | inl loose ↦ inr (inr (inr (faulty, loose)))
    | inr same ↦ inr (inr (inl (here.station, here.is, status ∙ ap (λ (x : Answer). status_of (cause_of x)) (sym is.answer) ∙ sym same ∙ ap (λ t. status_at t ran.order here.station) (sym at))))
  ]
  explained_by is status false faulty =
      inr (inr (inl (reads r, exact faulty, status ∙ ap (λ (x : Answer). status_of (cause_of x)) (sym is.answer) ∙ ap (λ t. status_at t ran.order (reads r)) (sym at))))

  -- a step is explained by the states before it
  pub explained : IsExplained first rans ran
  explained = elim outcome as (λ v. IsExplained first rans ran) [
    | inl faulty ↦ inl faulty
    | inr more ↦ elim more as (λ v. IsExplained first rans ran) [
      | inl eight ↦ inr (inl eight)
      | inr is ↦ elim shown as (λ v. IsExplained first rans ran) [
        | inl seven ↦ inl (of_status r ran.order ran.status ran.answer 7 seven refl)
        | inr status ↦ explained_by is status (list_any is_fault_step rans) refl
      ]
    ]
  ]

-- one step more is explained
pub explained_more : (first : Stands) (front rans : List Ran) (ran : Ran) → ExplainedFrom first front rans → IsExplained first (front ++ rans) ran → ExplainedFrom first front (rans ++ ran ∷ [])
explained_more first front [] ran so_far is = (subst (λ (l : List Ran). IsExplained first l ran) (append-nil front) is, tt)
explained_more first front (r ∷ rs) ran so_far is =
    (so_far.0, explained_more first (front ++ r ∷ []) rs ran so_far.1 (subst (λ (l : List Ran). IsExplained first l ran) (sym (append_assoc front (r ∷ []) rs)) is))

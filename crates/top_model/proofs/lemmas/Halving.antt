-- A change that waits in a whole run is the change of one of its applies.
use Rattle.std.proofs.Common.{◌≡◌, ◌∙◌, ◌⊎◌, inl, inr, refl, sym, ap, subst, arith, ℕ, ◌<◌, Bool, true, false, List, [], ◌∷◌, ◌++◌, Option, Some, None, append_assoc}
use Rattle.std.specs.Prelude.{⊤, Result, Ok, Err, if◌then◌else◌}
use Rattle.std.proofs.lemmas.Bool.Decides.{nat_tests}
use Rattle.net_model.specs.NetData.{NetData}
use Rattle.document_model.specs.declared.Doc.{Doc}
use Rattle.document_model.specs.declared.Refused.{Refused}
use Rattle.host_core.specs.Faults.{Rose}
use Rattle.checkpoint_cell.specs.Cell.{Checkpoint, is_due}
use Rattle.checkpoint_cell.specs.Settled.{Standing, restored_to, taken_back, settled, Alike}
use Rattle.checkpoint_cell.specs.declared.Phase.{Phase}
use Rattle.checkpoint_cell.specs.declared.Phase.TheVariants.{Applying, Waiting}
use Rattle.merge_model.specs.MergedNet.{merge}
use Rattle.engine_model.specs.Machine.{Asked, asked, Outcome, stays, restored_as, saved_on, rollback_cell, rollback, recover_cell, recover, committed, commit_phase, commit_cell, commit, change, merged_as, apply_step, apply, restore}
use Rattle.engine_model.specs.Stations.{at}
use Rattle.engine_model.specs.declared.ApplyOpts.{ApplyOpts}
use Rattle.engine_model.specs.declared.Recovered.{Recovered}
use Rattle.engine_model.specs.declared.Recovered.TheVariants.{Waiting as Waits, Restored}
use Rattle.engine_model.specs.declared.BackFault.{BackFault}
use Rattle.engine_model.specs.declared.CommitFault.{CommitFault}
use Rattle.engine_model.specs.declared.CommitFault.TheVariants as co
use Rattle.engine_model.specs.declared.Left.TheVariants as side
use Rattle.policy_model.specs.Values.{PolicyData}
use Rattle.top_model.specs.Orders.{Order, document_on, showing, planning, evaluating, planning_policy, applying_policy, simulating, applying, committing, rolling_back, recovering, checking, making, generating}
use Rattle.top_model.specs.Machine.{apply_read, apply_on, apply_settling, apply_policy, first_net}
use Rattle.top_model.specs.Told.{Answer}
use Rattle.top_model.specs.Exits.{Stations}
use Rattle.top_model.specs.WholeRuns.{Ran, ApplyEnds, PolicyEnds, CommitEnds, BackEnds, MakeEnds, Ends, MayPass, IsChangeOf, Among}
use Rattle.top_model.specs.declared.report.Cause.{Cause}
use Rattle.top_model.specs.declared.report.Cause.TheVariants.{DocRefused, MergeRefused, Pending, HostFault, InDoubt, OutOfMemory}
use Rattle.top_model.proofs.lemmas.Firm.{IsBacked, by_taken_back, settled_some, changed_when, self_or_back}

some_none : {A : Type 0} (x : A) → None ≡ Some x → ⊥
some_none x e = cc

applying_waiting : Applying ≡ Waiting → ⊥
applying_waiting e = cc

-- it has a network
abbrev pub Has : Standing → Type 0
Has e = (net : NetData) × (e.net ≡ Some net)

-- what a step may make of a state: it goes back to a network, stays, loses its checkpoint, or is the change of an apply
abbrev Grown : Ran → Standing → Standing → Type 0
Grown ran e x = ((saved : NetData) × (x ≡ restored_to saved)) ⊎ (x ≡ e) ⊎ (x ≡ committed e) ⊎ IsChangeOf ran x

grown_settled : (ran : Ran) (now : ℕ) (e x : Standing) → settled now e ≡ Some x → Grown ran e x
grown_settled ran now e x is = elim (self_or_back now e x is) as (λ v. Grown ran e x) [ inl same ↦ inr (inl (sym same)) | inr back ↦ inl (back.0, back.1) ]

-- ---- an apply

module _ (ran : Ran) (doc : Doc) (opts : ApplyOpts) (is : ran.order ≡ Ok (applying doc opts)) (e : Standing) where
  abbrev Ask : Asked
  Ask = asked doc opts ran.step.at

  grown_merge : (from : NetData) (m : Result NetData Refused) → merge from doc ≡ m → Grown ran e (merged_as Ask from m).after
  grown_merge from (Ok to) merges = inr (inr (inr (record { doc = doc; opts = opts; from = from; is = inl is; to = to; merges = merges; stands = refl })))
  grown_merge from (Err refused) merges = inl (from, refl)

  grown_change : (net : Option NetData) → Grown ran e (change Ask e net).after
  grown_change None = inr (inl refl)
  grown_change (Some from) = grown_merge from (merge from doc) refl

  grown_restore : (m : Result NetData BackFault) → Grown ran e (apply_step Ask (restored_as Restored e m)).after
  grown_restore (Ok saved) = grown_merge saved (merge saved doc) refl
  grown_restore (Err fault) = inr (inl refl)

  abbrev recovered : Checkpoint → Bool → Outcome Recovered BackFault
  recovered c taken = if taken then restore Restored e c else stays e (Ok (Waits c.deadline))

  grown_taken : (c : Checkpoint) (taken : Bool) → Grown ran e (apply_step Ask (recovered c taken)).after
  grown_taken c true = grown_restore (saved_on c.net e.net)
  grown_taken c false = inr (inl refl)

  grown_cell : (cell : Option Checkpoint) → Grown ran e (apply_step Ask (recover_cell Ask.now e cell)).after
  grown_cell None = grown_change e.net
  grown_cell (Some c) = grown_taken c (taken_back Ask.now c.phase c.made c.deadline)

  grown_apply : (x : Standing) → x ≡ (apply Ask e).after → Grown ran e x
  grown_apply x same = subst (Grown ran e) (sym same) (grown_cell e.cell)

  grown_ends : (rose : Type 0) (answer : Answer) (x : Standing) → ApplyEnds Ask e rose answer x → Grown ran e x
  grown_ends rose (Ok said) x ends = grown_apply x ends
  grown_ends rose (Err (Pending d)) x ends = grown_settled ran Ask.now e x ends
  grown_ends rose (Err (MergeRefused refused)) x ends = grown_settled ran Ask.now e x ends
  grown_ends rose (Err (HostFault side.RolledBack)) x ends = grown_settled ran Ask.now e x ends
  grown_ends rose (Err (HostFault side.Pending)) x (inl stood) = inr (inl stood.1)
  grown_ends rose (Err (HostFault side.Pending)) x (inr (inl settles)) = grown_settled ran Ask.now e x settles
  grown_ends rose (Err (HostFault side.Pending)) x (inr (inr marked)) = grown_apply x marked.2
  grown_ends rose (Err (HostFault side.NotBegun)) x ends = inr (inl ends)
  grown_ends rose (Err OutOfMemory) x (inl stood) = inr (inl stood)
  grown_ends rose (Err OutOfMemory) x (inr (inl settles)) = grown_settled ran Ask.now e x settles
  grown_ends rose (Err OutOfMemory) x (inr (inr marked)) = grown_apply x marked.2
  grown_ends rose (Err InDoubt) x (inl settles) = grown_settled ran Ask.now e x settles
  grown_ends rose (Err InDoubt) x (inr changes) = grown_apply x changes
  grown_ends rose (Err cause) x ends = inr (inl ends)

-- ---- an apply of a policy

module _ (ran : Ran) (p : PolicyData) (opts : ApplyOpts) (is : ran.order ≡ Ok (applying_policy p opts)) (e : Standing) where
  abbrev At : ℕ
  At = ran.step.at

  policy_merge : (from : NetData) (doc : Doc) → document_on p from ≡ Ok doc → (m : Result NetData Refused) → merge from doc ≡ m → Grown ran e (merged_as (asked doc opts At) from m).after
  policy_merge from doc reads (Ok to) merges = inr (inr (inr (record { doc = doc; opts = opts; from = from; is = inr (p, is, reads); to = to; merges = merges; stands = refl })))
  policy_merge from doc reads (Err refused) merges = inl (from, refl)

  policy_read : (from : NetData) (m : Result Doc Cause) → document_on p from ≡ m → Grown ran e (apply_read opts At (restored_to from) m).after
  policy_read from (Ok doc) reads = policy_merge from doc reads (merge from doc) refl
  policy_read from (Err cause) reads = inl (from, refl)

  policy_net : e.cell ≡ None → (net : Option NetData) → e.net ≡ net → Grown ran e (apply_on p opts At e net).after
  policy_net none None net = inr (inl refl)
  policy_net none (Some from) net =
      let same : e ≡ restored_to from = λ i. record { net = net i; cell = none i } in
      subst (λ (x : Standing). Grown ran e (apply_read opts At x (document_on p from)).after) (sym same) (policy_read from (document_on p from) refl)

  policy_restore : (m : Result NetData BackFault) → Grown ran e (apply_settling p opts At (restored_as Restored e m)).after
  policy_restore (Ok saved) = policy_read saved (document_on p saved) refl
  policy_restore (Err fault) = inr (inl refl)

  abbrev settled_by : Checkpoint → Bool → Outcome Recovered BackFault
  settled_by c taken = if taken then restore Restored e c else stays e (Ok (Waits c.deadline))

  policy_taken : (c : Checkpoint) (taken : Bool) → Grown ran e (apply_settling p opts At (settled_by c taken)).after
  policy_taken c true = policy_restore (saved_on c.net e.net)
  policy_taken c false = inr (inl refl)

  policy_cell : (cell : Option Checkpoint) → e.cell ≡ cell → Grown ran e (apply_settling p opts At (recover_cell At e cell)).after
  policy_cell None none = policy_net none e.net refl
  policy_cell (Some c) some = policy_taken c (taken_back At c.phase c.made c.deadline)

  grown_policy : (x : Standing) → x ≡ (apply_policy p opts At e).after → Grown ran e x
  grown_policy x same = subst (Grown ran e) (sym same) (policy_cell e.cell refl)

  policy_ends : (rose : Type 0) (answer : Answer) (x : Standing) → PolicyEnds opts At (apply_policy p opts At e).after e rose answer x → Grown ran e x
  policy_ends rose (Ok said) x ends = grown_policy x ends
  policy_ends rose (Err (Pending d)) x ends = grown_settled ran At e x ends
  policy_ends rose (Err (DocRefused fault)) x ends = grown_settled ran At e x ends
  policy_ends rose (Err (MergeRefused refused)) x ends = grown_settled ran At e x ends
  policy_ends rose (Err (HostFault side.RolledBack)) x ends = grown_settled ran At e x ends
  policy_ends rose (Err (HostFault side.Pending)) x (inl stood) = inr (inl stood.1)
  policy_ends rose (Err (HostFault side.Pending)) x (inr (inl settles)) = grown_settled ran At e x settles
  policy_ends rose (Err (HostFault side.Pending)) x (inr (inr marked)) = grown_policy x marked.2
  policy_ends rose (Err (HostFault side.NotBegun)) x ends = inr (inl ends)
  policy_ends rose (Err OutOfMemory) x (inl stood) = inr (inl stood)
  policy_ends rose (Err OutOfMemory) x (inr (inl settles)) = grown_settled ran At e x settles
  policy_ends rose (Err OutOfMemory) x (inr (inr marked)) = grown_policy x marked.2
  policy_ends rose (Err InDoubt) x (inl settles) = grown_settled ran At e x settles
  policy_ends rose (Err InDoubt) x (inr changes) = grown_policy x changes
  policy_ends rose (Err cause) x ends = inr (inl ends)

-- ---- a commit, and what takes back

module _ (ran : Ran) (e : Standing) where
  abbrev ended : Checkpoint → Bool → Outcome ⊤ CommitFault
  ended c due = if due then stays e (Err (co.Expired c.made c.deadline)) else record { answer = Ok tt; after = committed e }

  grown_ended : (c : Checkpoint) (due : Bool) → Grown ran e (ended c due).after
  grown_ended c true = inr (inl refl)
  grown_ended c false = inr (inr (inl refl))

  grown_phase : (now : ℕ) (c : Checkpoint) (phase : Phase) → Grown ran e (commit_phase now e c phase).after
  grown_phase now c Applying = inr (inl refl)
  grown_phase now c Waiting = grown_ended c (is_due c.made c.deadline now)

  grown_commit_cell : (now : ℕ) (cell : Option Checkpoint) → Grown ran e (commit_cell now e cell).after
  grown_commit_cell now None = inr (inl refl)
  grown_commit_cell now (Some c) = grown_phase now c c.phase

  grown_commit : (now : ℕ) (x : Standing) → x ≡ (commit now e).after → Grown ran e x
  grown_commit now x same = subst (Grown ran e) (sym same) (grown_commit_cell now e.cell)

  grown_back : {A : Type 0} (done : A) (m : Result NetData BackFault) → Grown ran e (restored_as done e m).after
  grown_back done (Ok saved) = inl (saved, refl)
  grown_back done (Err fault) = inr (inl refl)

  grown_rollback_cell : (cell : Option Checkpoint) → Grown ran e (rollback_cell e cell).after
  grown_rollback_cell None = inr (inl refl)
  grown_rollback_cell (Some c) = grown_back tt (saved_on c.net e.net)

  grown_rollback : (x : Standing) → x ≡ (rollback e).after → Grown ran e x
  grown_rollback x same = subst (Grown ran e) (sym same) (grown_rollback_cell e.cell)

  abbrev taken_or_not : Checkpoint → Bool → Outcome Recovered BackFault
  taken_or_not c taken = if taken then restore Restored e c else stays e (Ok (Waits c.deadline))

  grown_recovered : (c : Checkpoint) (taken : Bool) → Grown ran e (taken_or_not c taken).after
  grown_recovered c true = grown_back Restored (saved_on c.net e.net)
  grown_recovered c false = inr (inl refl)

  grown_recover_cell : (now : ℕ) (cell : Option Checkpoint) → Grown ran e (recover_cell now e cell).after
  grown_recover_cell now None = inr (inl refl)
  grown_recover_cell now (Some c) = grown_recovered c (taken_back now c.phase c.made c.deadline)

  grown_recover : (now : ℕ) (x : Standing) → x ≡ (recover now e).after → Grown ran e x
  grown_recover now x same = subst (Grown ran e) (sym same) (grown_recover_cell now e.cell)

  commit_ends : (now : ℕ) (answer : Answer) (x : Standing) → CommitEnds now e answer x → Grown ran e x
  commit_ends now (Ok said) x ends = grown_commit now x ends
  commit_ends now (Err InDoubt) x (inl stood) = inr (inl stood)
  commit_ends now (Err InDoubt) x (inr ended) = grown_commit now x ended
  commit_ends now (Err cause) x ends = inr (inl ends)

  back_ends : (after : Standing) → ((y : Standing) → y ≡ after → Grown ran e y) → (answer : Answer) (x : Standing) → BackEnds after e answer x → Grown ran e x
  back_ends after to (Ok said) x ends = to x ends
  back_ends after to (Err (HostFault side.Pending)) x (inl stood) = inr (inl stood)
  back_ends after to (Err (HostFault side.Pending)) x (inr ended) = to x ended
  back_ends after to (Err (HostFault side.NotBegun)) x ends = inr (inl ends)
  back_ends after to (Err (HostFault side.RolledBack)) x ends = inr (inl ends)
  back_ends after to (Err OutOfMemory) x (inl stood) = inr (inl stood)
  back_ends after to (Err OutOfMemory) x (inr ended) = to x ended
  back_ends after to (Err cause) x ends = inr (inl ends)

  make_ends : (first : NetData) (answer : Answer) (x : Standing) → MakeEnds first e answer x → Grown ran e x
  make_ends first (Ok said) x ends = inl (first, ends)
  make_ends first (Err cause) x ends = inr (inl ends)

  -- ---- at the exit of a step, and at its stations

  grown_exit : (rose : Type 0) (order : Result Order Cause) → ran.order ≡ order → (x : Standing) → Ends ran.step.at e rose order ran.answer x → Grown ran e x
  grown_exit rose (Ok (applying doc opts)) is x ends = grown_ends ran doc opts is e rose ran.answer x ends
  grown_exit rose (Ok (applying_policy p opts)) is x ends = policy_ends ran p opts is e rose ran.answer x ends
  grown_exit rose (Ok (evaluating p)) is x ends = inr (inl ends)
  grown_exit rose (Ok (planning_policy p in_batch)) is x ends = inr (inl ends)
  grown_exit rose (Ok committing) is x ends = commit_ends ran.step.at ran.answer x ends
  grown_exit rose (Ok rolling_back) is x ends = back_ends (rollback e).after grown_rollback ran.answer x ends
  grown_exit rose (Ok recovering) is x ends = back_ends (recover ran.step.at e).after (grown_recover ran.step.at) ran.answer x ends
  grown_exit rose (Ok (making links)) is x ends = make_ends (first_net links) ran.answer x ends
  grown_exit rose (Ok checking) is x ends = inr (inl ends)
  grown_exit rose (Ok (showing only json)) is x ends = inr (inl ends)
  grown_exit rose (Ok (planning doc in_batch)) is x ends = inr (inl ends)
  grown_exit rose (Ok (simulating calls)) is x ends = inr (inl ends)
  grown_exit rose (Ok (generating devices first second)) is x ends = inr (inl ends)
  grown_exit rose (Err refusal) is x ends = inr (inl ends)

  grown_station : Has e → (order : Result Order Cause) → ran.order ≡ order → (x : Standing) → Stations ran.step.at (at e) order x → Grown ran e x
  grown_station has (Ok (making links)) is x (inl stood) = inr (inl stood)
  grown_station has (Ok (making links)) is x (inr made) = absurd (some_none has.0 (sym made.0 ∙ has.1))
  grown_station has (Ok (applying doc opts)) is x (inl stood) = inr (inl stood)
  grown_station has (Ok (applying doc opts)) is x (inr (inl settles)) = grown_settled ran ran.step.at e x settles
  grown_station has (Ok (applying doc opts)) is x (inr (inr changes)) = grown_apply ran doc opts is e x changes
  grown_station has (Ok (applying_policy p opts)) is x (inl stood) = inr (inl stood)
  grown_station has (Ok (applying_policy p opts)) is x (inr (inl settles)) = grown_settled ran ran.step.at e x settles
  grown_station has (Ok (applying_policy p opts)) is x (inr (inr changes)) = grown_policy ran p opts is e x changes
  grown_station has (Ok (evaluating p)) is x (inl stood) = inr (inl stood)
  grown_station has (Ok (evaluating p)) is x (inr stood) = inr (inl stood)
  grown_station has (Ok (planning_policy p in_batch)) is x (inl stood) = inr (inl stood)
  grown_station has (Ok (planning_policy p in_batch)) is x (inr stood) = inr (inl stood)
  grown_station has (Ok committing) is x (inl stood) = inr (inl stood)
  grown_station has (Ok committing) is x (inr ended) = grown_commit ran.step.at x ended
  grown_station has (Ok rolling_back) is x (inl stood) = inr (inl stood)
  grown_station has (Ok rolling_back) is x (inr ended) = grown_rollback x ended
  grown_station has (Ok recovering) is x (inl stood) = inr (inl stood)
  grown_station has (Ok recovering) is x (inr ended) = grown_recover ran.step.at x ended
  grown_station has (Ok checking) is x (inl stood) = inr (inl stood)
  grown_station has (Ok checking) is x (inr stood) = inr (inl stood)
  grown_station has (Ok (showing only json)) is x (inl stood) = inr (inl stood)
  grown_station has (Ok (showing only json)) is x (inr stood) = inr (inl stood)
  grown_station has (Ok (planning doc in_batch)) is x (inl stood) = inr (inl stood)
  grown_station has (Ok (simulating calls)) is x (inl stood) = inr (inl stood)
  grown_station has (Ok (planning doc in_batch)) is x (inr stood) = inr (inl stood)
  grown_station has (Ok (simulating calls)) is x (inr stood) = inr (inl stood)
  grown_station has (Ok (generating devices first second)) is x (inl stood) = inr (inl stood)
  grown_station has (Ok (generating devices first second)) is x (inr stood) = inr (inl stood)
  grown_station has (Err refusal) is x (inl stood) = inr (inl stood)
  grown_station has (Err refusal) is x (inr stood) = inr (inl stood)

-- ---- a network stays

net_when : (a : Asked) (from to : NetData) (no_commit : Bool) → (changed_when a from to no_commit).after.net ≡ Some to
net_when a from to true = refl
net_when a from to false = refl

grown_has : (ran : Ran) (e x : Standing) → Has e → Grown ran e x → Has x
grown_has ran e x has (inl back) = (back.0, ap (λ (s : Standing). s.net) back.1)
grown_has ran e x has (inr (inl stood)) = (has.0, ap (λ (s : Standing). s.net) stood ∙ has.1)
grown_has ran e x has (inr (inr (inl ended))) = (has.0, ap (λ (s : Standing). s.net) ended ∙ has.1)
grown_has ran e x has (inr (inr (inr change))) = (change.to, ap (λ (s : Standing). s.net) change.stands ∙ net_when (asked change.doc change.opts ran.step.at) change.from change.to change.opts.no_commit)

-- ---- who wrote what waits

-- what waits is the change of one of these
abbrev pub Wrote : List Ran → Standing → Type 0
Wrote rans x = (c : Checkpoint) → x.cell ≡ Some c → c.phase ≡ Waiting → Among (λ ran. IsChangeOf ran x) rans

among_more : (P : Ran → Type 0) (rans more : List Ran) → Among P rans → Among P (rans ++ more)
among_more P rans more a = record {
  front = a.front;
  one = a.one;
  rest = a.rest ++ more;
  all = ap (λ (l : List Ran). l ++ more) a.all ∙ append_assoc a.front (a.one ∷ a.rest) more;
  is = a.is;
}

wrote_more : (rans more : List Ran) (x : Standing) → Wrote rans x → Wrote (rans ++ more) x
wrote_more rans more x wrote c is waits = among_more (λ ran. IsChangeOf ran x) rans more (wrote c is waits)

wrote_step : (done : List Ran) (ran : Ran) (e x : Standing) → Wrote done e → Grown ran e x → Wrote (done ++ ran ∷ []) x
wrote_step done ran e x wrote (inl back) c is waits = absurd (some_none c (sym (ap (λ (s : Standing). s.cell) back.1) ∙ is))
wrote_step done ran e x wrote (inr (inl stood)) c is waits = subst (Wrote (done ++ ran ∷ [])) (sym stood) (wrote_more done (ran ∷ []) e wrote) c is waits
wrote_step done ran e x wrote (inr (inr (inl ended))) c is waits = absurd (some_none c (sym (ap (λ (s : Standing). s.cell) ended) ∙ is))
wrote_step done ran e x wrote (inr (inr (inr change))) c is waits = record { front = done; one = ran; rest = []; all = refl; is = change }

pub wrote_pass : (done rans : List Ran) (e x : Standing) → Has e → Wrote done e → MayPass rans e x → Wrote (done ++ rans) x
wrote_pass done [] e x has wrote is = subst (λ (s : Standing). Wrote (done ++ []) s) (sym is) (wrote_more done [] e wrote)
wrote_pass done (ran ∷ rans) e x has wrote (inl station) =
    subst (λ (l : List Ran). Wrote l x) (append_assoc done (ran ∷ []) rans)
    (wrote_more (done ++ ran ∷ []) rans x (wrote_step done ran e x wrote (grown_station ran e has ran.order refl x station)))
wrote_pass done (ran ∷ rans) e x has wrote (inr next) =
    let grown = grown_exit ran e (Rose ran.faults ran.faults_after) ran.order refl next.0 next.1 in
    subst (λ (l : List Ran). Wrote l x) (append_assoc done (ran ∷ []) rans)
    (wrote_pass (done ++ ran ∷ []) rans next.0 x (grown_has ran e next.0 has grown) (wrote_step done ran e next.0 wrote grown) next.2)

-- what waits with time ahead of it is what it settles like
in_time : (made deadline : ℕ) → made < deadline → is_due made deadline made ≡ false
in_time made deadline lt = grind (arith, nat_tests)

waits_to : (p : Standing) (c : Checkpoint) (saved : NetData) → p.cell ≡ Some c → c.net ≡ Some saved → c.phase ≡ Waiting → c.made < c.deadline → settled c.made p ≡ Some p
waits_to p c saved is has waits lt = settled_some c.made p c saved is has
    ∙ ap (λ (t : Bool). Some (by_taken_back p t saved)) (ap (λ (phase : Phase). taken_back c.made phase c.made c.deadline) waits ∙ in_time c.made c.deadline lt)

-- what waits with time ahead of it is the state that it settles like
pub waits_is : (x p : Standing) → Alike x p → IsBacked p → (c : Checkpoint) → p.cell ≡ Some c → c.phase ≡ Waiting → c.made < c.deadline → x ≡ p
waits_is x p like backed c is waits lt =
    let w = backed c is in
    elim (self_or_back c.made x p (like c.made ∙ waits_to p c w.saved is w.is_saved waits lt)) as (λ v. x ≡ p) [
      | inl same ↦ same
      | inr back ↦ absurd (some_none c (sym (ap (λ (s : Standing). s.cell) back.1) ∙ is))
    ]

-- the change that waits, of one of the steps
pub waits_among : (rans : List Ran) (e x p : Standing) → Has e → Wrote [] e → MayPass rans e x → Alike x p → IsBacked p → (c : Checkpoint) → p.cell ≡ Some c → c.phase ≡ Waiting → c.made < c.deadline
    → Among (λ ran. IsChangeOf ran p) rans
waits_among rans e x p has wrote passes like backed c is waits lt =
    subst (Wrote rans) (waits_is x p like backed c is waits lt) (wrote_pass [] rans e x has wrote passes) c is waits

-- The headline, from what is said of a run.
use Rattle.std.proofs.Common.{◌≡◌, ◌∙◌, ◌⊎◌, inl, inr, refl, sym, ap, subst, Bool, true, false, Some, None}
use Rattle.std.specs.Prelude.{⊤, Result, Ok, Err, if◌then◌else◌}
use Rattle.net_model.specs.NetData.{NetData}
use Rattle.document_model.specs.declared.Refused.{Refused}
use Rattle.merge_model.specs.MergedNet.{merge}
use Rattle.document_model.specs.declared.Doc.{Doc}
use Rattle.host_core.specs.HostView.{State}
use Rattle.checkpoint_cell.specs.Cell.{Checkpoint, cell_of}
use Rattle.checkpoint_cell.specs.Settled.{Standing, standing, restored_to, settled}
use Rattle.engine_model.specs.Machine.{Asked, Outcome, asked, waiting, merged_as, apply, rollback, recover, deadline_of}
use Rattle.engine_model.specs.Stations.{Stands, Entry, Near, Within, Only, Before, Settled, Either, left_by}
use Rattle.engine_model.specs.Compared.{IsWaiting, Compared}
use Rattle.engine_model.specs.Exit.{OnWay, Marked}
use Rattle.engine_model.specs.Stations.{Kept as KeptOn}
use Rattle.policy_model.specs.Values.{PolicyData}
use Rattle.engine_model.specs.Sound.{Fit}
use Rattle.engine_model.specs.declared.BackFault.{BackFault}
use Rattle.engine_model.specs.declared.ApplyOpts.{ApplyOpts}
use Rattle.engine_model.specs.declared.Applied.{Applied}
use Rattle.engine_model.specs.declared.ApplyFault.{ApplyFault}
use Rattle.engine_model.specs.declared.ApplyFault.TheVariants as af
use Rattle.engine_model.specs.declared.Left.{Left}
use Rattle.engine_model.specs.declared.Left.TheVariants as side
use Rattle.top_model.specs.Said.{Said, rolled_back, said_applied, said_recovered}
use Rattle.top_model.specs.Orders.{Order, AppliesTo, applying, applying_policy, rolling_back, recovering}
use Rattle.top_model.specs.Machine.{told, told_of, apply_policy, apply_cause, back_cause, machine_of}
use Rattle.top_model.specs.Texts.{status_of}
use Rattle.top_model.specs.Runs.{Run, Asks, Alone, Quiet, HostRose, HostRoseTwice, SourceRose, reads, entry, left_at_exit}
use Rattle.top_model.specs.Told.{Answer, cause_of}
use Rattle.top_model.specs.Causes.{expected, Expects}
use Rattle.top_model.specs.Exits.{ApplyLeaves, PolicyLeaves, BackLeaves, Leaves, KeptBy, Compares}
use Rattle.top_model.specs.Answered.{Answered}
use Rattle.top_model.specs.Headline.{IsApply, after, IsHindered, Leaves as Leaving, RanOut, RefusedByRule, Reached, Accepted, Failed, LeftToWait, Expired, Stopped, Merged, OfApply, Headline}
use Rattle.top_model.specs.declared.report.Cause.{Cause}
use Rattle.top_model.specs.declared.report.Cause.TheVariants.{Done, DocRefused, MergeRefused, Pending, ReadFault, WriteFault, HostFault, InDoubt, KernelRefused, NotVerified, Damaged, OutOfMemory}
use Rattle.top_model.proofs.lemmas.Leaving.{wider, on_the_way}
use Rattle.top_model.proofs.lemmas.Reports.{rests, order_is, reported, told_or_cut, is_done}
use Rattle.top_model.proofs.lemmas.Promised.{committed_state}
use Rattle.top_model.specs.declared.report.DocFault.{DocFault}
use Rattle.top_model.proofs.lemmas.Deriving.{policy_is}
use Rattle.top_model.proofs.lemmas.Settles.{same_some, apply_is, recover_settles, rollback_restores}

-- ---- reports

-- the answer behind a report of another cause than a sink's fault
abbrev is_fault : Cause → Bool
is_fault (WriteFault s) = true
is_fault Done = true
is_fault _ = false

clash : true ≡ false → ⊥
clash e = cc

answer_is : (r : Run) (answer : Answer) (c : Cause) → is_fault c ≡ false → (r.report.cause ≡ cause_of answer) ⊎ (r.report.cause ≡ WriteFault (status_of (cause_of answer)))
    → r.report.cause ≡ c → answer ≡ Err c
answer_is r (Ok said) c not (inl is) cause = absurd (clash (ap is_fault (sym is ∙ cause) ∙ not))
answer_is r (Err x) c not (inl is) cause = ap Err (sym is ∙ cause)
answer_is r answer c not (inr is) cause = absurd (clash (ap is_fault (sym is ∙ cause) ∙ not))

-- ---- the machine's answer, or what kept from it

abbrev Kept : Run → Answer → Type 0
Kept r answer = HostRose r ⊎ SourceRose r ⊎ (answer ≡ Err OutOfMemory)

machine_or_kept : (r : Run) (order : Result Order Cause) (answer : Answer) → Expects r order answer → (expected r order ≡ answer) ⊎ Kept r answer
machine_or_kept r order (Err ReadFault) x = inr (inr (inl x))
machine_or_kept r order (Err (HostFault left)) x = inr (inl x)
machine_or_kept r order (Err InDoubt) x = inr (inl x)
machine_or_kept r order (Err (KernelRefused k n left)) x = absurd x
machine_or_kept r order (Err (NotVerified found left)) x = absurd x
machine_or_kept r order (Err OutOfMemory) x = inr (inr (inr refl))
machine_or_kept r order answer x = inl x.answer

-- ---- an apply's change

abbrev changed_when : Asked → NetData → NetData → Bool → Outcome Applied ApplyFault
changed_when a from to no_commit =
    if no_commit then record { answer = Ok (record { deadline = Some (deadline_of a) }); after = record { net = Some to; cell = Some (waiting a from) } }
    else record { answer = Ok (record { deadline = None }); after = restored_to to }

abbrev answer_of : Result Applied ApplyFault → Answer
answer_of result = told said_applied apply_cause result

changed_ok : (a : Asked) (from to : NetData) (no_commit : Bool) → (said : Said) × (answer_of (changed_when a from to no_commit).answer ≡ Ok said)
changed_ok a from to true = (said_applied (record { deadline = Some (deadline_of a) }), refl)
changed_ok a from to false = (said_applied (record { deadline = None }), refl)

ok_err : (said : Said) (c : Cause) → Ok said ≡ Err c → ⊥
ok_err said c e = cc

abbrev refused_answer : Refused → Answer
refused_answer x = Err (MergeRefused x)

abbrev refused_merge : Refused → Result NetData Refused
refused_merge x = Err x

same_refusal : (x y : Refused) → refused_answer x ≡ refused_answer y → refused_merge x ≡ refused_merge y
same_refusal x y e = cc

merge_refused : (a : Asked) (from : NetData) (refused : Refused) (m : Result NetData Refused) → answer_of (merged_as a from m).answer ≡ Err (MergeRefused refused) → m ≡ Err refused
merge_refused a from refused (Ok to) is = let ok = changed_ok a from to a.opts.no_commit in absurd (ok_err ok.0 (MergeRefused refused) (sym ok.1 ∙ is))
merge_refused a from refused (Err x) is = same_refusal x refused is

widen : (left P Q : Stands) → ((x : Standing) → P x → Q x) → Within left P → Within left Q
widen left P Q more within s is = wider P Q more s (within s is)

-- ---- what an apply leaves

module _ (a : Asked) (entry : Entry) (left : Stands) (rose twice : Type 0) where
  -- where it began, what it settled, and what it leads to
  abbrev Three : Stands
  Three = Either (Before entry) (Either (Settled a.now entry) (Only (apply a entry.reads).after))

  from_three : (P : Stands) → ((x : Standing) → P x → Three x) → Within left P → Within left Three
  from_three P more within = widen left P Three more within

  on_way : (begun : Type 0) → OnWay a entry left rose begun → Within left Three
  on_way begun x = elim x as (λ v. Within left Three) [
    | inl unsettled ↦ from_three (Either (Before entry) (Settled a.now entry)) (λ s is. elim is as (λ v. Three s) [ inl b ↦ inl b | inr t ↦ inr (inl t) ]) unsettled.1
    | inr within ↦ from_three (Either (Settled a.now entry) (Marked a entry rose)) (λ s is. elim is as (λ v. Three s) [ inl t ↦ inr (inl t) | inr m ↦ inr (inr m.2) ]) within.1
  ]

  pub near_three : (answer : Answer) → ApplyLeaves a entry left rose twice answer → Within left Three
  near_three (Ok said) x = from_three (Only (apply a entry.reads).after) (λ s is. inr (inr is)) x
  near_three (Err (Pending d)) x = from_three (Settled a.now entry) (λ s is. inr (inl is)) x
  near_three (Err (MergeRefused refused)) x = from_three (Settled a.now entry) (λ s is. inr (inl is)) x
  near_three (Err (Damaged area)) x = from_three (Before entry) (λ s is. inl is) x
  near_three (Err (HostFault side.NotBegun)) x = from_three (Before entry) (λ s is. inl is) x
  near_three (Err (HostFault side.RolledBack)) x = from_three (Settled a.now entry) (λ s is. inr (inl is)) x
  near_three (Err (HostFault side.Pending)) x = on_way twice x
  near_three (Err OutOfMemory) x = elim x as (λ v. Within left Three) [ inl before ↦ from_three (Before entry) (λ s is. inl is) before | inr way ↦ on_way (Unit {0}) way ]
  near_three (Err ReadFault) x = from_three (Before entry) (λ s is. inl is) x
  near_three (Err InDoubt) x = from_three (Either (Settled a.now entry) (Only (apply a entry.reads).after)) (λ s is. inr is) x.near
  near_three answer x = absurd x

  -- where it failed, the changed state stands only where it was to wait
  abbrev Fallen : Stands
  Fallen = Either (Before entry) (Either (Settled a.now entry) (λ s. (a.opts.no_commit ≡ true) × (s ≡ (apply a entry.reads).after)))

  from_fallen : (P : Stands) → ((x : Standing) → P x → Fallen x) → Within left P → Within left Fallen
  from_fallen P more within = widen left P Fallen more within

  pub fallen_way : (begun : Type 0) → OnWay a entry left rose begun → Within left Fallen
  fallen_way begun x = elim x as (λ v. Within left Fallen) [
    | inl unsettled ↦ from_fallen (Either (Before entry) (Settled a.now entry)) (λ s is. elim is as (λ v. Fallen s) [ inl b ↦ inl b | inr t ↦ inr (inl t) ]) unsettled.1
    | inr within ↦ from_fallen (Either (Settled a.now entry) (Marked a entry rose)) (λ s is. elim is as (λ v. Fallen s) [ inl t ↦ inr (inl t) | inr m ↦ inr (inr (m.0, m.2)) ]) within.1
  ]

  pub fallen_memory : ApplyLeaves a entry left rose twice (Err OutOfMemory) → Within left Fallen
  fallen_memory x = elim x as (λ v. Within left Fallen) [ inl before ↦ from_fallen (Before entry) (λ s is. inl is) before | inr way ↦ fallen_way (Unit {0}) way ]

  pub fallen_fault : (l : Left) → ApplyLeaves a entry left rose twice (Err (HostFault l)) → Within left Fallen
  fallen_fault side.NotBegun x = from_fallen (Before entry) (λ s is. inl is) x
  fallen_fault side.RolledBack x = from_fallen (Settled a.now entry) (λ s is. inr (inl is)) x
  fallen_fault side.Pending x = fallen_way twice x

-- ---- an apply of a policy that is a document on the settled network is the apply of this document

-- two orders of which the machine makes the same
expects_same : (r : Run) (one two : Result Order Cause) → machine_of r.now one (reads r) ≡ machine_of r.now two (reads r) → (answer : Answer) → Expects r one answer → Expects r two answer
expects_same r one two same (Err ReadFault) x = x
expects_same r one two same (Err (HostFault left)) x = x
expects_same r one two same (Err InDoubt) x = x
expects_same r one two same (Err (KernelRefused k n left)) x = x
expects_same r one two same (Err (NotVerified found left)) x = x
expects_same r one two same (Err OutOfMemory) x = x
expects_same r one two same answer x = record { answer = ap (λ (o : Outcome Said Cause). o.answer) (sym same) ∙ x.answer; after = x.after ∙ ap (λ (o : Outcome Said Cause). o.after) same }

-- an apply of a document is never refused as one
never_refused : (fault : DocFault) (result : Result Applied ApplyFault) → answer_of result ≡ Err (DocRefused fault) → ⊥
never_refused fault (Ok done) is = cc
never_refused fault (Err (af.Pending deadline)) is = cc
never_refused fault (Err (af.MergeRefused refused)) is = cc
never_refused fault (Err (af.HostFault left)) is = cc
never_refused fault (Err (af.KernelRefused k n left)) is = cc
never_refused fault (Err (af.NotVerified found left)) is = cc
never_refused fault (Err af.InDoubt) is = cc
never_refused fault (Err (af.Damaged area)) is = cc
never_refused fault (Err (af.HardwareDiffers names)) is = cc
never_refused fault (Err af.OutOfMemory) is = cc

module _ (a : Asked) (entry : Entry) (left : Stands) (rose twice : Type 0) where
  abbrev OfPolicy : Answer → Type 0
  OfPolicy answer = PolicyLeaves a.opts a.now (apply a entry.reads).after entry left rose twice answer

  leaves_same : (answer : Answer) → ((fault : DocFault) → answer ≡ Err (DocRefused fault) → ⊥) → OfPolicy answer → ApplyLeaves a entry left rose twice answer
  leaves_same (Ok said) never x = x
  leaves_same (Err (Pending d)) never x = x
  leaves_same (Err (DocRefused fault)) never x = absurd (never fault refl)
  leaves_same (Err (MergeRefused refused)) never x = x
  leaves_same (Err (Damaged area)) never x = x
  leaves_same (Err (HostFault side.NotBegun)) never x = x
  leaves_same (Err (HostFault side.RolledBack)) never x = x
  leaves_same (Err (HostFault side.Pending)) never x = x
  leaves_same (Err OutOfMemory) never x = x
  leaves_same (Err ReadFault) never x = x
  leaves_same (Err InDoubt) never x = record { to = x.to; near = x.near; net = x.net; changed = x.changed }
  leaves_same answer never x = absurd x

-- what is said of an apply of this document
record AsDocument (r : Run) (answer : Answer) (doc : Doc) (opts : ApplyOpts) : Type 0 where
  expects : Expects r (Ok (applying doc opts)) answer
  leaves : ApplyLeaves (asked doc opts r.now) (entry r) (left_at_exit r) (HostRose r) (HostRoseTwice r) answer
  kept : KeptOn (Either (Settled r.now (entry r)) (Only (apply (asked doc opts r.now) (reads r)).after)) r.host r.host_after
  compared : Compared (asked doc opts r.now) r.host r.host_after

-- of a policy
module _ (r : Run) (answer : Answer) (p : PolicyData) (doc : Doc) (opts : ApplyOpts)
    (same : apply_policy p opts r.now (reads r) ≡ told_of said_applied apply_cause (apply (asked doc opts r.now) (reads r))) where
  abbrev As : Asked
  As = asked doc opts r.now

  same_after : (apply_policy p opts r.now (reads r)).after ≡ (apply As (reads r)).after
  same_after = ap (λ (o : Outcome Said Cause). o.after) same

  expects_document : Expects r (Ok (applying_policy p opts)) answer → Expects r (Ok (applying doc opts)) answer
  expects_document x = expects_same r (Ok (applying_policy p opts)) (Ok (applying doc opts)) same answer x

  not_late : Expects r (Ok (applying doc opts)) answer → (fault : DocFault) → answer ≡ Err (DocRefused fault) → ⊥
  not_late x fault is =
      let machine : Expects r (Ok (applying doc opts)) (Err (DocRefused fault)) = subst (Expects r (Ok (applying doc opts))) is x in
      never_refused fault (apply As (reads r)).answer machine.answer

  leaves_document : Expects r (Ok (applying doc opts)) answer → PolicyLeaves opts r.now (apply_policy p opts r.now (reads r)).after (entry r) (left_at_exit r) (HostRose r) (HostRoseTwice r) answer
      → ApplyLeaves As (entry r) (left_at_exit r) (HostRose r) (HostRoseTwice r) answer
  leaves_document x l = leaves_same As (entry r) (left_at_exit r) (HostRose r) (HostRoseTwice r) answer (not_late x)
      (subst (λ (s : Standing). PolicyLeaves opts r.now s (entry r) (left_at_exit r) (HostRose r) (HostRoseTwice r) answer) same_after l)

  kept_document : KeptOn (Either (Settled r.now (entry r)) (Only (apply_policy p opts r.now (reads r)).after)) r.host r.host_after
      → KeptOn (Either (Settled r.now (entry r)) (Only (apply As (reads r)).after)) r.host r.host_after
  kept_document k = subst (λ (s : Standing). KeptOn (Either (Settled r.now (entry r)) (Only s)) r.host r.host_after) same_after k

  compared_document : Compares r (Ok (applying_policy p opts)) → Compared As r.host r.host_after
  compared_document seen = subst (λ (x : Standing). opts.no_verify ≡ false → (s : State) → r.host_after.stops.may_leave s → IsWaiting (cell_of s.cell) → left_by r.host (standing s) ⊎ (r.host_after.fresh ≡ x.net)) same_after seen

-- of the order that was answered
module _ (r : Run) (order : Result Order Cause) (answer : Answer) (doc : Doc) (opts : ApplyOpts) (from : NetData) (fit : Fit r.host.state) (stands : settled r.now (reads r) ≡ Some (restored_to from)) where
  as_document : AppliesTo from order doc opts → Expects r order answer → Leaves r order answer → KeptBy r order answer → Compares r order → AsDocument r answer doc opts
  as_document (inl is) expects leaves kept compares =
      let C : Result Order Cause → Type 0 = λ o. Compares r o in
      let L : Result Order Cause → Type 0 = λ o. Leaves r o answer in
      let K : Result Order Cause → Type 0 = λ o. KeptBy r o answer in
      record { expects = subst (λ o. Expects r o answer) is expects; leaves = subst L is leaves; kept = subst K is kept; compared = subst C is compares }
  as_document (inr policy) expects leaves kept compares =
      let C : Result Order Cause → Type 0 = λ o. Compares r o in
      let p = policy.0 in
      let L : Result Order Cause → Type 0 = λ o. Leaves r o answer in
      let K : Result Order Cause → Type 0 = λ o. KeptBy r o answer in
      let same = policy_is p opts r.now from doc policy.2 r.host.state fit stands in
      let x = expects_document r answer p doc opts same (subst (λ o. Expects r o answer) policy.1 expects) in
      record { expects = x; leaves = leaves_document r answer p doc opts same x (subst L policy.1 leaves); kept = kept_document r answer p doc opts same (subst K policy.1 kept); compared = compared_document r answer p doc opts same (subst C policy.1 compares) }

-- whether it is to wait or not, a change leaves its network
changed_net : (a : Asked) (from to : NetData) (b : Bool) → (changed_when a from to b).after.net ≡ Some to
changed_net a from to true = refl
changed_net a from to false = refl

-- ---- an apply of a document, at which no change waits

module _ (r : Run) (a : Answered r) (doc : Doc) (opts : ApplyOpts) (from : NetData) (i : IsApply r doc opts from) where
  abbrev Ask : Asked
  Ask = asked doc opts r.now

  fit_here : Fit r.host.state
  fit_here = i.nobody_else.sound.fit r.host.state (a.goes_on.lawful.reads (a.goes_on.tells i.nobody_else.honest))

  document : AsDocument r a.answer doc opts
  document = let rest = rests r a.order i.nobody_else in
      as_document r a.order a.answer doc opts from fit_here i.stands (subst (λ (o : Result Order Cause). AppliesTo from o doc opts) (sym (order_is r a i.asks.0 i.asks.2)) i.asks.1) (a.expects rest) (a.leaves rest) (a.kept rest) (a.compares rest)

  expects : Expects r (Ok (applying doc opts)) a.answer
  expects = document.expects

  leaves : ApplyLeaves Ask (entry r) (left_at_exit r) (HostRose r) (HostRoseTwice r) a.answer
  leaves = document.leaves

  -- the machine's apply is the merge's
  merges : apply Ask (reads r) ≡ merged_as Ask from (merge from doc)
  merges = apply_is Ask from r.host.state fit_here i.stands

  after_is : (m : Result NetData Refused) → merge from doc ≡ m → (apply Ask (reads r)).after ≡ (merged_as Ask from m).after
  after_is m is = ap (λ (o : Outcome Applied ApplyFault). o.after) (merges ∙ ap (merged_as Ask from) is)

  expected_is : (m : Result NetData Refused) → merge from doc ≡ m → expected r (Ok (applying doc opts)) ≡ answer_of (merged_as Ask from m).answer
  expected_is m is = ap (λ (o : Outcome Applied ApplyFault). answer_of o.answer) (merges ∙ ap (merged_as Ask from) is)

  settled_is : (s : Standing) → Settled r.now (entry r) s → s ≡ restored_to from
  settled_is s is = same_some s (restored_to from) (sym is ∙ i.stands)

  -- what the answer is, unless a fault or out of memory kept from it
  told_unless : (c : Cause) → (cause_of a.answer ≡ c) → (r.report.cause ≡ c) ⊎ IsHindered r
  told_unless c is = elim (told_or_cut r a) as (λ v. (r.report.cause ≡ c) ⊎ IsHindered r) [ inl told ↦ inl (told ∙ is) | inr rose ↦ inr (inr (inr (inl rose))) ]

  kept_from : Kept r a.answer → IsHindered r
  kept_from k = elim k as (λ v. IsHindered r) [
    | inl host ↦ inl host
    | inr more ↦ elim more as (λ v. IsHindered r) [
      | inl source ↦ inr (inl source)
      | inr memory ↦ elim (told_unless OutOfMemory (ap cause_of memory)) as (λ v. IsHindered r) [ inl told ↦ inr (inr (inr told)) | inr k ↦ k ]
    ]
  ]

  said_unless : (answer : Answer) → expected r (Ok (applying doc opts)) ≡ answer → (r.report.cause ≡ cause_of answer) ⊎ IsHindered r
  said_unless answer is = elim (machine_or_kept r (Ok (applying doc opts)) a.answer expects) as (λ v. (r.report.cause ≡ cause_of answer) ⊎ IsHindered r) [
    | inl machine ↦ told_unless (cause_of answer) (ap cause_of (sym machine ∙ is))
    | inr kept ↦ inr (kept_from kept)
  ]

  only_from : Within (left_at_exit r) (Settled r.now (entry r)) → Within (left_at_exit r) (Only (restored_to from))
  only_from within = widen (left_at_exit r) (Settled r.now (entry r)) (Only (restored_to from)) settled_is within

  refused : RefusedByRule r doc opts from
  refused = record {
    only = λ refused cause.
        let is : a.answer ≡ Err (MergeRefused refused) = answer_is r a.answer (MergeRefused refused) refl (reported r a) cause in
        let machine : Expects r (Ok (applying doc opts)) (Err (MergeRefused refused)) = subst (Expects r (Ok (applying doc opts))) is expects in
        let exit : Within (left_at_exit r) (Settled r.now (entry r)) = subst (ApplyLeaves Ask (entry r) (left_at_exit r) (HostRose r) (HostRoseTwice r)) is leaves in
        let broken : merge from doc ≡ Err refused = merge_refused Ask from refused (merge from doc) (sym (expected_is (merge from doc) refl) ∙ machine.answer) in
        (broken, record { reads = machine.after ∙ after_is (Err refused) broken; left = only_from exit });
    always = λ refused broken. (
      said_unless (Err (MergeRefused refused)) (expected_is (Err refused) broken),
      widen (left_at_exit r) (Three Ask (entry r) (left_at_exit r) (HostRose r) (HostRoseTwice r)) (Either (Before (entry r)) (Only (restored_to from)))
          (λ s is. elim is as (λ v. Either (Before (entry r)) (Only (restored_to from)) s) [
            | inl b ↦ inl b
            | inr t ↦ elim t as (λ v. Either (Before (entry r)) (Only (restored_to from)) s) [ inl st ↦ inr (settled_is s st) | inr af ↦ inr (af ∙ after_is (Err refused) broken) ]
          ])
          (near_three Ask (entry r) (left_at_exit r) (HostRose r) (HostRoseTwice r) a.answer leaves),
    );
  }

  -- a change that is done
  done_leaves : (to : NetData) → merge from doc ≡ Ok to → (said : Said) → a.answer ≡ Ok said → Leaving r (after r doc opts from to)
  done_leaves to ok said is =
      let machine : Expects r (Ok (applying doc opts)) (Ok said) = subst (Expects r (Ok (applying doc opts))) is expects in
      let exit : Within (left_at_exit r) (Only (apply Ask (reads r)).after) = subst (ApplyLeaves Ask (entry r) (left_at_exit r) (HostRose r) (HostRoseTwice r)) is leaves in
      record { reads = machine.after ∙ after_is (Ok to) ok; left = subst (λ e. Within (left_at_exit r) (Only e)) (after_is (Ok to) ok) exit }

  reached : Reached r doc opts from
  reached to ok nothing_kept =
      let said = changed_ok Ask from to opts.no_commit in
      let expected_said : expected r (Ok (applying doc opts)) ≡ Ok said.0 = expected_is (Ok to) ok ∙ said.1 in
      let answer : a.answer ≡ Ok said.0 = elim (machine_or_kept r (Ok (applying doc opts)) a.answer expects) as (λ v. a.answer ≡ Ok said.0) [
        | inl machine ↦ sym machine ∙ expected_said
        | inr kept ↦ absurd (nothing_kept (kept_from kept))
      ] in (
        elim (said_unless (Ok said.0) expected_said) as (λ v. r.report.cause ≡ Done) [ inl told ↦ told | inr kept ↦ absurd (nothing_kept kept) ],
        done_leaves to ok said.0 answer,
      )

  from_fall : (to : NetData) → merge from doc ≡ Ok to → Within (left_at_exit r) (Fallen Ask (entry r) (left_at_exit r) (HostRose r) (HostRoseTwice r))
      → Within (left_at_exit r) (Either (Before (entry r)) (Either (Only (restored_to from)) (λ s. (opts.no_commit ≡ true) × (s ≡ after r doc opts from to))))
  from_fall to ok within = widen (left_at_exit r) (Fallen Ask (entry r) (left_at_exit r) (HostRose r) (HostRoseTwice r)) (Either (Before (entry r)) (Either (Only (restored_to from)) (λ s. (opts.no_commit ≡ true) × (s ≡ after r doc opts from to))))
      (λ s is. elim is as (λ v. Either (Before (entry r)) (Either (Only (restored_to from)) (λ s. (opts.no_commit ≡ true) × (s ≡ after r doc opts from to))) s) [
        | inl b ↦ inl b
        | inr t ↦ elim t as (λ v. Either (Before (entry r)) (Either (Only (restored_to from)) (λ s. (opts.no_commit ≡ true) × (s ≡ after r doc opts from to))) s) [
          | inl st ↦ inr (inl (settled_is s st))
          | inr m ↦ inr (inr (m.0, m.1 ∙ after_is (Ok to) ok))
        ]
      ]) within

  failed : Failed r doc opts from
  failed to ok l cause = elim cause as (λ v. Within (left_at_exit r) (Either (Before (entry r)) (Either (Only (restored_to from)) (λ s. (opts.no_commit ≡ true) × (s ≡ after r doc opts from to))))) [
    | inl fault ↦ from_fall to ok (fallen_fault Ask (entry r) (left_at_exit r) (HostRose r) (HostRoseTwice r) l
        (subst (ApplyLeaves Ask (entry r) (left_at_exit r) (HostRose r) (HostRoseTwice r)) (answer_is r a.answer (HostFault l) refl (reported r a) fault) leaves))
    | inr memory ↦ from_fall to ok (fallen_memory Ask (entry r) (left_at_exit r) (HostRose r) (HostRoseTwice r)
        (subst (ApplyLeaves Ask (entry r) (left_at_exit r) (HostRose r) (HostRoseTwice r)) (answer_is r a.answer OutOfMemory refl (reported r a) memory) leaves))
  ]

  expired : Expired r doc opts from
  expired to moment waits due =
      ap (λ b. settled moment (changed_when Ask from to b).after) waits ∙ ap (λ b. Some (if b then restored_to from else (changed_when Ask from to true).after)) due

  stopped : Stopped r doc opts from
  stopped to ok s left =
      let during : Near (Three Ask (entry r) (left_at_exit r) (HostRose r) (HostRoseTwice r)) (standing s) =
      on_the_way (Either (Settled r.now (entry r)) (Only (apply Ask (reads r)).after)) r.host r.host_after a.goes_on.lawful.stops document.kept s left in
      wider (Three Ask (entry r) (left_at_exit r) (HostRose r) (HostRoseTwice r)) (Either (Before (entry r)) (Either (Only (restored_to from)) (Only (after r doc opts from to))))
      (λ x is. elim is as (λ v. Either (Before (entry r)) (Either (Only (restored_to from)) (Only (after r doc opts from to))) x) [
        | inl b ↦ inl b
        | inr t ↦ elim t as (λ v. Either (Before (entry r)) (Either (Only (restored_to from)) (Only (after r doc opts from to))) x) [
          | inl st ↦ inr (inl (settled_is x st))
          | inr af ↦ inr (inr (af ∙ after_is (Ok to) ok))
        ]
      ]) (standing s) during

  merged : Merged r doc opts from
  merged to ok plain acknowledged =
      let done = is_done r a.order a.answer a.comes (reported r a) acknowledged in
      subst (Leaving r) (ap (λ b. (changed_when Ask from to b).after) plain) (done_leaves to ok done.0 done.1)

  left_to_wait : LeftToWait r doc opts from
  left_to_wait to ok verifies s left waits = elim (document.compared verifies s left waits) as (λ v. Before (entry r) (standing s) ⊎ (r.host_after.fresh ≡ Some to)) [
    | inl was ↦ inl was
    | inr fresh ↦ inr (fresh ∙ ap (λ (x : Standing). x.net) (after_is (Ok to) ok) ∙ changed_net Ask from to opts.no_commit)
  ]

  pub of_apply : OfApply r doc opts from
  of_apply = record { refused = refused; reached = reached; failed = failed; left_to_wait = left_to_wait; expired = expired; stopped = stopped; merged = merged }

-- ---- a recovery or a rollback without a fault

module _ (r : Run) (a : Answered r) (alone_r : Alone r) (quiet : Quiet r) where
  fit_read : Fit r.host.state
  fit_read = alone_r.sound.fit r.host.state (a.goes_on.lawful.reads (a.goes_on.tells alone_r.honest))

  -- where the machine is done, so is the command, or it ran out of memory
  of_back : (what : Result Order Cause) (after : Standing) → (machine_of r.now what (reads r)).after ≡ after → ((c : Cause) → expected r what ≡ Err c → ⊥)
      → (answer : Answer) → a.answer ≡ answer → Expects r what answer → BackLeaves after (entry r) (left_at_exit r) answer → RanOut r ⊎ Leaving r after
  of_back what after same never (Ok said) is x exit = inr (record { reads = x.after ∙ same; left = exit })
  of_back what after same never (Err OutOfMemory) is x exit = inl (elim (reported r a) as (λ v. RanOut r) [
    | inl told ↦ inl (told ∙ ap cause_of is)
    | inr cut ↦ inr (cut ∙ ap (λ (x : Answer). WriteFault (status_of (cause_of x))) is)
  ])
  of_back what after same never (Err (HostFault l)) is x exit = absurd (quiet.host x)
  of_back what after same never (Err ReadFault) is x exit = absurd (quiet.source x)
  of_back what after same never (Err InDoubt) is x exit = absurd (quiet.host x)
  of_back what after same never (Err (KernelRefused k n l)) is x exit = absurd x
  of_back what after same never (Err (NotVerified f l)) is x exit = absurd x
  of_back what after same never (Err c) is x exit = absurd (never c x.answer)

  recovers : Asks r (Ok recovering) → RanOut r ⊎ ((stands : Standing) × (settled r.now (reads r) ≡ Some stands) × Leaving r stands)
  recovers asks =
      let settles = recover_settles r.now r.host.state fit_read in
      let after : Standing = (recover r.now (reads r)).after in
      let P : Result Order Cause → Type 0 = λ o. Leaves r o a.answer in
      let back : RanOut r ⊎ Leaving r after =
      of_back (Ok recovering) after refl (λ c is. ok_err (said_recovered settles.answer) c (sym (ap (told said_recovered back_cause) settles.done) ∙ is)) a.answer refl
      (subst (λ o. Expects r o a.answer) (order_is r a (Ok recovering) asks) (a.expects (rests r a.order alone_r)))
      (subst P (order_is r a (Ok recovering) asks) (a.leaves (rests r a.order alone_r))) in
      elim back as (λ v. RanOut r ⊎ ((stands : Standing) × (settled r.now (reads r) ≡ Some stands) × Leaving r stands)) [ inl out ↦ inl out | inr done ↦ inr (after, settles.after, done) ]

  rolls_back : Asks r (Ok rolling_back) → (c : Checkpoint) → (reads r).cell ≡ Some c → RanOut r ⊎ ((saved : NetData) × (c.net ≡ Some saved) × Leaving r (restored_to saved))
  rolls_back asks c is =
      let w = fit_read.whole c is in
      let restores : rollback (reads r) ≡ record { answer = Ok tt; after = restored_to w.saved } = rollback_restores r.now r.host.state fit_read c w is in
      let after : Standing = (rollback (reads r)).after in
      let P : Result Order Cause → Type 0 = λ o. Leaves r o a.answer in
      let back : RanOut r ⊎ Leaving r after =
      of_back (Ok rolling_back) after refl (λ x refused. ok_err rolled_back x (sym (ap (λ (o : Outcome ⊤ BackFault). told (λ (t : ⊤). rolled_back) back_cause o.answer) restores) ∙ refused)) a.answer refl
      (subst (λ o. Expects r o a.answer) (order_is r a (Ok rolling_back) asks) (a.expects (rests r a.order alone_r)))
      (subst P (order_is r a (Ok rolling_back) asks) (a.leaves (rests r a.order alone_r))) in
      elim back as (λ v. RanOut r ⊎ ((saved : NetData) × (c.net ≡ Some saved) × Leaving r (restored_to saved))) [
        | inl out ↦ inl out
        | inr done ↦ inr (w.saved, w.is_saved, subst (Leaving r) (ap (λ (o : Outcome ⊤ BackFault). o.after) restores) done)
      ]

-- ---- all of it

accepted : (r : Run) → Answered r → Alone r → Accepted r
accepted r a alone_r k n l cause = subst (Expects r a.order) (answer_is r a.answer (KernelRefused k n l) refl (reported r a) cause) (a.expects (rests r a.order alone_r))

pub headline : (r : Run) → Answered r → Headline r
headline r a = record {
  applies = λ doc opts from i. of_apply r a doc opts from i;
  accepted = accepted r a;
  recovered = λ alone_r asks quiet. recovers r a alone_r quiet asks;
  rolled_back = λ alone_r asks quiet c is. rolls_back r a alone_r quiet asks c is;
  committed = committed_state r a;
}

-- What an apply of a policy leads to: it is the apply of the document that the policy is on the settled network.
use Rattle.std.proofs.Common.{◌≡◌, ◌∙◌, ◌⊎◌, inl, refl, sym, ap, subst, ℕ, Bool, true, false, Option, Some, None}
use Rattle.std.specs.Prelude.{Result, Ok, Err, option_map, if◌then◌else◌}
use Rattle.net_model.specs.NetData.{NetData}
use Rattle.document_model.specs.declared.Doc.{Doc}
use Rattle.host_core.specs.HostView.{State}
use Rattle.policy_model.specs.Values.{PolicyData, policy_value}
use Rattle.checkpoint_cell.specs.Cell.{Checkpoint}
use Rattle.checkpoint_cell.specs.Settled.{Standing, standing, restored_to, taken_back, settled_from, settled, Alike}
use Rattle.merge_model.specs.MergedNet.{merge}
use Rattle.engine_model.specs.Machine.{Outcome, stays, asked, merged_as, recover_cell, restore, apply}
use Rattle.engine_model.specs.Sound.{IsWhole, Fit}
use Rattle.engine_model.specs.declared.ApplyOpts.{ApplyOpts}
use Rattle.engine_model.specs.declared.Applied.{Applied}
use Rattle.engine_model.specs.declared.ApplyFault.{ApplyFault}
use Rattle.engine_model.specs.declared.Recovered.{Recovered}
use Rattle.engine_model.specs.declared.Recovered.TheVariants.{Waiting as Waits, Restored}
use Rattle.engine_model.specs.declared.BackFault.{BackFault}
use Rattle.show_core.specs.Network.{network_tree}
use Rattle.top_model.specs.Said.{Said, said_applied}
use Rattle.top_model.specs.Orders.{with_fault, and_then, document_of_tree, value_on, document_on}
use Rattle.top_model.specs.Machine.{apply_cause, told_of, apply_read, apply_on, apply_settling, apply_policy}
use Rattle.top_model.specs.declared.report.DocFault.{DocFault}
use Rattle.top_model.specs.declared.report.DocFault.TheVariants.{Schema, Policy}
use Rattle.top_model.specs.declared.report.Cause.{Cause}
use Rattle.top_model.specs.declared.report.Cause.TheVariants.{DocRefused, Pending}
use Rattle.top_model.proofs.lemmas.Settles.{same_some, restores, apply_is}
use Rattle.top_model.proofs.lemmas.Firm.{Saved, IsBacked, Firm, by_taken_back, settled_none, settled_some, back_to, merged_to, firm_merged, firm_restored, left_or_back}

none_some : {A : Type 0} (x : A) → None ≡ Some x → ⊥
none_some x e = cc

-- ---- a policy that is no document is refused as one

ok_err : {A : Type 0} (x : A) (cause : Cause) → Ok x ≡ Err cause → ⊥
ok_err x cause e = cc

same_cause : {A : Type 0} (a b : Cause) → (let refused : Result A Cause = Err a in refused ≡ Err b) → a ≡ b
same_cause a b e = cc

abbrev IsRefusal : Cause → Type 0
IsRefusal cause = (fault : DocFault) × (cause ≡ DocRefused fault)

faulty : {A E : Type 0} (fault : E → DocFault) (result : Result A E) (cause : Cause) → with_fault fault result ≡ Err cause → IsRefusal cause
faulty fault (Ok x) cause is = absurd (ok_err x cause is)
faulty {A = A} fault (Err e) cause is = (fault e, sym (same_cause {A = A} (DocRefused (fault e)) cause is))

-- what follows is refused so, or what comes first
faulty_then : {A B : Type 0} (first : Result A Cause) (next : A → Result B Cause) → ((cause : Cause) → first ≡ Err cause → IsRefusal cause)
    → ((x : A) (cause : Cause) → next x ≡ Err cause → IsRefusal cause) → (cause : Cause) → and_then first next ≡ Err cause → IsRefusal cause
faulty_then (Ok x) next one two cause is = two x cause is
faulty_then {B = B} (Err c) next one two cause is = one cause (ap Err (same_cause {A = B} c cause is))

-- why a policy is no document, on a network
pub late : (p : PolicyData) (net : NetData) (cause : Cause) → document_on p net ≡ Err cause → IsRefusal cause
unfolding document_on value_on
late p net cause is = faulty_then (with_fault Policy (policy_value (network_tree net None) p)) (λ tree. with_fault Schema (document_of_tree tree))
    (λ c refused. faulty Policy (policy_value (network_tree net None) p) c refused) (λ tree c refused. faulty Schema (document_of_tree tree) c refused) cause is

-- ---- what it leads to

abbrev answers_as : Outcome Applied ApplyFault → Outcome Said Cause
answers_as outcome = told_of said_applied apply_cause outcome

-- it stays where a change waits; the policy is refused on what was settled; or its document is merged into that
pub data Derives (p : PolicyData) (opts : ApplyOpts) (now : ℕ) (e : Standing) : Type 0 where
  it_waits : (deadline : ℕ) → apply_policy p opts now e ≡ stays e (Err (Pending deadline)) → settled now e ≡ Some e → Derives p opts now e
  it_refuses : (from : NetData) (fault : DocFault) → apply_policy p opts now e ≡ stays (restored_to from) (Err (DocRefused fault)) → settled now e ≡ Some (restored_to from) → Derives p opts now e
  it_merges : (from : NetData) (doc : Doc) → document_on p from ≡ Ok doc → apply_policy p opts now e ≡ told_of said_applied apply_cause (merged_as (asked doc opts now) from (merge from doc))
      → settled now e ≡ Some (restored_to from) → Derives p opts now e

abbrev recovered : Standing → Checkpoint → Bool → Outcome Recovered BackFault
recovered e c taken = if taken then restore Restored e c else stays e (Ok (Waits c.deadline))

module _ (p : PolicyData) (opts : ApplyOpts) (now : ℕ) (e : Standing) (firm : Firm e) where
  derives_read : (from : NetData) (m : Result Doc Cause) → document_on p from ≡ m → apply_policy p opts now e ≡ apply_read opts now (restored_to from) m → settled now e ≡ Some (restored_to from)
      → Derives p opts now e
  derives_read from (Ok doc) reads is stands = it_merges from doc reads is stands
  derives_read from (Err cause) reads is stands =
      let refusal = late p from cause reads in
      it_refuses from refusal.0 (is ∙ ap (λ (c : Cause). stays (restored_to from) (Err c)) refusal.1) stands

  derives_taken : (c : Checkpoint) → e.cell ≡ Some c → (w : Saved e c) (taken : Bool) → taken_back now c.phase c.made c.deadline ≡ taken → apply_policy p opts now e ≡ apply_settling p opts now (recovered e c taken)
      → Derives p opts now e
  derives_taken c is w true taken step = derives_read w.saved (document_on p w.saved) refl (step ∙ ap (apply_settling p opts now) (back_to Restored e c w.saved w.goes))
      (settled_some now e c w.saved is w.is_saved ∙ ap (λ (t : Bool). Some (by_taken_back e t w.saved)) taken)
  derives_taken c is w false taken step = it_waits c.deadline step (settled_some now e c w.saved is w.is_saved ∙ ap (λ (t : Bool). Some (by_taken_back e t w.saved)) taken)

  derives_cell : (cell : Option Checkpoint) → e.cell ≡ cell → Derives p opts now e
  derives_cell None is =
      let same : e ≡ restored_to firm.net = λ i. record { net = firm.is_net i; cell = is i } in
      derives_read firm.net (document_on p firm.net) refl
      (ap (λ (c : Option Checkpoint). apply_settling p opts now (recover_cell now e c)) is ∙ ap (λ (x : Standing). apply_on p opts now x x.net) same)
      (settled_none now e is ∙ ap (λ (x : Standing). Some x) same)
  derives_cell (Some c) is =
      let t = taken_back now c.phase c.made c.deadline in
      derives_taken c is (firm.backed c is) t refl (ap (λ (x : Option Checkpoint). apply_settling p opts now (recover_cell now e x)) is ∙ refl)

  pub derives : Derives p opts now e
  derives = derives_cell e.cell refl

-- ---- it is firm again

module _ (p : PolicyData) (opts : ApplyOpts) (now : ℕ) (e y : Standing) (firm : Firm e) (same : y ≡ (apply_policy p opts now e).after) where
  after_is : (outcome : Outcome Said Cause) → apply_policy p opts now e ≡ outcome → y ≡ outcome.after
  after_is outcome is = same ∙ ap (λ (o : Outcome Said Cause). o.after) is

  -- where a recovery leads back from it
  firm_by : IsBacked y → Derives p opts now e → Firm y
  firm_by backed (it_waits deadline is stands) = subst Firm (sym (after_is (stays e (Err (Pending deadline))) is)) firm
  firm_by backed (it_refuses from fault is stands) = subst Firm (sym (after_is (stays (restored_to from) (Err (DocRefused fault))) is)) (firm_restored from)
  firm_by backed (it_merges from doc reads is stands) =
      let a = asked doc opts now in
      firm_merged a from y backed (merged_to a from (merge from doc) y (after_is (answers_as (merged_as a from (merge from doc))) is))

  pub firm_derived : IsBacked y → Firm y
  firm_derived backed = firm_by backed (derives p opts now e firm)

  -- or what is left settles like what was settled
  abbrev OrBack : Standing → Type 0
  OrBack left = Firm y ⊎ ((from : NetData) × (settled now e ≡ Some (restored_to from)) × Alike (restored_to from) left)

  back_by : (left : Standing) → Alike y left → IsBacked left → Derives p opts now e → OrBack left
  back_by left like backed (it_waits deadline is stands) = inl (subst Firm (sym (after_is (stays e (Err (Pending deadline))) is)) firm)
  back_by left like backed (it_refuses from fault is stands) = inl (subst Firm (sym (after_is (stays (restored_to from) (Err (DocRefused fault))) is)) (firm_restored from))
  back_by left like backed (it_merges from doc reads is stands) =
      let a = asked doc opts now in
      left_or_back a e y left like backed from stands (merged_to a from (merge from doc) y (after_is (answers_as (merged_as a from (merge from doc))) is))

  pub policy_or_back : (left : Standing) → Alike y left → IsBacked left → OrBack left
  policy_or_back left like backed = back_by left like backed (derives p opts now e firm)

-- ---- where a policy is a document on the settled network, its apply is that of the document

module _ (p : PolicyData) (opts : ApplyOpts) (now : ℕ) (from : NetData) (doc : Doc) (reads : document_on p from ≡ Ok doc) (s : State) (fit : Fit s) where
  abbrev merges : Outcome Said Cause
  merges = told_of said_applied apply_cause (merged_as (asked doc opts now) from (merge from doc))

  taken_is : (c : Checkpoint) (taken : Bool) (w : IsWhole s c) → (standing s).cell ≡ Some c → by_taken_back (standing s) taken w.saved ≡ restored_to from
      → apply_settling p opts now (recovered (standing s) c taken) ≡ merges
  taken_is c true w is stands =
      let same : w.saved ≡ from = same_some w.saved from (ap (λ (e : Standing). e.net) stands) in
      ap (apply_settling p opts now) (restores Restored s c w) ∙ ap (λ (x : NetData). apply_on p opts now (restored_to x) (Some x)) same ∙ ap (apply_read opts now (restored_to from)) reads
  taken_is c false w is stands = absurd (none_some c (sym (ap (λ (e : Standing). e.cell) stands) ∙ is))

  cell_is : (cell : Option Checkpoint) → (standing s).cell ≡ cell → settled_from now (standing s) cell ≡ Some (restored_to from)
      → apply_settling p opts now (recover_cell now (standing s) cell) ≡ merges
  cell_is None is stands = ap (λ (x : Standing). apply_on p opts now x x.net) (same_some (standing s) (restored_to from) stands) ∙ ap (apply_read opts now (restored_to from)) reads
  cell_is (Some c) is stands =
      let w = fit.whole c is in
      let t = taken_back now c.phase c.made c.deadline in
      taken_is c t w is (same_some (by_taken_back (standing s) t w.saved) (restored_to from)
      (sym (ap (λ (n : Option NetData). option_map (λ (saved : NetData). by_taken_back (standing s) t saved) n) w.is_saved) ∙ stands))

  -- the theorem: it is the machine's apply of the document
  pub policy_is : settled now (standing s) ≡ Some (restored_to from) → apply_policy p opts now (standing s) ≡ told_of said_applied apply_cause (apply (asked doc opts now) (standing s))
  policy_is stands = cell_is (standing s).cell refl stands ∙ sym (ap answers_as (apply_is (asked doc opts now) from s fit stands))

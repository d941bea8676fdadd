-- An apply of a policy is answered, told and left as the apply of the document that it is on the settled network.
use Rattle.std.proofs.Common.{◌≡◌, ◌∙◌, ◌⊎◌, inl, inr, refl, sym, ap, subst, ℕ, Bool, true, false, ◌++◌, Option, Some, None}
use Rattle.std.specs.Prelude.{Result, Ok, Err, option_map, if◌then◌else◌}
use Rattle.net_model.specs.NetData.{NetData}
use Rattle.document_model.specs.declared.Doc.{Doc}
use Rattle.document_model.specs.declared.Refused.{Refused}
use Rattle.host_core.specs.HostView.{State}
use Rattle.policy_model.specs.Values.{PolicyData}
use Rattle.checkpoint_cell.specs.Cell.{Checkpoint}
use Rattle.checkpoint_cell.specs.Settled.{Standing, standing, restored_to, taken_back, settled_from, settled}
use Rattle.merge_model.specs.MergedNet.{merge}
use Rattle.engine_model.specs.Machine.{Asked, Outcome, stays, asked, deadline_of, waiting, merged_as, recover_cell, recover, restore, apply}
use Rattle.engine_model.specs.Sound.{IsWhole, Fit}
use Rattle.engine_model.specs.declared.ApplyOpts.{ApplyOpts}
use Rattle.engine_model.specs.declared.Applied.{Applied}
use Rattle.engine_model.specs.declared.ApplyFault.{ApplyFault}
use Rattle.engine_model.specs.declared.Recovered.{Recovered}
use Rattle.engine_model.specs.declared.Recovered.TheVariants.{Waiting as Waits, Restored}
use Rattle.engine_model.specs.declared.BackFault.{BackFault}
use Rattle.top_model.specs.Said.{Said, said_applied}
use Rattle.top_model.specs.Orders.{Text, Order, AppliesTo, document_on, applying, applying_policy}
use Rattle.top_model.specs.Machine.{told, told_of, apply_cause, ground_settling, apply_policy}
use Rattle.top_model.specs.Texts.{note_lines, error_line}
use Rattle.top_model.specs.Runs.{Run, Alone, Asks, Quiet, reads}
use Rattle.top_model.specs.Grounds.{Grounds, TakesFirst}
use Rattle.top_model.specs.Told.{Answer, Told, cause_of, noted, NotedOn, ApplyErr, ErrText}
use Rattle.top_model.specs.Causes.{expected}
use Rattle.top_model.specs.Answered.{Answered}
use Rattle.top_model.specs.Promises.{IsMachine, AppliesAsDocument}
use Rattle.top_model.specs.declared.report.Cause.{Cause}
use Rattle.top_model.specs.declared.report.Cause.TheVariants.{Done, MergeRefused, OutOfMemory}
use Rattle.top_model.proofs.lemmas.Promised.{complete}
use Rattle.top_model.proofs.lemmas.Settles.{same_some, restores, apply_is}
use Rattle.top_model.proofs.lemmas.Firm.{by_taken_back}
use Rattle.top_model.proofs.lemmas.Deriving.{policy_is}

none_some : {A : Type 0} (x : A) → None ≡ Some x → ⊥
none_some x e = cc

abbrev read_as : Doc → Result Doc Cause
read_as doc = Ok doc

same_document : (a b : Doc) → read_as a ≡ read_as b → a ≡ b
same_document a b e = cc

-- ---- the policy is evaluated on the settled network

abbrev recovered : Standing → Checkpoint → Bool → Outcome Recovered BackFault
recovered e c taken = if taken then restore Restored e c else stays e (Ok (Waits c.deadline))

module _ (now : ℕ) (from : NetData) (s : State) (fit : Fit s) where
  taken_ground : (c : Checkpoint) (taken : Bool) (w : IsWhole s c) → (standing s).cell ≡ Some c → by_taken_back (standing s) taken w.saved ≡ restored_to from
      → ground_settling (recovered (standing s) c taken) ≡ Some from
  taken_ground c true w is stands = ap ground_settling (restores Restored s c w) ∙ ap (λ (e : Standing). e.net) stands
  taken_ground c false w is stands = absurd (none_some c (sym (ap (λ (e : Standing). e.cell) stands) ∙ is))

  cell_ground : (cell : Option Checkpoint) → (standing s).cell ≡ cell → settled_from now (standing s) cell ≡ Some (restored_to from)
      → ground_settling (recover_cell now (standing s) cell) ≡ Some from
  cell_ground None is stands = ap (λ (e : Standing). e.net) (same_some (standing s) (restored_to from) stands)
  cell_ground (Some c) is stands =
      let w = fit.whole c is in
      let t = taken_back now c.phase c.made c.deadline in
      taken_ground c t w is (same_some (by_taken_back (standing s) t w.saved) (restored_to from)
      (sym (ap (λ (n : Option NetData). option_map (λ (saved : NetData). by_taken_back (standing s) t saved) n) w.is_saved) ∙ stands))

  pub ground_is : settled now (standing s) ≡ Some (restored_to from) → ground_settling (recover now (standing s)) ≡ Some from
  ground_is stands = cell_ground (standing s).cell refl stands

-- ---- its notes are those of the document

-- the change that is made, by whether it is to wait
abbrev made : Asked → NetData → NetData → Bool → Outcome Applied ApplyFault
made a from to no_commit =
    if no_commit then record { answer = Ok (record { deadline = Some (deadline_of a) }); after = record { net = Some to; cell = Some (waiting a from) } }
    else record { answer = Ok (record { deadline = None }); after = restored_to to }

abbrev answer_of : Outcome Applied ApplyFault → Answer
answer_of outcome = told said_applied apply_cause outcome.answer

module _ (r : Run) (p : PolicyData) (doc : Doc) (opts : ApplyOpts) (from : NetData) (is : document_on p from ≡ Ok doc) (honest : r.honest) (ground : ground_settling (recover r.now (reads r)) ≡ Some from) where
  abbrev Evaluated : Result Order Cause
  Evaluated = Ok (applying_policy p opts)

  abbrev Stated : Result Order Cause
  Stated = Ok (applying doc opts)

  abbrev On : NetData → Type 0
  On net = Grounds r Evaluated net

  noted_is : (cause : Cause) (text : Text) → NotedOn On p cause text → text ≡ noted Stated cause
  noted_is cause text n =
      let net : n.net ≡ from = same_some n.net from (sym (n.is_on.stood honest) ∙ ground) in
      let same : n.doc ≡ doc = same_document n.doc doc (sym n.reads ∙ ap (document_on p) net ∙ is) in
      n.is ∙ ap (λ (d : Doc). note_lines d.notes ++ error_line cause) same

  -- told of one, with these errors, it is told of the other
  told_so : (answer : Answer) → ((text : Text) → ApplyErr (TakesFirst r) On p (cause_of answer) text → ErrText Stated (cause_of answer) text) → Told r Evaluated answer → Told r Stated answer
  told_so answer errors t = record { out = t.out; err = t.err; is_out = t.is_out; is_err = errors t.err t.is_err; written = t.written }

  told_memory : Told r Evaluated (Err OutOfMemory) → Told r Stated (Err OutOfMemory)
  told_memory t = told_so (Err OutOfMemory)
      (λ text e. elim e as (λ v. ErrText Stated OutOfMemory text) [ inl line ↦ inl line | inr notes ↦ inr (noted_is OutOfMemory text notes) ]) t

  abbrev Errors : Outcome Applied ApplyFault → Type 0
  Errors outcome = (text : Text) → ApplyErr (TakesFirst r) On p (cause_of (answer_of outcome)) text → ErrText Stated (cause_of (answer_of outcome)) text

  of_made : (a : Asked) (to : NetData) (no_commit : Bool) → Errors (made a from to no_commit)
  of_made a to true text e = noted_is Done text e
  of_made a to false text e = noted_is Done text e

  of_merged : (a : Asked) (m : Result NetData Refused) → Errors (merged_as a from m)
  of_merged a (Ok to) = of_made a to a.opts.no_commit
  of_merged a (Err refused) = λ text e. noted_is (MergeRefused refused) text e

  module _ (fit : Fit r.host.state) (stands : settled r.now (reads r) ≡ Some (restored_to from)) where
    abbrev As : Asked
    As = asked doc opts r.now

    same : apply_policy p opts r.now (reads r) ≡ told_of said_applied apply_cause (apply As (reads r))
    same = policy_is p opts r.now from doc is r.host.state fit stands

    as_machine : IsMachine r Evaluated → IsMachine r Stated
    as_machine m =
        let answer : expected r Evaluated ≡ expected r Stated = ap (λ (o : Outcome Said Cause). o.answer) same in
        let errors : Errors (apply As (reads r)) = subst Errors (sym (apply_is As from r.host.state fit stands)) (of_merged As (merge from doc)) in
        record { told = told_so (expected r Stated) errors (subst (Told r Evaluated) answer m.told); stands = m.stands ∙ ap (λ (o : Outcome Said Cause). o.after) same }

    as_stated : IsMachine r Evaluated ⊎ Told r Evaluated (Err OutOfMemory) → IsMachine r Stated ⊎ Told r Stated (Err OutOfMemory)
    as_stated (inl m) = inl (as_machine m)
    as_stated (inr t) = inr (told_memory t)

by_order : (r : Run) → Answered r → (doc : Doc) (opts : ApplyOpts) (from : NetData) (order : Result Order Cause) → AppliesTo from order doc opts → Asks r order → Alone r → Fit r.host.state
    → settled r.now (reads r) ≡ Some (restored_to from) → Quiet r → IsMachine r (Ok (applying doc opts)) ⊎ Told r (Ok (applying doc opts)) (Err OutOfMemory)
by_order r a doc opts from order (inl is) asks alone fit stands quiet = complete r a (Ok (applying doc opts)) alone (subst (Asks r) is asks) quiet
by_order r a doc opts from order (inr policy) asks alone fit stands quiet =
    let p = policy.0 in
    as_stated r p doc opts from policy.2 alone.honest (ground_is r.now from r.host.state fit stands) fit stands (complete r a (Ok (applying_policy p opts)) alone (subst (Asks r) policy.1 asks) quiet)

pub as_document : (r : Run) → Answered r → AppliesAsDocument r
as_document r a doc opts from alone asks stands quiet =
    by_order r a doc opts from asks.0 asks.1 asks.2 alone (alone.sound.fit r.host.state (a.goes_on.lawful.reads (a.goes_on.tells alone.honest))) stands quiet

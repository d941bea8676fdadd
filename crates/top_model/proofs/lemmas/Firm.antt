-- States with a network from which a recovery leads back; what the machine makes of two that settle alike settles alike.
use Rattle.std.proofs.Common.{◌≡◌, ◌∙◌, ◌⊎◌, inl, inr, refl, sym, ap, subst, arith, ℕ, Bool, true, false, List, Option, Some, None}
use Rattle.std.specs.Prelude.{⊤, Result, Ok, Err, option_map, if◌then◌else◌}
use Rattle.std.proofs.lemmas.Bool.Decides.{nat_tests}
use Rattle.net_model.specs.NetData.{NetData}
use Rattle.net_model.specs.declared.Link.{Link}
use Rattle.document_model.specs.declared.Refused.{Refused}
use Rattle.host_core.specs.HostView.{State, HostView}
use Rattle.checkpoint_cell.specs.Cell.{Checkpoint, is_due, applying as applying_cell}
use Rattle.checkpoint_cell.specs.Settled.{Standing, standing, restored_to, taken_back, settled_from, settled, Alike}
use Rattle.checkpoint_cell.specs.declared.Phase.{Phase}
use Rattle.checkpoint_cell.specs.declared.Phase.TheVariants.{Applying, Waiting}
use Rattle.merge_model.specs.MergedNet.{merge}
use Rattle.engine_model.specs.Machine.{Asked, asked, Outcome, stays, unless_differing, saved_on, restored_as, restore, rollback_cell, rollback, recover_cell, recover, committed, commit_phase, commit_cell, commit, changed, waiting, deadline_of, change, merged_as, apply_step, apply}
use Rattle.engine_model.specs.Sound.{Fit, Sound}
use Rattle.engine_model.specs.declared.Recovered.{Recovered}
use Rattle.engine_model.specs.declared.Recovered.TheVariants.{Waiting as Waits, Restored}
use Rattle.engine_model.specs.declared.BackFault.{BackFault}
use Rattle.engine_model.specs.declared.BackFault.TheVariants as ba
use Rattle.engine_model.specs.declared.CommitFault.{CommitFault}
use Rattle.engine_model.specs.declared.CommitFault.TheVariants as co
use Rattle.engine_model.specs.declared.Applied.{Applied}
use Rattle.engine_model.specs.declared.ApplyFault.{ApplyFault}
use Rattle.engine_model.specs.declared.ApplyFault.TheVariants as ap_fault
use Rattle.engine_model.specs.Stations.{at}
use Rattle.engine_model.specs.Exit.{Unsettled}
use Rattle.engine_model.proofs.lemmas.Leading.{alike_is}
use Rattle.engine_model.proofs.lemmas.SameDevices.{differing_none}
use Rattle.engine_model.specs.declared.ApplyOpts.{ApplyOpts}
use Rattle.policy_model.specs.Values.{PolicyData}
use Rattle.top_model.specs.Said.{Said}
use Rattle.top_model.specs.Orders.{Order, showing, planning, evaluating, planning_policy, applying_policy, simulating, applying, committing, rolling_back, recovering, checking, making, generating}
use Rattle.top_model.specs.Machine.{apply_on, apply_settling, apply_policy, make_on, machine_of}
use Rattle.top_model.specs.declared.report.Cause.{Cause}
use Rattle.top_model.proofs.lemmas.Settles.{same_some}

-- the checkpoint can be gone back to: its network is there, and what runs has the same devices
pub record Saved (e : Standing) (c : Checkpoint) : Type 0 where
  pub saved : NetData
  pub is_saved : c.net ≡ Some saved
  pub goes : saved_on c.net e.net ≡ Ok saved

abbrev pub IsBacked : Standing → Type 0
IsBacked e = (c : Checkpoint) → e.cell ≡ Some c → Saved e c

pub record Firm (e : Standing) : Type 0 where
  pub net : NetData
  pub is_net : e.net ≡ Some net
  pub backed : IsBacked e

none_some : {A : Type 0} (x : A) → None ≡ Some x → ⊥
none_some x e = cc

true_false : true ≡ false → ⊥
true_false e = cc

-- ---- what a state settles to

abbrev pub by_taken_back : Standing → Bool → NetData → Standing
by_taken_back e taken saved = if taken then restored_to saved else e

pub settled_none : (now : ℕ) (e : Standing) → e.cell ≡ None → settled now e ≡ Some e
settled_none now e is = ap (settled_from now e) is

pub settled_some : (now : ℕ) (e : Standing) (c : Checkpoint) (saved : NetData) → e.cell ≡ Some c → c.net ≡ Some saved
    → settled now e ≡ Some (by_taken_back e (taken_back now c.phase c.made c.deadline) saved)
settled_some now e c saved is has =
    ap (settled_from now e) is ∙ ap (λ (n : Option NetData). option_map (λ (saved : NetData). by_taken_back e (taken_back now c.phase c.made c.deadline) saved) n) has

settled_bad : (now : ℕ) (e : Standing) (c : Checkpoint) → e.cell ≡ Some c → c.net ≡ None → settled now e ≡ None
settled_bad now e c is has =
    ap (settled_from now e) is ∙ ap (λ (n : Option NetData). option_map (λ (saved : NetData). by_taken_back e (taken_back now c.phase c.made c.deadline) saved) n) has

-- it settles to itself, or goes back to its network
abbrev SelfOrBack : Standing → Standing → Type 0
SelfOrBack r x = (r ≡ x) ⊎ ((saved : NetData) × (x ≡ restored_to saved))

self_taken : (r x : Standing) (saved : NetData) (taken : Bool) → by_taken_back r taken saved ≡ x → SelfOrBack r x
self_taken r x saved true is = inr (saved, sym is)
self_taken r x saved false is = inl is

self_net : (now : ℕ) (r x : Standing) (c : Checkpoint) → r.cell ≡ Some c → (n : Option NetData) → c.net ≡ n → settled now r ≡ Some x → SelfOrBack r x
self_net now r x c is None has to = absurd (none_some x (sym (settled_bad now r c is has) ∙ to))
self_net now r x c is (Some saved) has to =
    let t = taken_back now c.phase c.made c.deadline in self_taken r x saved t (same_some (by_taken_back r t saved) x (sym (settled_some now r c saved is has) ∙ to))

self_cell : (now : ℕ) (r x : Standing) (cell : Option Checkpoint) → r.cell ≡ cell → settled now r ≡ Some x → SelfOrBack r x
self_cell now r x None is to = inl (same_some r x (sym (settled_none now r is) ∙ to))
self_cell now r x (Some c) is to = self_net now r x c is c.net refl to

pub self_or_back : (now : ℕ) (r x : Standing) → settled now r ≡ Some x → SelfOrBack r x
self_or_back now r x to = self_cell now r x r.cell refl to

-- it settles to this network at each moment
abbrev pub Closed : NetData → Standing → Type 0
Closed saved e = (now : ℕ) → settled now e ≡ Some (restored_to saved)

-- ---- two that settle alike: they are one, or both go back to one network at each moment

abbrev pub Kin : Standing → Standing → Type 0
Kin r e = (r ≡ e) ⊎ ((saved : NetData) × Closed saved r × Closed saved e)

always_due : (made deadline now : ℕ) → is_due made deadline made ≡ true → is_due made deadline now ≡ true
always_due made deadline now due = grind (arith, nat_tests)

module _ (e r : Standing) (like : Alike r e) where
  kin_self : (now : ℕ) → settled now e ≡ Some e → Kin r e
  kin_self now stays = elim (self_or_back now r e (like now ∙ stays)) as (λ v. Kin r e) [
    | inl same ↦ inl same
    | inr back ↦ inr (back.0, λ m. like m ∙ ap (settled m) back.1, λ m. ap (settled m) back.1)
  ]

  module _ (c : Checkpoint) (is : e.cell ≡ Some c) (w : Saved e c) where
    kin_always : ((now : ℕ) → taken_back now c.phase c.made c.deadline ≡ true) → Kin r e
    kin_always taken =
        let closed : Closed w.saved e = λ m. settled_some m e c w.saved is w.is_saved ∙ ap (λ (t : Bool). Some (by_taken_back e t w.saved)) (taken m) in
        inr (w.saved, λ m. like m ∙ closed m, closed)

    kin_due : c.phase ≡ Waiting → (due : Bool) → is_due c.made c.deadline c.made ≡ due → Kin r e
    kin_due phase true due = kin_always (λ m. ap (λ p. taken_back m p c.made c.deadline) phase ∙ always_due c.made c.deadline m due)
    kin_due phase false due = kin_self c.made (settled_some c.made e c w.saved is w.is_saved
        ∙ ap (λ (t : Bool). Some (by_taken_back e t w.saved)) (ap (λ p. taken_back c.made p c.made c.deadline) phase ∙ due))

    kin_phase : (phase : Phase) → c.phase ≡ phase → Kin r e
    kin_phase Applying phase = kin_always (λ m. ap (λ p. taken_back m p c.made c.deadline) phase)
    kin_phase Waiting phase = kin_due phase (is_due c.made c.deadline c.made) refl

  kin_cell : IsBacked e → (cell : Option Checkpoint) → e.cell ≡ cell → Kin r e
  kin_cell backed None is = kin_self 0 (settled_none 0 e is)
  kin_cell backed (Some c) is = kin_phase c is (backed c is) c.phase refl

  pub kin : IsBacked e → Kin r e
  kin backed = kin_cell backed e.cell refl

-- ---- what the machine makes of one that goes back to a network at each moment

abbrev recovered : Standing → Checkpoint → Bool → Outcome Recovered BackFault
recovered e c taken = if taken then restore Restored e c else stays e (Ok (Waits c.deadline))

abbrev ended : Standing → Checkpoint → Bool → Outcome ⊤ CommitFault
ended e c due = if due then stays e (Err (co.Expired c.made c.deadline)) else record { answer = Ok tt; after = committed e }

pub back_to : {A : Type 0} (done : A) (e : Standing) (c : Checkpoint) (saved : NetData) → saved_on c.net e.net ≡ Ok saved → restore done e c ≡ record { answer = Ok done; after = restored_to saved }
back_to done e c saved goes = ap (restored_as done e) goes

module _ (e : Standing) (saved : NetData) (backed : IsBacked e) (closed : Closed saved e) where
  closed_none : e.cell ≡ None → e ≡ restored_to saved
  closed_none is = same_some e (restored_to saved) (sym (settled_none 0 e is) ∙ closed 0)

  is_taken : (c : Checkpoint) → e.cell ≡ Some c → (was : NetData) (taken : Bool) → by_taken_back e taken was ≡ restored_to saved → (taken ≡ true) × (was ≡ saved)
  is_taken c is was true to = (refl, same_some was saved (ap (λ (x : Standing). x.net) to))
  is_taken c is was false to = absurd (none_some c (sym (ap (λ (x : Standing). x.cell) to) ∙ is))

  pub closed_taken : (c : Checkpoint) → e.cell ≡ Some c → (now : ℕ) → (taken_back now c.phase c.made c.deadline ≡ true) × (saved_on c.net e.net ≡ Ok saved)
  closed_taken c is now =
      let w = backed c is in
      let t = taken_back now c.phase c.made c.deadline in
      let to = is_taken c is w.saved t (same_some (by_taken_back e t w.saved) (restored_to saved) (sym (settled_some now e c w.saved is w.is_saved) ∙ closed now)) in
      (to.0, w.goes ∙ ap Ok to.1)

  recover_cell_to : (now : ℕ) (cell : Option Checkpoint) → e.cell ≡ cell → (recover_cell now e cell).after ≡ restored_to saved
  recover_cell_to now None is = closed_none is
  recover_cell_to now (Some c) is =
      let t = closed_taken c is now in
      ap (λ (b : Bool). (recovered e c b).after) t.0 ∙ ap (λ (o : Outcome Recovered BackFault). o.after) (back_to Restored e c saved t.1)

  pub recover_to : (now : ℕ) → (recover now e).after ≡ restored_to saved
  recover_to now = recover_cell_to now e.cell refl

  rollback_cell_to : (cell : Option Checkpoint) → e.cell ≡ cell → (rollback_cell e cell).after ≡ restored_to saved
  rollback_cell_to None is = closed_none is
  rollback_cell_to (Some c) is = ap (λ (o : Outcome ⊤ BackFault). o.after) (back_to tt e c saved (closed_taken c is 0).1)

  pub rollback_to : (rollback e).after ≡ restored_to saved
  rollback_to = rollback_cell_to e.cell refl

  commit_phase_to : (now : ℕ) (c : Checkpoint) → e.cell ≡ Some c → (phase : Phase) → c.phase ≡ phase → (commit_phase now e c phase).after ≡ e
  commit_phase_to now c is Applying phase = refl
  commit_phase_to now c is Waiting phase = ap (λ (b : Bool). (ended e c b).after) (sym (ap (λ p. taken_back now p c.made c.deadline) phase) ∙ (closed_taken c is now).0)

  commit_cell_to : (now : ℕ) (cell : Option Checkpoint) → e.cell ≡ cell → (commit_cell now e cell).after ≡ e
  commit_cell_to now None is = refl
  commit_cell_to now (Some c) is = commit_phase_to now c is c.phase refl

  pub commit_to : (now : ℕ) → (commit now e).after ≡ e
  commit_to now = commit_cell_to now e.cell refl

  apply_cell_to : (a : Asked) (cell : Option Checkpoint) → e.cell ≡ cell → apply_step a (recover_cell a.now e cell) ≡ merged_as a saved (merge saved a.doc)
  apply_cell_to a None is = ap (λ (x : Standing). change a x x.net) (closed_none is)
  apply_cell_to a (Some c) is = let t = closed_taken c is a.now in ap (λ (b : Bool). apply_step a (recovered e c b)) t.0 ∙ ap (apply_step a) (back_to Restored e c saved t.1)

  pub apply_to : (a : Asked) → apply a e ≡ merged_as a saved (merge saved a.doc)
  apply_to a = apply_cell_to a e.cell refl

  policy_cell_to : (p : PolicyData) (opts : ApplyOpts) (now : ℕ) (cell : Option Checkpoint) → e.cell ≡ cell
      → apply_settling p opts now (recover_cell now e cell) ≡ apply_on p opts now (restored_to saved) (Some saved)
  policy_cell_to p opts now None is = ap (λ (x : Standing). apply_on p opts now x x.net) (closed_none is)
  policy_cell_to p opts now (Some c) is =
      let t = closed_taken c is now in
      ap (λ (b : Bool). apply_settling p opts now (recovered e c b)) t.0 ∙ ap (apply_settling p opts now) (back_to Restored e c saved t.1)

  -- a policy is evaluated on that network
  pub policy_to : (p : PolicyData) (opts : ApplyOpts) (now : ℕ) → apply_policy p opts now e ≡ apply_on p opts now (restored_to saved) (Some saved)
  policy_to p opts now = policy_cell_to p opts now e.cell refl

-- ---- after each order

abbrev pub after_of : ℕ → Result Order Cause → Standing → Standing
after_of now order e = (machine_of now order e).after

pub make_stays : (links : List Link) (e : Standing) (net : NetData) → e.net ≡ Some net → (make_on links e e.net).after ≡ e
make_stays links e net is = ap (λ (n : Option NetData). (make_on links e n).after) is

module _ (now : ℕ) (e r : Standing) (firm : Firm e) (other : Firm r) (like : Alike r e) where
  closed_after : (saved : NetData) → Closed saved r → Closed saved e → (order : Result Order Cause) → Alike (after_of now order r) (after_of now order e)
  closed_after saved closed_r closed_e (Ok (applying doc opts)) =
      let a = asked doc opts now in
      alike_is (apply a r).after (apply a e).after (ap (λ (o : Outcome Applied ApplyFault). o.after) (apply_to r saved other.backed closed_r a ∙ sym (apply_to e saved firm.backed closed_e a)))
  closed_after saved closed_r closed_e (Ok (applying_policy p opts)) =
      alike_is (apply_policy p opts now r).after (apply_policy p opts now e).after
      (ap (λ (o : Outcome Said Cause). o.after) (policy_to r saved other.backed closed_r p opts now ∙ sym (policy_to e saved firm.backed closed_e p opts now)))
  closed_after saved closed_r closed_e (Ok committing) =
      λ m. ap (settled m) (commit_to r saved other.backed closed_r now) ∙ like m ∙ sym (ap (settled m) (commit_to e saved firm.backed closed_e now))
  closed_after saved closed_r closed_e (Ok rolling_back) =
      alike_is (rollback r).after (rollback e).after (rollback_to r saved other.backed closed_r ∙ sym (rollback_to e saved firm.backed closed_e))
  closed_after saved closed_r closed_e (Ok recovering) =
      alike_is (recover now r).after (recover now e).after (recover_to r saved other.backed closed_r now ∙ sym (recover_to e saved firm.backed closed_e now))
  closed_after saved closed_r closed_e (Ok (making links)) =
      λ m. ap (settled m) (make_stays links r other.net other.is_net) ∙ like m ∙ sym (ap (settled m) (make_stays links e firm.net firm.is_net))
  closed_after saved closed_r closed_e (Ok checking) = like
  closed_after saved closed_r closed_e (Ok (showing only json)) = like
  closed_after saved closed_r closed_e (Ok (planning doc in_batch)) = like
  closed_after saved closed_r closed_e (Ok (evaluating p)) = like
  closed_after saved closed_r closed_e (Ok (planning_policy p in_batch)) = like
  closed_after saved closed_r closed_e (Ok (simulating calls)) = like
  closed_after saved closed_r closed_e (Ok (generating devices first second)) = like
  closed_after saved closed_r closed_e (Err refusal) = like

  -- what the machine makes of both settles alike
  pub same_after : (order : Result Order Cause) → Alike (after_of now order r) (after_of now order e)
  same_after order = elim (kin e r like firm.backed) as (λ v. Alike (after_of now order r) (after_of now order e)) [
    | inl same ↦ alike_is (after_of now order r) (after_of now order e) (ap (after_of now order) same)
    | inr closed ↦ closed_after closed.0 closed.1 closed.2 order
  ]

  -- an apply makes one and the same of both
  pub same_apply : (a : Asked) → (apply a r).after ≡ (apply a e).after
  same_apply a = elim (kin e r like firm.backed) as (λ v. (apply a r).after ≡ (apply a e).after) [
    | inl same ↦ ap (λ (x : Standing). (apply a x).after) same
    | inr closed ↦ ap (λ (o : Outcome Applied ApplyFault). o.after) (apply_to r closed.0 other.backed closed.1 a ∙ sym (apply_to e closed.0 firm.backed closed.2 a))
  ]

  -- and so does an apply of a policy
  pub same_policy : (p : PolicyData) (opts : ApplyOpts) → (apply_policy p opts now r).after ≡ (apply_policy p opts now e).after
  same_policy p opts = elim (kin e r like firm.backed) as (λ v. (apply_policy p opts now r).after ≡ (apply_policy p opts now e).after) [
    | inl same ↦ ap (λ (x : Standing). (apply_policy p opts now x).after) same
    | inr closed ↦ ap (λ (o : Outcome Said Cause). o.after) (policy_to r closed.0 other.backed closed.1 p opts now ∙ sym (policy_to e closed.0 firm.backed closed.2 p opts now))
  ]

-- ---- which states are firm

pub firm_restored : (saved : NetData) → Firm (restored_to saved)
firm_restored saved = record { net = saved; is_net = refl; backed = λ c is. absurd (none_some c is) }

pub firm_settled : (now : ℕ) (e x : Standing) → Firm e → settled now e ≡ Some x → Firm x
firm_settled now e x firm is = elim (self_or_back now e x is) as (λ v. Firm x) [ inl same ↦ subst Firm same firm | inr back ↦ subst Firm (sym back.1) (firm_restored back.0) ]

firm_bare : (e : Standing) → Firm e → Firm (committed e)
firm_bare e firm = record { net = firm.net; is_net = firm.is_net; backed = λ c is. absurd (none_some c is) }

firm_ended : (e : Standing) (c : Checkpoint) (due : Bool) → Firm e → Firm (ended e c due).after
firm_ended e c true firm = firm
firm_ended e c false firm = firm_bare e firm

firm_phase : (now : ℕ) (e : Standing) (c : Checkpoint) (phase : Phase) → Firm e → Firm (commit_phase now e c phase).after
firm_phase now e c Applying firm = firm
firm_phase now e c Waiting firm = firm_ended e c (is_due c.made c.deadline now) firm

firm_commit_cell : (now : ℕ) (e : Standing) (cell : Option Checkpoint) → Firm e → Firm (commit_cell now e cell).after
firm_commit_cell now e None firm = firm
firm_commit_cell now e (Some c) firm = firm_phase now e c c.phase firm

pub firm_commit : (now : ℕ) (e : Standing) → Firm e → Firm (commit now e).after
firm_commit now e firm = firm_commit_cell now e e.cell firm

firm_restore : {A : Type 0} (done : A) (e : Standing) (m : Result NetData BackFault) → Firm e → Firm (restored_as done e m).after
firm_restore done e (Ok saved) firm = firm_restored saved
firm_restore done e (Err fault) firm = firm

firm_rollback_cell : (e : Standing) (cell : Option Checkpoint) → Firm e → Firm (rollback_cell e cell).after
firm_rollback_cell e None firm = firm
firm_rollback_cell e (Some c) firm = firm_restore tt e (saved_on c.net e.net) firm

pub firm_rollback : (e : Standing) → Firm e → Firm (rollback e).after
firm_rollback e firm = firm_rollback_cell e e.cell firm

firm_recovered : (e : Standing) (c : Checkpoint) (taken : Bool) → Firm e → Firm (recovered e c taken).after
firm_recovered e c true firm = firm_restore Restored e (saved_on c.net e.net) firm
firm_recovered e c false firm = firm

firm_recover_cell : (now : ℕ) (e : Standing) (cell : Option Checkpoint) → Firm e → Firm (recover_cell now e cell).after
firm_recover_cell now e None firm = firm
firm_recover_cell now e (Some c) firm = firm_recovered e c (taken_back now c.phase c.made c.deadline) firm

pub firm_recover : (now : ℕ) (e : Standing) → Firm e → Firm (recover now e).after
firm_recover now e firm = firm_recover_cell now e e.cell firm

-- ---- what a sound host leaves

-- a state that a recovery leads back from
pub backed_fit : (s : State) → Fit s → IsBacked (standing s)
backed_fit s fit c is =
    let w = fit.whole c is in
    record {
      saved = w.saved;
      is_saved = w.is_saved;
      goes = ap (λ (x : Option NetData). saved_on x s.net) w.is_saved ∙ ap (λ (x : Option NetData). saved_on (Some w.saved) x) w.is_net
          ∙ ap (unless_differing w.saved) (differing_none w.saved w.net (sym w.devices));
    }

no_network : (saved : NetData) → saved_on (Some saved) None ≡ Ok saved → ⊥
no_network saved e = let f : Err (ba.Damaged 0) ≡ Ok saved = e in cc

net_of_backed : (e : Standing) (saved : NetData) (n : Option NetData) → e.net ≡ n → saved_on (Some saved) e.net ≡ Ok saved → (net : NetData) × (e.net ≡ Some net)
net_of_backed e saved None is goes = absurd (no_network saved (sym (ap (λ (x : Option NetData). saved_on (Some saved) x) is) ∙ goes))
net_of_backed e saved (Some net) is goes = (net, is)

firm_like_cell : (st x : Standing) → Firm st → Alike st x → IsBacked x → (cell : Option Checkpoint) → x.cell ≡ cell → Firm x
firm_like_cell st x firm like backed None is = elim (self_or_back 0 st x (like 0 ∙ settled_none 0 x is)) as (λ v. Firm x) [
  | inl same ↦ subst Firm same firm
  | inr back ↦ subst Firm (sym back.1) (firm_restored back.0)
]
firm_like_cell st x firm like backed (Some c) is =
    let w = backed c is in
    let net = net_of_backed x w.saved x.net refl (sym (ap (λ (n : Option NetData). saved_on n x.net) w.is_saved) ∙ w.goes) in
    record { net = net.0; is_net = net.1; backed = backed }

-- one that settles like a firm one, and that a recovery leads back from, is firm
pub firm_like : (st x : Standing) → Firm st → Alike st x → IsBacked x → Firm x
firm_like st x firm like backed = firm_like_cell st x firm like backed x.cell refl

-- each state that a sound host with a network may leave is firm
pub firm_left : (host : HostView) → Sound host → (net : NetData) → host.state.net ≡ Some net → host.stops.may_leave host.state → (s : State) → host.stops.may_leave s → Firm (standing s)
firm_left host sound net is here s left = elim sound.one as (λ v. Firm (standing s)) [
  | inl one ↦ record { net = net; is_net = one.1 s left ∙ sym (one.1 host.state here) ∙ is; backed = backed_fit s (sound.fit s left) }
  | inr all ↦ let at = all.1 s left in let w = (sound.fit s left).whole (applying_cell at.0 at.1 all.0) at.2 in record { net = w.net; is_net = w.is_net; backed = backed_fit s (sound.fit s left) }
]

-- ---- what an apply leads to

-- it stays where a change waits; else the document is merged into what was settled
pub data Applies (a : Asked) (e : Standing) : Type 0 where
  it_waits : (deadline : ℕ) → apply a e ≡ stays e (Err (ap_fault.Pending deadline)) → settled a.now e ≡ Some e → Applies a e
  it_merges : (from : NetData) → apply a e ≡ merged_as a from (merge from a.doc) → settled a.now e ≡ Some (restored_to from) → Applies a e

module _ (a : Asked) (e : Standing) (firm : Firm e) where
  applies_taken : (c : Checkpoint) → e.cell ≡ Some c → (w : Saved e c) (taken : Bool) → taken_back a.now c.phase c.made c.deadline ≡ taken → apply a e ≡ apply_step a (recovered e c taken)
      → Applies a e
  applies_taken c is w true taken step = it_merges w.saved (step ∙ ap (apply_step a) (back_to Restored e c w.saved w.goes))
      (settled_some a.now e c w.saved is w.is_saved ∙ ap (λ (t : Bool). Some (by_taken_back e t w.saved)) taken)
  applies_taken c is w false taken step = it_waits c.deadline step (settled_some a.now e c w.saved is w.is_saved ∙ ap (λ (t : Bool). Some (by_taken_back e t w.saved)) taken)

  applies_cell : (cell : Option Checkpoint) → e.cell ≡ cell → Applies a e
  applies_cell None is =
      let same : e ≡ restored_to firm.net = λ i. record { net = firm.is_net i; cell = is i } in
      it_merges firm.net (ap (λ (c : Option Checkpoint). apply_step a (recover_cell a.now e c)) is ∙ ap (λ (x : Standing). change a x x.net) same) (settled_none a.now e is ∙ ap (λ (x : Standing). Some x) same)
  applies_cell (Some c) is =
      let t = taken_back a.now c.phase c.made c.deadline in
      applies_taken c is (firm.backed c is) t refl (ap (λ (x : Option Checkpoint). apply_step a (recover_cell a.now e x)) is
      ∙ refl)

  pub applies : Applies a e
  applies = applies_cell e.cell refl

abbrev left_waiting : Asked → NetData → NetData → Standing
left_waiting a from to = record { net = Some to; cell = Some (waiting a from) }

abbrev changed_by : Asked → NetData → NetData → Bool → Standing
changed_by a from to no_commit = if no_commit then left_waiting a from to else restored_to to

abbrev pub changed_when : Asked → NetData → NetData → Bool → Outcome Applied ApplyFault
changed_when a from to no_commit =
    if no_commit then record { answer = Ok (record { deadline = Some (deadline_of a) }); after = record { net = Some to; cell = Some (waiting a from) } }
    else record { answer = Ok (record { deadline = None }); after = restored_to to }

when_is : (a : Asked) (from to : NetData) (no_commit : Bool) → (changed_when a from to no_commit).after ≡ changed_by a from to no_commit
when_is a from to true = refl
when_is a from to false = refl

changed_is : (a : Asked) (from to : NetData) (no_commit : Bool) → a.opts.no_commit ≡ no_commit → (changed a from to).after ≡ changed_by a from to no_commit
changed_is a from to no_commit is = when_is a from to a.opts.no_commit ∙ ap (changed_by a from to) is

-- what a merge leads to is firm, or the change that waits, which goes back to the network that was merged into
pub data MergedTo (a : Asked) (from : NetData) (y : Standing) : Type 0 where
  is_bare : Firm y → MergedTo a from y
  is_left : (to : NetData) → y ≡ left_waiting a from to → MergedTo a from y

changed_to : (a : Asked) (from to : NetData) (no_commit : Bool) → a.opts.no_commit ≡ no_commit → (y : Standing) → y ≡ (changed a from to).after → MergedTo a from y
changed_to a from to true is y same = is_left to (same ∙ changed_is a from to true is)
changed_to a from to false is y same = is_bare (subst Firm (sym (same ∙ changed_is a from to false is)) (firm_restored to))

-- what the merge of an apply leads to
pub merged_to : (a : Asked) (from : NetData) (m : Result NetData Refused) (y : Standing) → y ≡ (merged_as a from m).after → MergedTo a from y
merged_to a from (Ok to) y same = changed_to a from to a.opts.no_commit refl y same
merged_to a from (Err refused) y same = is_bare (subst Firm (sym same) (firm_restored from))

-- what an apply leads to is firm, where what is left settles like it; or that settles like what was merged into
abbrev pub FirmOrBack : Asked → Standing → Standing → Standing → Type 0
FirmOrBack a e y p = Firm y ⊎ ((from : NetData) × (settled a.now e ≡ Some (restored_to from)) × Alike (restored_to from) p)

same_saved : (y : Standing) (c : Checkpoint) (from saved : NetData) (taken : Bool) → y.cell ≡ Some c → by_taken_back y taken from ≡ restored_to saved → from ≡ saved
same_saved y c from saved true is to = same_some from saved (ap (λ (x : Standing). x.net) to)
same_saved y c from saved false is to = absurd (none_some c (sym (ap (λ (x : Standing). x.cell) to) ∙ is))

module _ (a : Asked) (e y p : Standing) (like : Alike y p) (backed : IsBacked p) where
  back_from : (from to : NetData) → settled a.now e ≡ Some (restored_to from) → y ≡ left_waiting a from to → (saved : NetData) → Closed saved y → Closed saved p → FirmOrBack a e y p
  back_from from to stands same saved closed_y closed_p =
      let c = waiting a from in
      let is : y.cell ≡ Some c = ap (λ (x : Standing). x.cell) same in
      let t = taken_back 0 c.phase c.made c.deadline in
      let one : from ≡ saved = same_saved y c from saved t is (same_some (by_taken_back y t from) (restored_to saved) (sym (settled_some 0 y c from is refl) ∙ closed_y 0)) in
      inr (from, stands, λ m. ap (λ (n : NetData). Some (restored_to n)) one ∙ sym (closed_p m))

  -- of what a merge leads to
  pub left_or_back : (from : NetData) → settled a.now e ≡ Some (restored_to from) → MergedTo a from y → FirmOrBack a e y p
  left_or_back from stands (is_bare firm) = inl firm
  left_or_back from stands (is_left to same) = elim (kin p y like backed) as (λ v. FirmOrBack a e y p) [
    | inl one ↦ inl (record { net = to; is_net = ap (λ (x : Standing). x.net) same; backed = subst IsBacked (sym one) backed })
    | inr closed ↦ back_from from to stands same closed.0 closed.1 closed.2
  ]

  by_applies : Firm e → y ≡ (apply a e).after → Applies a e → FirmOrBack a e y p
  by_applies firm same (it_waits deadline is stands) = inl (subst Firm (sym (same ∙ ap (λ (o : Outcome Applied ApplyFault). o.after) is)) firm)
  by_applies firm same (it_merges from is stands) = left_or_back from stands (merged_to a from (merge from a.doc) y (same ∙ ap (λ (o : Outcome Applied ApplyFault). o.after) is))

  pub firm_or_back : Firm e → y ≡ (apply a e).after → FirmOrBack a e y p
  firm_or_back firm same = by_applies firm same (applies a e firm)

-- what a merge leads to is firm where a recovery leads back from it
pub firm_merged : (a : Asked) (from : NetData) (y : Standing) → IsBacked y → MergedTo a from y → Firm y
firm_merged a from y backed (is_bare f) = f
firm_merged a from y backed (is_left to gives) = record { net = to; is_net = ap (λ (x : Standing). x.net) gives; backed = backed }

by_applied : (a : Asked) (e y : Standing) → Firm e → y ≡ (apply a e).after → IsBacked y → Applies a e → Firm y
by_applied a e y firm same backed (it_waits deadline is stands) = subst Firm (sym (same ∙ ap (λ (o : Outcome Applied ApplyFault). o.after) is)) firm
by_applied a e y firm same backed (it_merges from is stands) =
    firm_merged a from y backed (merged_to a from (merge from a.doc) y (same ∙ ap (λ (o : Outcome Applied ApplyFault). o.after) is))

-- what an apply leads to is firm where a recovery leads back from it
pub firm_applied : (a : Asked) (e y : Standing) → Firm e → y ≡ (apply a e).after → IsBacked y → Firm y
firm_applied a e y firm same backed = by_applied a e y firm same backed (applies a e firm)

-- a change is to be taken back, or what stands settles to itself
abbrev pub UnsettledOrStays : ℕ → Standing → Type 0
UnsettledOrStays now e = Unsettled now (at e) ⊎ (settled now e ≡ Some e)

unsettled_taken : (now : ℕ) (e : Standing) (c : Checkpoint) → e.cell ≡ Some c → (w : Saved e c) (taken : Bool) → taken_back now c.phase c.made c.deadline ≡ taken → UnsettledOrStays now e
unsettled_taken now e c is w true taken = inl (record { checkpoint = c; is = is; taken = taken })
unsettled_taken now e c is w false taken = inr (settled_some now e c w.saved is w.is_saved ∙ ap (λ (t : Bool). Some (by_taken_back e t w.saved)) taken)

unsettled_cell : (now : ℕ) (e : Standing) → IsBacked e → (cell : Option Checkpoint) → e.cell ≡ cell → UnsettledOrStays now e
unsettled_cell now e backed None is = inr (settled_none now e is)
unsettled_cell now e backed (Some c) is = unsettled_taken now e c is (backed c is) (taken_back now c.phase c.made c.deadline) refl

pub unsettled_or_stays : (now : ℕ) (e : Standing) → IsBacked e → UnsettledOrStays now e
unsettled_or_stays now e backed = unsettled_cell now e backed e.cell refl

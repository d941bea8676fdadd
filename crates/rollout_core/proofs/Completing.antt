-- A rollout in which nothing fails commits each node, unless memory runs out.
use Rattle.std.proofs.Common.{◌≡◌, ◌⊎◌, inl, inr, ◌∙◌, ℕ, zero, suc, ◌+◌, ◌-◌, ◌^◌, ◌<◌, ◌≤◌, Bool, true, false, ◌||◌, List, [], ◌∷◌, ◌++◌, length, take, refl, ap, sym, subst, Option, Some, None, Ok, Err, arith}
use Rattle.std.specs.Prelude.{slice_get, find, if◌then◌else◌, leb, ltb}
use Rattle.std.specs.List.{list_any}
use Rattle.std.proofs.lemmas.Bool.{cases_Bool, or_cases, leb-true, ltb-true, cond-true, cond-false}
use Rattle.std.proofs.lemmas.List.{length-replicate}
use Rattle.net_model.specs.NetData.{NetData}
use Rattle.document_model.specs.declared.Doc.{Doc}
use Rattle.host_core.specs.Faults.{Rose}
use Rattle.host_core.specs.declared.Host.{Ghosts as HostGhosts}
use Rattle.checkpoint_cell.specs.Settled.{Standing, standing, restored_to}
use Rattle.engine_model.specs.Machine.{deadline_of}
use Rattle.merge_model.specs.MergedNet.{merge}
use Rattle.rollout_model.specs.Rollout.{Rollout, begun}
use Rattle.rollout_model.specs.Steps.{node_of, accepted}
use Rattle.rollout_model.specs.Rolls.{OneOf, IsFinished}
use Rattle.rollout_model.specs.Going.{Ends}
use Rattle.rollout_model.specs.Laws.{IsSafe}
use Rattle.rollout_model.specs.Safe.{is_halting}
use Rattle.rollout_model.specs.declared.node.NodeState.TheVariants.{Fresh}
use Rattle.rollout_model.specs.declared.node.Event.{Event}
use Rattle.rollout_model.specs.declared.node.Event.TheVariants as ev
use Rattle.rollout_model.proofs.lemmas.Together.{joined, run_together, accepted_together, in_range}
use Rattle.rollout_core.specs.Calm.{Calm, Completes, first_halting}
use Rattle.rollout_core.specs.Causes.{Comes, IsRefused, IsDue}
use Rattle.rollout_core.specs.Did.{change}
use Rattle.rollout_core.specs.Holding.{Holds}
use Rattle.rollout_core.specs.Trace.{Stepped, told_each, told_all, is_start_of, started}

-- ---- the events of the steps, together and apart

-- an event of all is one of some step
pub record InStep (steps : List Stepped) (event : Event) : Type 0 where
  pub k : ℕ
  pub step : Stepped
  pub at : slice_get steps k ≡ Some step
  pub one : OneOf step.events event

split_one : (xs ys : List Event) (e : Event) → OneOf (xs ++ ys) e → OneOf xs e ⊎ OneOf ys e
split_one [] ys e one = inr one
split_one (x ∷ xs) ys e one = elim one [
  | inl is ↦ inl (inl is)
  | inr more ↦ elim (split_one xs ys e more) [ inl here ↦ inl (inr here) | inr there ↦ inr there ]
]

in_step : (steps : List Stepped) (e : Event) → OneOf (told_all steps) e → InStep steps e
in_step [] e one = absurd one
in_step (s ∷ steps) e one = elim (split_one s.events (told_all steps) e one) [
  | inl here ↦ record { k = 0; step = s; at = refl; one = here }
  | inr there ↦ let i = in_step steps e there in record { k = suc i.k; step = i.step; at = i.at; one = i.one }
]

joined_all : (xs : List Stepped) → joined (told_each xs) ≡ told_all xs
joined_all [] = refl
joined_all (x ∷ xs) = ap (λ (l : List Event). x.events ++ l) (joined_all xs)

-- an item is where the list reaches
item_there : {X : Type 0} (xs : List X) (i : ℕ) → i < length xs → (x : X) × (slice_get xs i ≡ Some x)
item_there [] i lt = absurd (omega arith)
item_there (x ∷ xs) zero lt = (x, refl)
item_there (x ∷ xs) (suc i) lt = item_there xs i (omega arith)

-- what is found is there, and passes
found_one : (xs : List Event) (e : Event) → find is_halting xs ≡ Some e → OneOf xs e × (is_halting e ≡ true)
found_one [] e is = let c : None ≡ Some e = is in absurd (cc)
found_one (x ∷ xs) e is = elim (cases_Bool (is_halting x)) [
  | inl sure ↦
      let c : Some x ≡ Some e = sym (cond-true (is_halting x) (Some x) (find is_halting xs) sure) ∙ is in
      let same : x ≡ e = cc in (inl (sym same), subst (λ (y : Event). is_halting y ≡ true) same sure)
  | inr not_so ↦ let rest = found_one xs e (sym (cond-false (is_halting x) (Some x) (find is_halting xs) not_so) ∙ is) in (inr rest.0, rest.1)
]

found_none : (xs : List Event) → find is_halting xs ≡ None → list_any is_halting xs ≡ false
found_none [] is = refl
found_none (x ∷ xs) is = elim (cases_Bool (is_halting x)) [
  | inl sure ↦ let c : Some x ≡ None = sym (cond-true (is_halting x) (Some x) (find is_halting xs) sure) ∙ is in absurd (cc)
  | inr not_so ↦ ap (λ (b : Bool). b || list_any is_halting xs) not_so ∙ found_none xs (sym (cond-false (is_halting x) (Some x) (find is_halting xs) not_so) ∙ is)
]

-- ---- when a node was started

pub record StartedAt (steps : List Stepped) (at : ℕ) : Type 0 where
  pub j : ℕ
  pub step : Stepped
  pub is : slice_get steps j ≡ Some step
  pub when : step.at ≡ at

started_at : (i : ℕ) (steps : List Stepped) (at : ℕ) → started i steps ≡ Some at → StartedAt steps at
started_at i [] at is = let c : None ≡ Some at = is in absurd (cc)
started_at i (s ∷ steps) at is = elim (cases_Bool (list_any (is_start_of i) s.events)) [
  | inl sure ↦
      let c : Some s.at ≡ Some at = sym (ap (λ (b : Bool). if b then Some s.at else started i steps) sure) ∙ is in
      record { j = 0; step = s; is = refl; when = cc }
  | inr not_so ↦
      let rest = started_at i steps at (sym (ap (λ (b : Bool). if b then Some s.at else started i steps) not_so) ∙ is) in
      record { j = suc rest.j; step = rest.step; is = rest.is; when = rest.when }
]

-- an item of a front is one of the list, and stands before its end
in_front : (n j : ℕ) (xs : List Stepped) (s : Stepped) → slice_get (take n xs) j ≡ Some s → (slice_get xs j ≡ Some s) × (j < n)
in_front zero j xs s is = let c : None ≡ Some s = is in absurd (cc)
in_front (suc n) j [] s is = let c : None ≡ Some s = is in absurd (cc)
in_front (suc n) zero (x ∷ xs) s is = (is, omega arith)
in_front (suc n) (suc j) (x ∷ xs) s is = let rest = in_front n j xs s is in (rest.0, omega (arith, rest.1))

-- ---- no cause but memory is left

module _ {H : Type 0} (G : HostGhosts H) (doc : Doc) (timeout limit : ℕ) (first : List H) (steps : List Stepped) (last : Rollout) (ends_ : List H) (holds : Holds G doc timeout limit first steps last ends_)
    (calm : Calm G doc timeout first steps ends_) (safe : IsSafe) (ends_law : Ends) (some : 1 ≤ limit) (finished : IsFinished last) where
  -- of a node whose hosts are these
  module _ (k : ℕ) (step : Stepped) (event : Event) (f h : H) (at : slice_get steps k ≡ Some step) (one : OneOf step.events event) (at_first : slice_get first (node_of event) ≡ Some f)
      (at_end : slice_get ends_ (node_of event) ≡ Some h) where
    comes : Comes doc timeout (started (node_of event) (take (k + 1) steps)) (G.told f) (G.told h) step.at event
    comes = holds.causes k step event f h at one at_first at_end

    no_rise : Rose (G.told f).faults (G.told h).faults → ⊥
    no_rise = calm.quiet (node_of event) f h at_first at_end

    not_refused : IsRefused doc (standing (G.told f).state) → ⊥
    not_refused refused =
        let m = calm.merges (node_of event) f at_first in
        let e : restored_to m.0 ≡ restored_to refused.0 = sym m.2.stands ∙ refused.2 in
        let n : Some m.0 ≡ Some refused.0 = ap (λ (s : Standing). s.net) e in
        let same : m.0 ≡ refused.0 = cc in
        let c : Ok m.1 ≡ Err refused.1 = sym m.2.merges ∙ ap (λ (x : NetData). merge x doc) same ∙ refused.3 in
        cc

    has_net : (G.told f).state.net ≡ None → ⊥
    has_net none =
        let m = calm.merges (node_of event) f at_first in
        let c : Some m.0 ≡ None = sym (ap (λ (s : Standing). s.net) m.2.stands) ∙ none in
        cc

    not_due : (begun : Option ℕ) → started (node_of event) (take (k + 1) steps) ≡ begun → IsDue doc timeout begun step.at → ⊥
    not_due None is due = due
    not_due (Some begun) is due =
        let s = started_at (node_of event) (take (k + 1) steps) begun is in
        let front = in_front (k + 1) s.j steps s.step s.is in
        let before : s.step.at ≤ step.at = calm.rises s.j k s.step step (omega (arith, front.1)) front.0 at in
        let top : step.at < 2 ^ 64 - 1 = calm.below k step at in
        let left : step.at < begun + timeout = soon_by s.j s.step front.0 s.when in
        elim (or_cases (leb (deadline_of (change doc timeout begun)) step.at) (ltb step.at begun) due) [
          | inl late ↦ let le = leb-true (deadline_of (change doc timeout begun)) step.at late in omega (arith, le, top, left)
          | inr fell ↦ let lt = ltb-true step.at begun fell in omega (arith, lt, before, s.when)
        ]
      where
        early : (xs : List Stepped) (j : ℕ) (s : Stepped) → slice_get xs j ≡ Some s → (start : Stepped) × (slice_get xs 0 ≡ Some start)
        early [] j s is = let c : None ≡ Some s = is in absurd (cc)
        early (x ∷ xs) j s is = (x, refl)

        soon_by : (j : ℕ) (s : Stepped) → slice_get steps j ≡ Some s → s.at ≡ begun → step.at < begun + timeout
        soon_by j s at_s when =
            let first_one = early steps j s at_s in
            let before : first_one.0.at ≤ s.at = calm.rises 0 j first_one.0 s (omega arith) first_one.1 at_s in
            let soon : step.at < first_one.0.at + timeout = calm.soon k first_one.0 step first_one.1 at in
            omega (arith, before, soon, when)

  starved : (event : Event) → is_halting event ≡ true → (k : ℕ) (step : Stepped) → slice_get steps k ≡ Some step → OneOf step.events event → (f h : H) → slice_get first (node_of event) ≡ Some f → slice_get ends_ (node_of event) ≡ Some h
      → (i : ℕ) × (event ≡ ev.Starved i)
  starved (ev.Start i) halts k step at one f h at_first at_end = let c : false ≡ true = halts in absurd (cc)
  starved (ev.Open i) halts k step at one f h at_first at_end = let c : false ≡ true = halts in absurd (cc)
  starved (ev.Good i) halts k step at one f h at_first at_end = let c : false ≡ true = halts in absurd (cc)
  starved (ev.Closed i) halts k step at one f h at_first at_end = let c : false ≡ true = halts in absurd (cc)
  starved (ev.Back i) halts k step at one f h at_first at_end = let c : false ≡ true = halts in absurd (cc)
  starved (ev.Starved i) halts k step at one f h at_first at_end = (i, refl)
  starved (ev.Refused i) halts k step at one f h at_first at_end = absurd (elim (comes k step (ev.Refused i) f h at one at_first at_end) [
    | inl refused ↦ not_refused k step (ev.Refused i) f h at one at_first at_end refused
    | inr rose ↦ no_rise k step (ev.Refused i) f h at one at_first at_end rose
  ])
  starved (ev.Unclear i) halts k step at one f h at_first at_end = absurd (elim (comes k step (ev.Unclear i) f h at one at_first at_end) [
    | inl none ↦ has_net k step (ev.Unclear i) f h at one at_first at_end none
    | inr rose ↦ no_rise k step (ev.Unclear i) f h at one at_first at_end rose
  ])
  starved (ev.Bad i) halts k step at one f h at_first at_end =
      absurd (not_due k step (ev.Bad i) f h at one at_first at_end (started i (take (k + 1) steps)) refl (comes k step (ev.Bad i) f h at one at_first at_end))
  starved (ev.Late i) halts k step at one f h at_first at_end =
      absurd (not_due k step (ev.Late i) f h at one at_first at_end (started i (take (k + 1) steps)) refl (comes k step (ev.Late i) f h at one at_first at_end))

  -- the hosts of an event that was told
  told_there : (event : Event) → OneOf (told_all steps) event → node_of event < length first
  told_there event one =
      let all = accepted_together (told_each steps) (begun (length first) limit) last holds.rolls in
      let same = joined_all steps in
      let in_accepted : OneOf (accepted (begun (length first) limit) (joined (told_each steps))) event = subst (λ (l : List Event). OneOf l event) (sym (all ∙ same)) one in
      let lt = in_range (joined (told_each steps)) (begun (length first) limit) event in_accepted in
      let n = length-replicate (length first) Fresh in
      omega (arith, lt, n)

  halted_is : first_halting (told_all steps) ≡ None → last.halted ≡ false
  halted_is none =
      let all = accepted_together (told_each steps) (begun (length first) limit) last holds.rolls in
      let run_is = run_together (told_each steps) (begun (length first) limit) last holds.rolls in
      let same = joined_all steps in
      ap (λ (r : Rollout). r.halted) run_is
      ∙ (safe (length first) limit (joined (told_each steps))).halted
      ∙ ap (list_any is_halting) (all ∙ same)
      ∙ found_none (told_all steps) none

  by_first : (o : Option Event) → first_halting (told_all steps) ≡ o → Completes steps last
  by_first None is = inl (is, (ends_law (length first) limit (told_each steps) last some holds.rolls finished).all (halted_is is))
  by_first (Some event) is =
      let found = found_one (told_all steps) event is in
      let where_is = in_step steps event found.0 in
      let lt = told_there event found.0 in
      let f = item_there first (node_of event) lt in
      let h = item_there ends_ (node_of event) (omega (arith, lt, holds.many)) in
      let memory = starved event found.1 where_is.k where_is.step where_is.at where_is.one f.0 h.0 f.1 h.1 in
      inr (memory.0, is ∙ ap (λ (e : Event). Some e) memory.1)

  -- each node is committed, or memory ran out
  pub completes : Completes steps last
  completes = by_first (first_halting (told_all steps)) refl

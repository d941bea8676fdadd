-- A node has at most four events.
use Rattle.std.proofs.Common.{◌≡◌, inl, inr, ◌∙◌, ℕ, ◌+◌, ◌<◌, ◌≤◌, Bool, true, false, cond, List, [], ◌∷◌, ◌++◌, length, length-append, refl, ap, sym, subst, Option, Some, None, arith, lit≤}
use Rattle.std.specs.Prelude.{◌≢◌, ◌==◌, slice_get}
use Rattle.std.proofs.lemmas.Bool.{ne_eqb, cases_eq}
use Rattle.std.proofs.lemmas.List.Elements.{filter-append}
use Rattle.std.proofs.lemmas.List.Sums.{length-filter, count_by-le-length}
use Rattle.rollout_model.specs.Rollout.{Rollout}
use Rattle.rollout_model.specs.Next.{next}
use Rattle.rollout_model.specs.Rolls.{answers, OneOf, Carries, Rolls}
use Rattle.rollout_model.specs.Safe.{IsAt}
use Rattle.rollout_model.specs.Steps.{node_of, run, of_node}
use Rattle.rollout_model.specs.declared.node.NodeState.{NodeState}
use Rattle.rollout_model.specs.declared.node.NodeState.TheVariants.{Fresh, Opened, Probed}
use Rattle.rollout_model.specs.declared.node.Event.{Event}
use Rattle.rollout_model.specs.declared.node.Event.TheVariants as ev
use Rattle.rollout_model.specs.declared.node.Action.{Action}
use Rattle.rollout_model.specs.declared.node.Action.TheVariants.{Start, Probe, Commit, Rollback, Finish}
use Rattle.rollout_model.proofs.lemmas.Nexts.{NextSays, next_says}
use Rattle.rollout_model.proofs.lemmas.Rolling.{Falls, Result, target, events_by, begun_to, looked_to, closed_to, back_to, to_state, answered, answer_in, now_at, others_at}
use Rattle.rollout_model.proofs.lemmas.Together.{joined}
use Rattle.rollout_core.specs.Trace.{Stepped, told_all, told_each}

-- ---- how many at most, by the state of the node

-- in a rollout that is halted or isn't: one that is opened there was looked at, too
abbrev used : NodeState → Bool → ℕ
used Fresh halted = 0
used Opened false = 2
used Opened true = 3
used Probed halted = 3
used state halted = 4

-- a node that isn't there has none
abbrev most : Option NodeState → Bool → ℕ
most None halted = 0
most (Some state) halted = used state halted

abbrev most_at : Rollout → ℕ → ℕ
most_at r i = most (slice_get r.nodes i) r.halted

most_four : (o : Option NodeState) (halted : Bool) → most o halted ≤ 4
most_four None halted = lit≤ tt
most_four (Some Opened) true = lit≤ tt
most_four (Some Opened) false = lit≤ tt
most_four (Some state) halted = lit≤ tt

-- a halt takes nothing away
most_kept : (o : Option NodeState) (before h : Bool) → (before ≡ true → h ≡ true) → most o before ≤ most o h
most_kept None before h kept = lit≤ tt
most_kept (Some Opened) true true kept = lit≤ tt
most_kept (Some Opened) true false kept = let e : false ≡ true = kept refl in absurd (cc)
most_kept (Some Opened) false true kept = lit≤ tt
most_kept (Some Opened) false false kept = lit≤ tt
most_kept (Some state) before h kept = lit≤ tt

-- ---- the events of an action

-- those of one node are no more than all
own_length : (j : ℕ) (es : List Event) → length (of_node j es) ≤ length es
own_length j es = subst (λ (n : ℕ). n ≤ length es) (sym (length-filter (λ (event : Event). node_of event == j) es)) (count_by-le-length (λ (event : Event). node_of event == j) es)

-- an event of another node is none of them
own_other : (j : ℕ) (e : Event) (es : List Event) → (node_of e ≡ j → ⊥) → of_node j (e ∷ es) ≡ of_node j es
own_other j e es apart = ap (λ (b : Bool). cond b (e ∷ of_node j es) (of_node j es)) (ne_eqb (node_of e) j apart)

module _ (i : ℕ) where
  three : (a b c e : Event) → node_of a ≡ i → node_of b ≡ i → node_of c ≡ i → OneOf (a ∷ b ∷ c ∷ []) e → node_of e ≡ i
  three a b c e at_a at_b at_c one = elim one [
    | inl is ↦ ap node_of is ∙ at_a
    | inr two ↦ elim two [
      | inl is ↦ ap node_of is ∙ at_b
      | inr last ↦ elim last [ inl is ↦ ap node_of is ∙ at_c | inr none ↦ absurd none ]
    ]
  ]

  four : (a b c d e : Event) → node_of a ≡ i → node_of b ≡ i → node_of c ≡ i → node_of d ≡ i → OneOf (a ∷ b ∷ c ∷ d ∷ []) e → node_of e ≡ i
  four a b c d e at_a at_b at_c at_d one = elim one [
    | inl is ↦ ap node_of is ∙ at_a
    | inr more ↦ three b c d e at_b at_c at_d more
  ]

-- what comes of an action is of its node
node_is : (a : Action) (e : Event) → OneOf (answers a) e → node_of e ≡ target a
node_is (Start i) e one = four i (ev.Open i) (ev.Refused i) (ev.Unclear i) (ev.Starved i) e refl refl refl refl one
node_is (Probe i) e one = four i (ev.Good i) (ev.Bad i) (ev.Unclear i) (ev.Starved i) e refl refl refl refl one
node_is (Commit i) e one = three i (ev.Closed i) (ev.Late i) (ev.Unclear i) e refl refl refl one
node_is (Rollback i) e one = three i (ev.Back i) (ev.Unclear i) (ev.Starved i) e refl refl refl one
node_is Finish e one = absurd one

none_of : (a : Action) (e : Event) → OneOf (answers a) e → (j : ℕ) → (target a ≡ j → ⊥) → of_node j (events_by a e) ≡ []
none_of (Start i) e one j apart = own_other j (ev.Start i) (e ∷ []) apart ∙ own_other j e [] (λ same. apart (sym (node_is (Start i) e one) ∙ same))
none_of (Probe i) e one j apart = own_other j e [] (λ same. apart (sym (node_is (Probe i) e one) ∙ same))
none_of (Commit i) e one j apart = own_other j e [] (λ same. apart (sym (node_is (Commit i) e one) ∙ same))
none_of (Rollback i) e one j apart = own_other j e [] (λ same. apart (sym (node_is (Rollback i) e one) ∙ same))
none_of Finish e one j apart = absurd one

-- ---- by what an action makes of its node

begun_two : (e : Event) (h : Bool) → 2 ≤ used (begun_to e) h
begun_two (ev.Open i) true = lit≤ tt
begun_two (ev.Open i) false = lit≤ tt
begun_two (ev.Refused i) h = lit≤ tt
begun_two e h = lit≤ tt

-- one that stays opened was looked at in the step that halted the rollout
looked_three : (e : Event) (h : Bool) → Falls Opened (looked_to e) false h → 3 ≤ used (looked_to e) h
looked_three (ev.Good i) h falls = lit≤ tt
looked_three e true falls = lit≤ tt
looked_three e false falls = elim falls [
  | inl less ↦ let no : 2 < 2 = less in absurd (omega (arith, no))
  | inr stop ↦ let no : false ≡ true = stop.1 in absurd (cc)
]

closed_four : (e : Event) (h : Bool) → 4 ≤ used (closed_to e) h
closed_four (ev.Closed i) h = lit≤ tt
closed_four e h = lit≤ tt

back_four : (e : Event) (h : Bool) → 4 ≤ used (back_to e) h
back_four (ev.Back i) h = lit≤ tt
back_four e h = lit≤ tt

module _ (r : Rollout) (events : List Event) (i : ℕ) (from to : NodeState) (h : Bool) (result : Result r events i from to h) where
  is_from : (state : NodeState) → IsAt r i state → from ≡ state
  is_from state at = let e : Some from ≡ Some state = sym result.before ∙ at in cc

  halts : (run r events).halted ≡ h
  halts = ap (λ (q : Rollout). q.halted) result.is

  before : most_at r i ≡ used from r.halted
  before = ap (λ (o : Option NodeState). most o r.halted) result.before

  behind : most_at (run r events) i ≡ used to h
  behind = ap (λ (o : Option NodeState). most o (run r events).halted) (now_at r events i from to h result) ∙ ap (used to) halts

  others : (j : ℕ) → (i ≡ j → ⊥) → most_at r j ≤ most_at (run r events) j
  others j apart =
      subst (λ (o : Option NodeState). most (slice_get r.nodes j) r.halted ≤ most o (run r events).halted) (sym (others_at r events i from to h result j apart))
      (most_kept (slice_get r.nodes j) r.halted (run r events).halted (λ halted. halts ∙ result.kept halted))

-- ---- a step

module _ (r : Rollout) where
  -- its node had so few before that there was room for these
  fits : (a : Action) → NextSays r a → (e : Event) → OneOf (answers a) e → (from : NodeState) (h : Bool) → Result r (events_by a e) (target a) from (to_state a e) h
      → length (events_by a e) + used from r.halted ≤ used (to_state a e) h
  fits (Start i) may e one from h result =
      let is : from ≡ Fresh = is_from r _ i from (begun_to e) h result Fresh may.fresh in
      let had : used from r.halted ≡ 0 = ap (λ (s : NodeState). used s r.halted) is in
      subst (λ (n : ℕ). 2 + n ≤ used (begun_to e) h) (sym had) (begun_two e h)
  fits (Probe i) may e one from h result =
      let is : from ≡ Opened = is_from r _ i from (looked_to e) h result Opened may.opened in
      let had : used from r.halted ≡ 2 = ap (λ (s : NodeState). used s r.halted) is ∙ ap (used Opened) may.going in
      let falls : Falls Opened (looked_to e) false h =
      subst (λ (s : NodeState). Falls s (looked_to e) false h) is (subst (λ (b : Bool). Falls from (looked_to e) b h) may.going result.falls) in
      subst (λ (n : ℕ). 1 + n ≤ used (looked_to e) h) (sym had) (looked_three e h falls)
  fits (Commit i) may e one from h result =
      let is : from ≡ Probed = is_from r _ i from (closed_to e) h result Probed may.probed in
      let had : used from r.halted ≡ 3 = ap (λ (s : NodeState). used s r.halted) is in
      subst (λ (n : ℕ). 1 + n ≤ used (closed_to e) h) (sym had) (closed_four e h)
  fits (Rollback i) may e one from h result =
      let had : used from r.halted ≡ 3 = elim may.at [
        | inl opened ↦ ap (λ (s : NodeState). used s r.halted) (is_from r (e ∷ []) i from (back_to e) h result Opened opened) ∙ ap (used Opened) may.halted
        | inr probed ↦ ap (λ (s : NodeState). used s r.halted) (is_from r (e ∷ []) i from (back_to e) h result Probed probed)
      ] in
      subst (λ (n : ℕ). 1 + n ≤ used (back_to e) h) (sym had) (back_four e h)
  fits Finish may e one from h result = absurd one

  acts : (a : Action) → NextSays r a → (e : Event) → OneOf (answers a) e → (j : ℕ) → length (of_node j (events_by a e)) + most_at r j ≤ most_at (run r (events_by a e)) j
  acts a may e one j =
      let went = answered r a may e one in
      elim (cases_eq (target a) j) [
        | inl same ↦
            let few = own_length (target a) (events_by a e) in
            let fit = fits a may e one went.from went.h went.result in
            let old = before r (events_by a e) (target a) went.from (to_state a e) went.h went.result in
            let new = behind r (events_by a e) (target a) went.from (to_state a e) went.h went.result in
            let own : length (of_node (target a) (events_by a e)) + most_at r (target a) ≤ most_at (run r (events_by a e)) (target a) = omega (arith, few, fit, old, new) in
            subst (λ (k : ℕ). length (of_node k (events_by a e)) + most_at r k ≤ most_at (run r (events_by a e)) k) same own
        | inr apart ↦
            let none : length (of_node j (events_by a e)) ≡ 0 = ap length (none_of a e one j apart) in
            let rest = others r (events_by a e) (target a) went.from (to_state a e) went.h went.result j apart in
            subst (λ (n : ℕ). n + most_at r j ≤ most_at (run r (events_by a e)) j) (sym none) (omega (arith, rest))
      ]

  steps_on : (events : List Event) → next r ≢ Finish → Carries (next r) events → (j : ℕ) → length (of_node j events) + most_at r j ≤ most_at (run r events) j
  steps_on events some by j =
      let a = answer_in r (next r) some events by in
      subst (λ (l : List Event). length (of_node j l) + most_at r j ≤ most_at (run r l) j) (sym a.is) (acts (next r) (next_says r) a.e a.one j)

-- ---- all steps

counts : (steps : List (List Event)) (r last : Rollout) → Rolls r steps last → (j : ℕ) → length (of_node j (joined steps)) + most_at r j ≤ most_at last j
counts [] r last rolls j = subst (λ (q : Rollout). 0 + most_at r j ≤ most_at q j) (sym rolls) (omega arith)
counts (events ∷ steps) r last rolls j =
    let one = steps_on r events rolls.0 rolls.1 j in
    let rest = counts steps (run r events) last rolls.2 j in
    let both : length (of_node j (events ++ joined steps)) ≡ length (of_node j events) + length (of_node j (joined steps)) =
    ap length (filter-append (λ (event : Event). node_of event == j) events (joined steps)) ∙ length-append (of_node j events) (of_node j (joined steps)) in
    subst (λ (n : ℕ). n + most_at r j ≤ most_at last j) (sym both) (omega (arith, one, rest))

pub joined_all : (steps : List Stepped) → joined (told_each steps) ≡ told_all steps
joined_all [] = refl
joined_all (s ∷ steps) = ap (λ (l : List Event). s.events ++ l) (joined_all steps)

-- so each node has at most four
pub few_told : (steps : List Stepped) (r last : Rollout) → Rolls r (told_each steps) last → (i : ℕ) → length (of_node i (told_all steps)) ≤ 4
few_told steps r last rolls i =
    let le = counts (told_each steps) r last rolls i in
    let four : most_at last i ≤ 4 = most_four (slice_get last.nodes i) last.halted in
    subst (λ (l : List Event). length (of_node i l) ≤ 4) (joined_all steps) (omega (arith, le, four))

-- Steps with one more behind them.
use Rattle.std.proofs.Common.{◌≡◌, ◌⊎◌, inl, inr, ◌∙◌, ℕ, zero, suc, ◌+◌, ◌≤◌, length, take, length-append, Bool, true, false, ◌||◌, List, [], ◌∷◌, ◌++◌, refl, ap, sym, Option, Some, None, arith, append-nil, append_assoc}
use Rattle.std.specs.Prelude.{slice_get, if◌then◌else◌}
use Rattle.std.specs.List.{list_any}
use Rattle.std.proofs.lemmas.List.{take-append-le, take_all}
use Rattle.std.proofs.lemmas.List.Folds.{list_any-append}
use Rattle.std.proofs.lemmas.Option.{slice_get_within}
use Rattle.document_model.specs.declared.Doc.{Doc}
use Rattle.host_core.specs.HostView.{HostView}
use Rattle.rollout_model.specs.declared.node.Event.{Event}
use Rattle.rollout_model.specs.declared.node.Event.TheVariants as ev
use Rattle.rollout_core.specs.Trace.{Stepped, told_all, is_start_of, is_good_of, started, was_good}
use Rattle.rollout_core.specs.Causes.{Comes}

-- an item of a list with one more behind it
pub get_push : {X : Type 0} (xs : List X) (x y : X) (k : ℕ) → slice_get (xs ++ x ∷ []) k ≡ Some y → (slice_get xs k ≡ Some y) ⊎ ((y ≡ x) × (k ≡ length xs))
get_push [] x y zero is = let e : Some x ≡ Some y = is in inr (cc, refl)
get_push [] x y (suc k) is = let e : None ≡ Some y = is in absurd (cc)
get_push (z ∷ zs) x y zero is = inl is
get_push (z ∷ zs) x y (suc k) is = elim (get_push zs x y k is) [
  | inl was ↦ inl was
  | inr now ↦ inr (now.0, ap suc now.1)
]

-- the steps up to one of those before are the same, and up to the new one all
pub up_to_old : (steps : List Stepped) (step s : Stepped) (k : ℕ) → slice_get steps k ≡ Some s → take (k + 1) (steps ++ step ∷ []) ≡ take (k + 1) steps
up_to_old steps step s k at = let lt = slice_get_within steps k s at in take-append-le (k + 1) steps (step ∷ []) (omega arith)

pub up_to_new : (steps : List Stepped) (step : Stepped) (k : ℕ) → k ≡ length steps → take (k + 1) (steps ++ step ∷ []) ≡ steps ++ step ∷ []
up_to_new steps step k is = take_all (k + 1) (steps ++ step ∷ []) (let n = length-append steps (step ∷ []) in omega arith)

-- ---- when a node was started

starts_none : (i : ℕ) (step : Stepped) (steps : List Stepped) → list_any (is_start_of i) step.events ≡ false → started i (steps ++ step ∷ []) ≡ started i steps
starts_none i step [] not_so = ap (λ (b : Bool). if b then Some step.at else None) not_so
starts_none i step (s ∷ steps) not_so = ap (λ (o : Option ℕ). if list_any (is_start_of i) s.events then Some s.at else o) (starts_none i step steps not_so)

-- a step that starts no such node changes nothing of it
pub started_same : (i : ℕ) (steps : List Stepped) (step : Stepped) → list_any (is_start_of i) step.events ≡ false → started i (steps ++ step ∷ []) ≡ started i steps
started_same i steps step not_so = starts_none i step steps not_so

some_none : (b : Bool) (at : ℕ) (o : Option ℕ) → (if b then Some at else o) ≡ None → (b ≡ false) × (o ≡ None)
some_none true at o is = let e : Some at ≡ None = is in absurd (cc)
some_none false at o is = (refl, is)

-- the first step that starts it does
pub started_now : (i : ℕ) (steps : List Stepped) (step : Stepped) → started i steps ≡ None → list_any (is_start_of i) step.events ≡ true → started i (steps ++ step ∷ []) ≡ Some step.at
started_now i [] step none sure = ap (λ (b : Bool). if b then Some step.at else None) sure
started_now i (s ∷ steps) step none sure =
    let parts = some_none (list_any (is_start_of i) s.events) s.at (started i steps) none in
    ap (λ (b : Bool). if b then Some s.at else started i (steps ++ step ∷ [])) parts.0 ∙ started_now i steps step parts.1 sure

-- ---- whether a node was found good

all_push : (steps : List Stepped) (step : Stepped) → told_all (steps ++ step ∷ []) ≡ told_all steps ++ step.events
all_push [] step = append-nil step.events
all_push (s ∷ steps) step = ap (λ (l : List Event). s.events ++ l) (all_push steps step) ∙ sym (append_assoc s.events (told_all steps) step.events)

pub good_push : (i : ℕ) (steps : List Stepped) (step : Stepped) → was_good i (steps ++ step ∷ []) ≡ (was_good i steps || list_any (is_good_of i) step.events)
good_push i steps step = ap (list_any (is_good_of i)) (all_push steps step) ∙ list_any-append (is_good_of i) (told_all steps) step.events

-- ---- why an event came

-- a cause stays one
pub comes_on : (doc : Doc) (timeout : ℕ) (begun : Option ℕ) (first old new : HostView) (at : ℕ) (event : Event) → old.faults ≤ new.faults → Comes doc timeout begun first old at event → Comes doc timeout begun first new at event
comes_on doc timeout begun first old new at (ev.Refused i) later comes = elim comes [ inl refused ↦ inl refused | inr rose ↦ inr (omega (arith, later, rose)) ]
comes_on doc timeout begun first old new at (ev.Unclear i) later comes = elim comes [ inl none ↦ inl none | inr rose ↦ inr (omega (arith, later, rose)) ]
comes_on doc timeout begun first old new at (ev.Good i) later comes = comes
comes_on doc timeout begun first old new at (ev.Bad i) later comes = comes
comes_on doc timeout begun first old new at (ev.Closed i) later comes = comes
comes_on doc timeout begun first old new at (ev.Late i) later comes = comes
comes_on doc timeout begun first old new at event later comes = tt

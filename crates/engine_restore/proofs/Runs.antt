-- A run of calls goes on by one.
use Rattle.std.proofs.Common.{◌≡◌, inl, inr, ◌+◌, ◌<◌, ◌≤◌, ℕ, List, [], ◌∷◌, ◌++◌, length, drop, take, get_or, refl, sym, ap, ◌∙◌, subst, Option, Some, add-one}
use Rattle.std.specs.Prelude.{Ok, Err}
use Rattle.std.proofs.lemmas.List.{drop_all, drop_more, take-append-drop}
use Rattle.std.proofs.Math.Seq.{take-suc}
use Rattle.net_model.specs.NetData.{NetData}
use Rattle.net_model.specs.declared.Call.{Call}
use Rattle.kernel_model.specs.Outcome.{Outcome}
use Rattle.kernel_model.specs.Kernel.{step}
use Rattle.kernel_model.specs.Runs.{Runs}
use Rattle.kernel_laws.specs.Laws.{KeepsNet, KeepsHardware, RunsOn}
use Rattle.host_core.specs.Stops.{Stops, Steps, Stays}
use Rattle.host_core.proofs.lemmas.Moments.{follow, weaken, stays}
use Rattle.host_core.specs.HostView.{State, Accepts, Accepted, Refuses, MaybeCalled}
use Rattle.engine_model.specs.Stations.{RunStep, FrontStep}

abbrev accepted_with : NetData → Outcome
accepted_with next = Ok next

pub run_step : (calls : List Call) (i : ℕ) (d : Call) (from to : NetData) → i < length calls → Runs (drop i calls) from to
    → (next : NetData) × (step (get_or calls i d) from ≡ Ok next) × Runs (drop (i + 1) calls) next to
run_step calls i d from to lt runs = subst (λ (l : List Call). Runs l from to) (drop_more calls i d lt) runs

pub never_refused : (call : Call) (k : ℕ) (from next : NetData) (net : Option NetData) → net ≡ Some from → step call from ≡ Ok next → Refuses call net k → ⊥
never_refused call k from next net is accepted refuses =
    let there : step call from ≡ Err k = subst (λ (n : Option NetData). Refuses call n k) is refuses in
    let e : accepted_with next ≡ Err k = sym accepted ∙ there in
    cc

pub reaches : (call : Call) (from next : NetData) (net new : Option NetData) → net ≡ Some from → step call from ≡ Ok next → Accepts call net new → new ≡ Some next
reaches call from next net new is accepted accepts =
    let there : Accepted call from new = subst (λ (n : Option NetData). Accepts call n new) is accepts in
    let e : accepted_with there.next ≡ accepted_with next = sym there.stepped ∙ accepted in
    let same : there.next ≡ next = cc in
    there.becomes ∙ ap (λ (n : NetData). Some n) same

-- the call at this place is taken, and the run goes on from where it leads
pub run_next : (calls : List Call) (i : ℕ) (d call : Call) (from to : NetData) (old new : Option NetData) → call ≡ get_or calls i d → i < length calls → old ≡ Some from → Runs (drop i calls) from to
    → Accepts call old new → (next : NetData) × (new ≡ Some next) × Runs (drop (i + 1) calls) next to × (step call from ≡ Ok next)
run_next calls i d call from to old new at lt is runs accepts =
    let next = run_step calls i d from to lt runs in
    let there : step call from ≡ Ok next.0 = subst (λ (c : Call). step c from ≡ Ok next.0) (sym at) next.1 in
    (next.0, reaches call from next.0 old new is there accepts, next.2, there)

pub run_taken : (calls : List Call) (i : ℕ) (d call : Call) (from to : NetData) (old : Option NetData) → call ≡ get_or calls i d → i < length calls → old ≡ Some from → Runs (drop i calls) from to
    → (k : ℕ) → Refuses call old k → ⊥
run_taken calls i d call from to old at lt is runs k refuses =
    let next = run_step calls i d from to lt runs in
    let there : step call from ≡ Ok next.0 = subst (λ (c : Call). step c from ≡ Ok next.0) (sym at) next.1 in
    never_refused call k from next.0 old is there refuses

-- behind the last call the run is at its end
pub run_ended : (calls : List Call) (i : ℕ) (from to : NetData) → length calls ≤ i → Runs (drop i calls) from to → to ≡ from
run_ended calls i from to end runs = subst (λ (l : List Call). Runs l from to) (drop_all i calls end) runs

pub called : KeepsNet → KeepsHardware → (call : Call) (r s : State) → MaybeCalled call r s → RunStep r s
called keeps devices call r s step = record {
  cell = step.cell;
  net = λ from is built. elim step.net [
    | inl same ↦ (from, same ∙ is, built, refl)
    | inr accepts ↦
        let there : Accepted call from s.net = subst (λ (n : Option NetData). Accepts call n s.net) is accepts in
        (there.next, there.becomes, keeps call from there.next built there.stepped, devices call from there.next built there.stepped)
  ];
}

pub run_on : (old mid new : Stops State) → Steps RunStep old mid → Steps RunStep mid new → Steps RunStep old new
run_on old mid new one two = follow RunStep RunStep RunStep old mid new one two (λ r s left a. a)
    (λ q r s begin left a b. record {
      cell = b.cell ∙ a.cell;
      net = λ from is built. let mid = a.net from is built in let end = b.net mid.0 mid.1 mid.2 in (end.0, end.1, end.2, end.3 ∙ mid.3);
    })

-- nothing is carried out yet
pub none_yet : (calls : List Call) (from : NetData) (old : Stops State) → Steps (FrontStep calls from) old old
none_yet calls from old = weaken Stays (FrontStep calls from) old old (stays old) (λ r s left same is. (from, ap (λ (p : State). p.net) same ∙ is, record { front = []; rest = calls; is = refl; runs = refl }))

-- the calls up to this place, with the one at it
pub run_further : RunsOn → (calls : List Call) (i : ℕ) (d call : Call) (from mid next : NetData) → call ≡ get_or calls i d → i < length calls → Runs (take i calls) from mid → step call mid ≡ Ok next → Runs (take (i + 1) calls) from next
run_further on calls i d call from mid next at lt runs stepped =
    let one : take (i + 1) calls ≡ take i calls ++ call ∷ [] = rw add-one (take-suc calls i d lt ∙ ap (λ (y : Call). take i calls ++ y ∷ []) (sym at)) in
    subst (λ (l : List Call). Runs l from next) (sym one) (on (take i calls) call from mid next runs stepped)

-- one more call is carried out, or it isn't
pub front_on : RunsOn → (calls : List Call) (i : ℕ) (d call : Call) (from mid : NetData) (old here new : Stops State) → call ≡ get_or calls i d → i < length calls → Runs (take i calls) from mid
    → ((s : State) → here.may_leave s → s.net ≡ Some mid) → Steps (FrontStep calls from) old here → Steps (MaybeCalled call) here new → Steps (FrontStep calls from) old new
front_on on calls i d call from mid old here new at lt runs nets one two = follow (FrontStep calls from) (MaybeCalled call) (FrontStep calls from) old here new one two (λ r s left a. a)
    (λ q r s begin left a b is. elim b.net [
      | inl same ↦ (mid, same ∙ nets r left, record { front = take i calls; rest = drop i calls; is = take-append-drop i calls; runs = runs })
      | inr accepts ↦
          let there : Accepted call mid s.net = subst (λ (n : Option NetData). Accepts call n s.net) (nets r left) accepts in
          (there.next, there.becomes, record { front = take (i + 1) calls; rest = drop (i + 1) calls; is = take-append-drop (i + 1) calls; runs = run_further on calls i d call from mid there.next at lt runs there.stepped })
    ])

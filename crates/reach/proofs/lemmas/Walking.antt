-- What each step of a depth-first walk keeps.
use Rattle.std.proofs.Common.{◌≡◌, ◌≢◌, ℕ, ◌+◌, ◌-◌, ◌<◌, ◌≤◌, ◌⊎◌, inl, inr, zero, suc, Bool, true, false, List, [], ◌∷◌, ◌++◌, length, get_or, set, replicate, refl, sym, ap, subst, ◌∙◌, arith, get_or-set_same, get_or-set_other, length-append}
use Rattle.std.proofs.lemmas.List.{length-set, length-replicate, get_or_append_left, get_or_at}
use Rattle.reach.specs.Reach.{is_marked, IsOn, AllMarked, IsGraph}
use Rattle.reach.specs.Cycle.{target, HasRanks, Founded}
use Rattle.reach.specs.Walk.{IsTop, Walks, AtWork, unknown, Begins, Enters, Settles, Steps, Rests, Comes}
use Rattle.reach.specs.declared.cycle.Walk.{Walk}
use Rattle.reach.proofs.lemmas.Marks.{any_default, set_marked, unmarked-set, marked-set, marked-set_same, marked-before}
use Rattle.reach.proofs.lemmas.Settled.{grown, founded_first}

same_or_not : (i j : ℕ) → (i ≡ j) ⊎ (i ≢ j)
same_or_not i j = grind arith

less_or_same : (k i : ℕ) → k < i + 1 → (k < i) ⊎ (k ≡ i)
less_or_same k i h = grind arith

-- a place whose arrows lead to settled ones may be settled, also once more
founded_set : (arrows : List (List ℕ)) (settled : List Bool) (i : ℕ) → i < length settled → AllMarked (get_or arrows i []) (is_marked settled) → Founded arrows settled → Founded arrows (set settled i true)
founded_set arrows settled i inside all f = elim (is_marked settled i) as (λ b. is_marked settled i ≡ b → Founded arrows (set settled i true)) [
  | true ↦ λ on. subst (Founded arrows) (sym (set_marked settled i on)) f
  | false ↦ λ off. grown arrows settled i inside off all f
] refl

-- one arrow more is known
unknown-set : (arrows : List (List ℕ)) (next : List ℕ) (i : ℕ) → length next ≡ length arrows → i < length arrows → get_or next i 0 < length (get_or arrows i []) → unknown arrows (set next i (get_or next i 0 + 1)) + 1 ≡ unknown arrows next
unknown-set [] next i e inside below = absurd (omega (arith, inside))
unknown-set (row ∷ rows) [] i e inside below = absurd (omega (arith, e))
unknown-set (row ∷ rows) (n ∷ next) zero e inside below = omega (arith, below)
unknown-set (row ∷ rows) (n ∷ next) (suc i) e inside below = omega (arith, unknown-set rows next i (omega (arith, e)) (omega (arith, inside)) below)

module _ (arrows : List (List ℕ)) (graph : IsGraph arrows) (entered settled : List Bool) (next stack : List ℕ) (w : Walks arrows entered settled next stack) where
  -- the rank of the place at the end is the least
  least : (r : HasRanks arrows) (top : ℕ) → IsTop stack top → (i : ℕ) → i < length stack → r.rank top ≤ r.rank (get_or stack i 0)
  least r top t i lt = subst (λ n. r.rank n ≤ r.rank (get_or stack i 0)) t.at (w.descends r i (length stack - 1) (omega (arith, lt)) (omega (arith, t.some)))

  -- the place at the end is one of the graph's
  pub top_inside : (top : ℕ) → IsTop stack top → top < length arrows
  top_inside top t = subst (λ n. n < length arrows) t.at (w.inside (length stack - 1) (omega (arith, t.some)))

  -- the place at the end is settled
  pub settles : (top last : ℕ) (rest : List ℕ) → IsTop stack top → length (get_or arrows top []) ≤ get_or next top 0 → stack ≡ rest ++ last ∷ [] → Walks arrows entered (set settled top true) next rest
  settles top last rest t all is = record {
    all_entered = w.all_entered;
    all_settled = length-set settled top true ∙ w.all_settled;
    all_next = w.all_next;
    inside = λ j lt. subst (λ n. n < length arrows) (before j lt) (w.inside j (omega (arith, lt, longer)));
    founded = founded_set arrows settled top fits (λ k h. w.known top k (omega (arith, h, all))) w.founded;
    known = λ i k h. marked-set settled top (target arrows i k) fits (w.known i k h);
    waiting = waits;
    descends = λ r i j le lt. subst (λ n. n ≤ r.rank (get_or rest i 0)) (ap r.rank (before j lt)) (subst (λ n. r.rank (get_or stack j 0) ≤ n) (ap r.rank (before i (omega (arith, le, lt)))) (w.descends r i j le (omega (arith, lt, longer))));
  }
    where
      longer : length stack ≡ length rest + 1
      longer = ap length is ∙ length-append rest (last ∷ [])

      before : (j : ℕ) → j < length rest → get_or stack j 0 ≡ get_or rest j 0
      before j lt = ap (λ s. get_or s j 0) is ∙ get_or_append_left rest (last ∷ []) 0 j lt

      fits : top < length settled
      fits = omega (arith, top_inside top t, w.all_settled)

      apart : (i : ℕ) → is_marked (set settled top true) i ≡ false → i ≢ top
      apart i off e = let wrong : true ≡ false = sym (marked-set_same settled top fits) ∙ ap (is_marked (set settled top true)) (sym e) ∙ off in absurd cc

      waits : (i : ℕ) → is_marked entered i ≡ true → is_marked (set settled top true) i ≡ false → IsOn rest i
      waits i on off =
          let ne : i ≢ top = apart i off in
          let was = w.waiting i on (sym (get_or-set_other settled top i true false ne) ∙ off) in
          elim (less_or_same was.0 (length rest) (omega (arith, was.1, longer))) [
            | inl lt ↦ (was.0, lt, sym (before was.0 lt) ∙ was.2)
            | inr e ↦ absurd (ne (sym was.2 ∙ ap (λ n. get_or stack n 0) (omega (arith, e, longer)) ∙ t.at))
          ]

  -- an arrow that leads to a settled place is known
  pub advances : (top : ℕ) → IsTop stack top → is_marked settled (target arrows top (get_or next top 0)) ≡ true → Walks arrows entered settled (set next top (get_or next top 0 + 1)) stack
  advances top t on = record {
    all_entered = w.all_entered;
    all_settled = w.all_settled;
    all_next = length-set next top (get_or next top 0 + 1) ∙ w.all_next;
    inside = w.inside;
    founded = w.founded;
    known = λ i k h. elim (same_or_not i top) [
      | inl e ↦ subst (λ n. is_marked settled (target arrows n k) ≡ true) (sym e) (here k (subst (λ m. k < m) (ap (λ n. get_or (set next top (get_or next top 0 + 1)) n 0) e ∙ get_or-set_same next top (get_or next top 0 + 1) 0 fits) h))
      | inr ne ↦ w.known i k (subst (λ m. k < m) (get_or-set_other next top i (get_or next top 0 + 1) 0 ne) h)
    ];
    waiting = w.waiting;
    descends = w.descends;
  }
    where
      fits : top < length next
      fits = omega (arith, top_inside top t, w.all_next)

      here : (k : ℕ) → k < get_or next top 0 + 1 → is_marked settled (target arrows top k) ≡ true
      here k h = elim (less_or_same k (get_or next top 0) h) [
        | inl lt ↦ w.known top k lt
        | inr e ↦ ap (λ n. is_marked settled (target arrows top n)) e ∙ on
      ]

  -- a place is entered, which no place on the stack is below
  pub enters : (place : ℕ) → place < length arrows → ((r : HasRanks arrows) (i : ℕ) → i < length stack → r.rank place ≤ r.rank (get_or stack i 0)) → Walks arrows (set entered place true) settled next (stack ++ place ∷ [])
  enters place fits below = record {
    all_entered = length-set entered place true ∙ w.all_entered;
    all_settled = w.all_settled;
    all_next = w.all_next;
    inside = λ j lt. elim (less_or_same j (length stack) (short j lt)) [
      | inl h ↦ subst (λ n. n < length arrows) (sym (before j h)) (w.inside j h)
      | inr e ↦ subst (λ n. n < length arrows) (sym (end j e)) fits
    ];
    founded = w.founded;
    known = w.known;
    waiting = λ i on off. elim (marked-before entered place i (omega (arith, fits, w.all_entered)) on) [
      | inl e ↦ (length stack, omega (arith, longer), end (length stack) refl ∙ e)
      | inr was ↦ let j = w.waiting i was off in (j.0, omega (arith, j.1, longer), before j.0 j.1 ∙ j.2)
    ];
    descends = λ r i j le lt. elim (less_or_same j (length stack) (short j lt)) [
      | inl h ↦ subst (λ n. n ≤ r.rank (get_or (stack ++ place ∷ []) i 0)) (ap r.rank (sym (before j h))) (subst (λ n. r.rank (get_or stack j 0) ≤ n) (ap r.rank (sym (before i (omega (arith, le, h))))) (w.descends r i j le h))
      | inr e ↦ subst (λ n. n ≤ r.rank (get_or (stack ++ place ∷ []) i 0)) (ap r.rank (sym (end j e))) (elim (less_or_same i (length stack) (omega (arith, le, e))) [
        | inl h ↦ subst (λ n. r.rank place ≤ n) (ap r.rank (sym (before i h))) (below r i h)
        | inr f ↦ subst (λ n. r.rank place ≤ n) (ap r.rank (sym (end i f))) (omega arith)
      ])
    ];
  }
    where
      longer : length (stack ++ place ∷ []) ≡ length stack + 1
      longer = length-append stack (place ∷ [])

      short : (j : ℕ) → j < length (stack ++ place ∷ []) → j < length stack + 1
      short j lt = omega (arith, lt, longer)

      before : (j : ℕ) → j < length stack → get_or (stack ++ place ∷ []) j 0 ≡ get_or stack j 0
      before j lt = get_or_append_left stack (place ∷ []) 0 j lt

      end : (j : ℕ) → j ≡ length stack → get_or (stack ++ place ∷ []) j 0 ≡ place
      end j e = get_or_at stack place [] 0 j (sym e)

  -- an arrow of the place at the end leads below all that is on the stack
  pub falls_below : (top k : ℕ) → IsTop stack top → k < length (get_or arrows top []) → (r : HasRanks arrows) (i : ℕ) → i < length stack → r.rank (target arrows top k) < r.rank (get_or stack i 0)
  falls_below top k t h r i lt = omega (arith, r.falls top k (top_inside top t) h, least r top t i lt)

  -- an arrow back to a place on the stack
  pub leads_back : (top k : ℕ) → IsTop stack top → k < length (get_or arrows top []) → is_marked entered (target arrows top k) ≡ true → is_marked settled (target arrows top k) ≡ false → HasRanks arrows → ⊥
  leads_back top k t h on off r =
      let j = w.waiting (target arrows top k) on off in
      let fall : r.rank (target arrows top k) < r.rank (target arrows top k) = subst (λ n. r.rank (target arrows top k) < r.rank n) j.2 (falls_below top k t h r j.0 j.1) in
      omega (arith, fall)

bare : (n i : ℕ) → is_marked (replicate n false) i ≡ false
bare zero i = refl
bare (suc n) zero = refl
bare (suc n) (suc i) = bare n i

zeros : (n i : ℕ) → get_or {A = ℕ} (replicate n 0) i 0 ≡ 0
zeros zero i = refl
zeros (suc n) zero = refl
zeros (suc n) (suc i) = zeros n i

-- a walk that has come to no place
pub walks_first : (arrows : List (List ℕ)) (w : Walk) → Begins (length arrows) w → Rests arrows w
walks_first arrows w b = record {
  walks = rw (b.entered, b.settled, b.next, b.stack) (record {
    all_entered = length-replicate (length arrows) false;
    all_settled = length-replicate (length arrows) false;
    all_next = length-replicate (length arrows) 0;
    inside = λ j lt. absurd (omega (arith, lt));
    founded = founded_first arrows (replicate (length arrows) false) (bare (length arrows));
    known = λ i k h. absurd (omega (arith, h, zeros (length arrows) i));
    waiting = λ i on off. let wrong : true ≡ false = sym on ∙ bare (length arrows) i in absurd cc;
    descends = λ r i j le lt. absurd (omega (arith, lt));
  });
  none = ap length b.stack;
}

module _ (arrows : List (List ℕ)) (graph : IsGraph arrows) (old new : Walk) (w : AtWork arrows old) (top : ℕ) (t : IsTop old.stack.items top) where
  -- the place at the end, all whose arrows are known, is settled
  pub settle_steps : length (get_or arrows top []) ≤ get_or old.next.items top 0 → Settles top old new → Steps arrows old new
  settle_steps all s = record {
    walks = rw (s.entered, s.settled, s.next) (settles arrows graph old.entered.items old.settled.items old.next.items old.stack.items w top s.stack.0 new.stack.items t all s.stack.1);
    kept = λ j on. rw s.entered on;
    fewer = rw (s.entered, s.next) (omega (arith, ap length s.stack.1, length-append new.stack.items (s.stack.0 ∷ [])));
  }

  -- its next arrow leads to a settled place
  pub advance_steps : get_or old.next.items top 0 < length (get_or arrows top []) → is_marked old.settled.items (target arrows top (get_or old.next.items top 0)) ≡ true
      → new.entered.items ≡ old.entered.items → new.settled.items ≡ old.settled.items → new.next.items ≡ set old.next.items top (get_or old.next.items top 0 + 1) → new.stack.items ≡ old.stack.items → Steps arrows old new
  advance_steps below on entered settled next stack = record {
    walks = rw (entered, settled, next, stack) (advances arrows graph old.entered.items old.settled.items old.next.items old.stack.items w top t on);
    kept = λ j on. rw entered on;
    fewer = rw (entered, next, stack) (omega (arith, unknown-set arrows old.next.items top w.all_next (top_inside arrows graph old.entered.items old.settled.items old.next.items old.stack.items w top t) below));
  }

  -- its next arrow leads to a new place, which is entered
  pub enter_steps : (k : ℕ) → k < length (get_or arrows top []) → is_marked old.entered.items (target arrows top k) ≡ false → Enters (target arrows top k) old new → Steps arrows old new
  enter_steps k below off e =
      let inside : top < length arrows = top_inside arrows graph old.entered.items old.settled.items old.next.items old.stack.items w top t in
      let to : target arrows top k < length old.entered.items = omega (arith, graph top k inside below, w.all_entered) in
      record {
        walks = rw (e.entered, e.settled, e.next, e.stack) (enters arrows graph old.entered.items old.settled.items old.next.items old.stack.items w (target arrows top k) (graph top k inside below)
            (λ r i lt. omega (arith, falls_below arrows graph old.entered.items old.settled.items old.next.items old.stack.items w top k t below r i lt)));
        kept = λ j on. rw e.entered (marked-set old.entered.items (target arrows top k) j to on);
        fewer = rw (e.entered, e.next, e.stack) (omega (arith, unmarked-set old.entered.items (target arrows top k) to off, length-append old.stack.items (target arrows top k ∷ [])));
      }

-- a new place is entered where nothing is on the stack
pub start_walks : (arrows : List (List ℕ)) → IsGraph arrows → (old new : Walk) → Rests arrows old → (place : ℕ) → place < length arrows → Enters place old new → AtWork arrows new
start_walks arrows graph old new rests place inside e =
    rw (e.entered, e.settled, e.next, e.stack) (enters arrows graph old.entered.items old.settled.items old.next.items old.stack.items rests.walks place inside (λ r i lt. absurd (omega (arith, lt, rests.none))))

-- where each place was entered and nothing is on the stack, each is settled
pub all_founded : (arrows : List (List ℕ)) (w : Walk) → Rests arrows w → ((i : ℕ) → i < length arrows → is_marked w.entered.items i ≡ true) → HasRanks arrows
all_founded arrows w rests all = record {
  rank = f.rank;
  falls = λ i k lt below. (f.falls i k lt (settled i lt) below).1;
}
  where
    f : Founded arrows w.settled.items
    f = rests.walks.founded

    settled : (i : ℕ) → i < length arrows → is_marked w.settled.items i ≡ true
    settled i lt = elim (is_marked w.settled.items i) as (λ b. is_marked w.settled.items i ≡ b → b ≡ true) [
      | true ↦ λ _. refl
      | false ↦ λ off. let j = rests.walks.waiting i (all i lt) off in absurd (omega (arith, j.1, rests.none))
    ] refl

-- the next arrow of the place at the end, and where it leads
pub record NextArrow (arrows : List (List ℕ)) (w : Walk) (top n it : ℕ) : Type 0 where
  pub at : n ≡ get_or w.next.items top 0
  pub below : get_or w.next.items top 0 < length (get_or arrows top [])
  pub is : it ≡ target arrows top (get_or w.next.items top 0)
  pub inside : it < length arrows

pub next_arrow : (arrows : List (List ℕ)) → IsGraph arrows → (w : Walk) → AtWork arrows w → (top : ℕ) → IsTop w.stack.items top → (n : ℕ) → n ≡ get_or w.next.items top n → (row targets : List ℕ) → row ≡ get_or arrows top row → targets ≡ row → n < length targets → (it : ℕ) → it ≡ get_or targets n it → NextArrow arrows w top n it
next_arrow arrows graph w walks top t n n_is row targets row_is targets_is lt it it_is =
    let on : top < length arrows = top_inside arrows graph w.entered.items w.settled.items w.next.items w.stack.items walks top t in
    let here : n ≡ get_or w.next.items top 0 = n_is ∙ any_default w.next.items top n 0 (omega (arith, on, walks.all_next)) in
    let whole : targets ≡ get_or arrows top [] = targets_is ∙ row_is ∙ any_default arrows top row [] on in
    let short : get_or w.next.items top 0 < length (get_or arrows top []) = omega (arith, lt, here, ap length whole) in
    let to : it ≡ target arrows top (get_or w.next.items top 0) = it_is ∙ any_default targets n it 0 lt ∙ ap (λ r. get_or r n 0) whole ∙ ap (λ k. target arrows top k) here in
    record { at = here; below = short; is = to; inside = subst (λ m. m < length arrows) (sym to) (graph top (get_or w.next.items top 0) on short) }

-- what is read at the place that it leads to
pub read_there : (arrows : List (List ℕ)) (w : Walk) (top n it : ℕ) (marks : List Bool) (b v : Bool) → NextArrow arrows w top n it → length marks ≡ length arrows → b ≡ get_or marks it b → b ≡ v → is_marked marks (target arrows top (get_or w.next.items top 0)) ≡ v
read_there arrows w top n it marks b v a whole b_is is = ap (is_marked marks) (sym a.is) ∙ sym (any_default marks it b false (omega (arith, whole, a.inside))) ∙ sym b_is ∙ is

-- with one place more, the places so far are entered
pub entered_more : (arrows : List (List ℕ)) (place : ℕ) (old new : Walk) → Comes arrows place old new → ((k : ℕ) → k < place → is_marked old.entered.items k ≡ true) → (k : ℕ) → k < place + 1 → is_marked new.entered.items k ≡ true
entered_more arrows place old new came before k h = elim (less_or_same k place h) [
  | inl lt ↦ came.kept k (before k lt)
  | inr e ↦ ap (is_marked new.entered.items) e ∙ came.there
]

-- What is kept while arrows are followed.
use Rattle.std.proofs.Common.{◌≡◌, ℕ, ◌+◌, ◌<◌, ◌≤◌, ◌⊎◌, inl, inr, ◌||◌, zero, suc, Bool, true, false, List, [], ◌∷◌, ◌++◌, length, get_or, set, replicate, refl, sym, ap, subst, ◌∙◌, arith, length-append}
use Rattle.std.proofs.lemmas.List.{length-set, length-replicate, get_or_append_left, get_or_at}
use Rattle.reach.specs.Reach.{is_marked, unmarked, IsOn, AllMarked, IsGraph, IsLeast, Within}
use Rattle.reach.specs.Cycle.{target}
use Rattle.reach.specs.Following.{Lists, Marks, Waits, Works}
use Rattle.reach.proofs.lemmas.Marks.{unmarked-set, marked-set, marked-set_same, marked-before, Within-set, set_marked}

less_or_same : (k i : ℕ) → k < i + 1 → (k < i) ⊎ (k ≡ i)
less_or_same k i h = grind arith

either : (a b : Bool) → (a || b) ≡ true → (a ≡ true) ⊎ (b ≡ true)
either true b h = inl refl
either false b h = inr h

or_first : (a b : Bool) → a ≡ true → (a || b) ≡ true
or_first a b h = rw h refl

or_more : (a b c : Bool) → (b ≡ true → c ≡ true) → (a || b) ≡ true → (a || c) ≡ true
or_more true b c f h = refl
or_more false b c f h = f h

or_both : (a b : Bool) → a ≡ false → b ≡ false → (a || b) ≡ true → ⊥
or_both a b e f h = let wrong : true ≡ false = sym h ∙ ap (λ x. x || b) e ∙ f in absurd cc

-- a marked place is one of the list's
marked_inside : (ms : List Bool) (i : ℕ) → is_marked ms i ≡ true → i < length ms
marked_inside [] i h = absurd cc
marked_inside (m ∷ ms) zero h = omega arith
marked_inside (m ∷ ms) (suc i) h = omega (arith, marked_inside ms i h)

-- the list with one place more
on_more : (places : List ℕ) (p i : ℕ) → IsOn places i → IsOn (places ++ p ∷ []) i
on_more places p i on = (on.0, omega (arith, on.1, length-append places (p ∷ [])), get_or_append_left places (p ∷ []) 0 on.0 on.1 ∙ on.2)

on_end : (places : List ℕ) (p : ℕ) → IsOn (places ++ p ∷ []) p
on_end places p = (length places, omega (arith, length-append places (p ∷ [])), get_or_at places p [] 0 (length places) refl)

-- what holds of each of them
each_more : (P : ℕ → Type 0) (places : List ℕ) (p : ℕ) → ((j : ℕ) → j < length places → P (get_or places j 0)) → P p → (j : ℕ) → j < length (places ++ p ∷ []) → P (get_or (places ++ p ∷ []) j 0)
each_more P places p all one j lt = elim (less_or_same j (length places) (omega (arith, lt, length-append places (p ∷ [])))) [
  | inl h ↦ subst P (sym (get_or_append_left places (p ∷ []) 0 j h)) (all j h)
  | inr e ↦ subst P (sym (get_or_at places p [] 0 j (sym e))) one
]

-- with one place more, the list has the places that are marked so far
pub record ListsSoFar (marks : List Bool) (places : List ℕ) (count : ℕ) : Type 0 where
  pub only : (j : ℕ) → j < length places → is_marked marks (get_or places j 0) ≡ true
  pub all : (i : ℕ) → i < count → is_marked marks i ≡ true → IsOn places i

pub listed_more : (marks : List Bool) (places : List ℕ) (count : ℕ) → ListsSoFar marks places count → is_marked marks count ≡ true → ListsSoFar marks (places ++ count ∷ []) (count + 1)
listed_more marks places count l on = record {
  only = each_more (λ p. is_marked marks p ≡ true) places count l.only on;
  all = λ i lt h. elim (less_or_same i count lt) [
    | inl below ↦ on_more places count i (l.all i below h)
    | inr e ↦ subst (IsOn (places ++ count ∷ [])) (sym e) (on_end places count)
  ];
}

pub listed_same : (marks : List Bool) (places : List ℕ) (count : ℕ) → ListsSoFar marks places count → is_marked marks count ≡ false → ListsSoFar marks places (count + 1)
listed_same marks places count l off = record {
  only = l.only;
  all = λ i lt h. elim (less_or_same i count lt) [
    | inl below ↦ l.all i below h
    | inr e ↦ let wrong : true ≡ false = sym h ∙ ap (is_marked marks) e ∙ off in absurd cc
  ];
}

pub listed_all : (marks : List Bool) (places : List ℕ) (count : ℕ) → length marks ≤ count → ListsSoFar marks places count → Lists marks places
listed_all marks places count whole l = record { only = l.only; all = λ i h. l.all i (omega (arith, marked_inside marks i h, whole)) h }

module _ (arrows : List (List ℕ)) (starts : List Bool) (same : length starts ≡ length arrows) where
  -- at first nothing is marked and the sources are left
  pub waits_first : (marks : List Bool) (left : List ℕ) → marks ≡ replicate (length arrows) false → Lists starts left → Waits arrows starts marks left
  waits_first marks left is l = record {
    whole = ap length is ∙ length-replicate (length arrows) false;
    inside = λ j lt. omega (arith, marked_inside starts (get_or left j 0) (l.only j lt), same);
    comes = λ j lt. or_first (is_marked starts (get_or left j 0)) (is_marked marks (get_or left j 0)) (l.only j lt);
    done = λ i lt on. elim (either (is_marked starts i) (is_marked marks i) on) [
      | inl h ↦ inl (l.all i h)
      | inr h ↦ absurd (bare i h)
    ];
    only = λ t closed i h. absurd (bare i h);
  }
    where
      off : (n i : ℕ) → is_marked (replicate n false) i ≡ false
      off zero i = refl
      off (suc n) zero = refl
      off (suc n) (suc i) = off n i

      bare : (i : ℕ) → is_marked marks i ≡ true → ⊥
      bare i h = let wrong : true ≡ false = sym h ∙ ap (λ ms. is_marked ms i) is ∙ off (length arrows) i in absurd cc

  -- where none is left, the marks are the least that are closed
  pub waits_none : (marks : List Bool) (left : List ℕ) → length left ≡ 0 → Waits arrows starts marks left → IsLeast arrows starts marks
  waits_none marks left none w = record {
    whole = w.whole;
    closed = λ i lt on. elim (w.done i lt on) [
      | inl on_it ↦ absurd (omega (arith, on_it.1, none))
      | inr all ↦ all
    ];
    least = w.only;
  }

  -- one of those that are left is taken
  pub takes_one : (marks : List Bool) (left rest : List ℕ) (place : ℕ) → left ≡ rest ++ place ∷ [] → Waits arrows starts marks left → Works arrows starts marks rest place 0
  takes_one marks left rest place is w = record {
    whole = w.whole;
    inside = λ j lt. subst (λ p. p < length arrows) (before j lt) (w.inside j (omega (arith, lt, longer)));
    comes = λ j lt. subst (λ p. (is_marked starts p || is_marked marks p) ≡ true) (before j lt) (w.comes j (omega (arith, lt, longer)));
    here = subst (λ p. (is_marked starts p || is_marked marks p) ≡ true) end (w.comes (length rest) (omega (arith, longer)));
    followed = λ k h. absurd (omega (arith, h));
    done = λ i lt on. elim (w.done i lt on) [
      | inl on_it ↦ elim (less_or_same on_it.0 (length rest) (omega (arith, on_it.1, longer))) [
        | inl h ↦ inl (on_it.0, h, sym (before on_it.0 h) ∙ on_it.2)
        | inr e ↦ inr (inl (sym on_it.2 ∙ ap (λ n. get_or left n 0) e ∙ end))
      ]
      | inr all ↦ inr (inr all)
    ];
    only = w.only;
  }
    where
      longer : length left ≡ length rest + 1
      longer = ap length is ∙ length-append rest (place ∷ [])

      before : (j : ℕ) → j < length rest → get_or left j 0 ≡ get_or rest j 0
      before j lt = ap (λ s. get_or s j 0) is ∙ get_or_append_left rest (place ∷ []) 0 j lt

      end : get_or left (length rest) 0 ≡ place
      end = ap (λ s. get_or s (length rest) 0) is ∙ get_or_at rest place [] 0 (length rest) refl

  -- all its arrows are followed
  pub works_all : (marks : List Bool) (left : List ℕ) (place count : ℕ) → length (get_or arrows place []) ≤ count → Works arrows starts marks left place count → Waits arrows starts marks left
  works_all marks left place count all w = record {
    whole = w.whole;
    inside = w.inside;
    comes = w.comes;
    done = λ i lt on. elim (w.done i lt on) [
      | inl on_it ↦ inl on_it
      | inr more ↦ elim more [
        | inl e ↦ inr (subst (λ n. AllMarked (get_or arrows n []) (is_marked marks)) (sym e) (λ k h. w.followed k (omega (arith, h, all))))
        | inr whole ↦ inr whole
      ]
    ];
    only = w.only;
  }

  -- one of its arrows is followed
  pub works_more : (old new : List Bool) (before after : List ℕ) (place count : ℕ) → IsGraph arrows → place < length arrows → count < length (get_or arrows place []) → Works arrows starts old before place count → Marks starts (target arrows place count) old new before after
      → Works arrows starts new after place (count + 1)
  works_more old new before after place count graph inside below w m = record {
    whole = ap length m.marks ∙ length-set old to true ∙ w.whole;
    inside = elim m.left [
      | inl s ↦ subst (λ ls. (j : ℕ) → j < length ls → get_or ls j 0 < length arrows) (sym s.0) w.inside
      | inr s ↦ subst (λ ls. (j : ℕ) → j < length ls → get_or ls j 0 < length arrows) (sym s.0) (each_more (λ p. p < length arrows) before to w.inside (graph place count inside below))
    ];
    comes = elim m.left [
      | inl s ↦ subst (λ ls. (j : ℕ) → j < length ls → (is_marked starts (get_or ls j 0) || is_marked new (get_or ls j 0)) ≡ true) (sym s.0) (λ j lt. kept_on (get_or before j 0) (w.comes j lt))
      | inr s ↦ subst (λ ls. (j : ℕ) → j < length ls → (is_marked starts (get_or ls j 0) || is_marked new (get_or ls j 0)) ≡ true) (sym s.0)
          (each_more (λ p. (is_marked starts p || is_marked new p) ≡ true) before to (λ j lt. kept_on (get_or before j 0) (w.comes j lt)) (or_second (is_marked starts to) (is_marked new to) there))
    ];
    here = kept_on place w.here;
    followed = λ k h. elim (less_or_same k count h) [
      | inl lt ↦ kept (target arrows place k) (w.followed k lt)
      | inr e ↦ ap (λ n. is_marked new (target arrows place n)) e ∙ there
    ];
    done = λ i lt on. elim (either (is_marked starts i) (is_marked new i) on) [
      | inl s ↦ was i (w.done i lt (or_first (is_marked starts i) (is_marked old i) s))
      | inr h ↦ elim (marked-before old to i fits (sym (ap (λ ms. is_marked ms i) m.marks) ∙ h)) [
        | inl e ↦ subst (λ n. IsOn after n ⊎ ((n ≡ place) ⊎ AllMarked (get_or arrows n []) (is_marked new))) e at_target
        | inr o ↦ was i (w.done i lt (or_second (is_marked starts i) (is_marked old i) o))
      ]
    ];
    only = λ t closed. subst (λ ms. Within (is_marked ms) t) (sym m.marks) (Within-set old to t fits (closed place inside (or_more (is_marked starts place) (is_marked old place) (t place) (w.only t closed place) w.here) count below) (w.only t closed));
  }
    where
      to : ℕ
      to = target arrows place count

      fits : to < length old
      fits = omega (arith, graph place count inside below, w.whole)

      or_second : (a b : Bool) → b ≡ true → (a || b) ≡ true
      or_second true b h = refl
      or_second false b h = h

      there : is_marked new to ≡ true
      there = ap (λ ms. is_marked ms to) m.marks ∙ marked-set_same old to fits

      kept : (j : ℕ) → is_marked old j ≡ true → is_marked new j ≡ true
      kept j h = ap (λ ms. is_marked ms j) m.marks ∙ marked-set old to j fits h

      kept_on : (j : ℕ) → (is_marked starts j || is_marked old j) ≡ true → (is_marked starts j || is_marked new j) ≡ true
      kept_on j h = or_more (is_marked starts j) (is_marked old j) (is_marked new j) (kept j) h

      on_after : (i : ℕ) → IsOn before i → IsOn after i
      on_after i on = elim m.left [
        | inl s ↦ subst (λ ls. IsOn ls i) (sym s.0) on
        | inr s ↦ subst (λ ls. IsOn ls i) (sym s.0) (on_more before to i on)
      ]

      was : (i : ℕ) → IsOn before i ⊎ ((i ≡ place) ⊎ AllMarked (get_or arrows i []) (is_marked old)) → IsOn after i ⊎ ((i ≡ place) ⊎ AllMarked (get_or arrows i []) (is_marked new))
      was i h = elim h [
        | inl on ↦ inl (on_after i on)
        | inr more ↦ elim more [
          | inl e ↦ inr (inl e)
          | inr all ↦ inr (inr (λ k lt. kept (target arrows i k) (all k lt)))
        ]
      ]

      at_target : IsOn after to ⊎ ((to ≡ place) ⊎ AllMarked (get_or arrows to []) (is_marked new))
      at_target = elim m.left [
        | inl s ↦ was to (w.done to (graph place count inside below) s.1)
        | inr s ↦ inl (subst (λ ls. IsOn ls to) (sym s.0) (on_end before to))
      ]

-- what is marked and what is left grow no more than by the place
pub marks_no_more : (starts : List Bool) (to : ℕ) (old new : List Bool) (before after : List ℕ) → to < length old → Marks starts to old new before after → unmarked new + length after ≤ unmarked old + length before
marks_no_more starts to old new before after fits m = elim m.left [
  | inl s ↦ omega (arith, fewer, ap unmarked m.marks, ap length s.0)
  | inr s ↦ omega (arith, unmarked-set old to fits s.1, ap unmarked m.marks, ap length s.0, length-append before (to ∷ []))
]
  where
    fewer : unmarked (set old to true) ≤ unmarked old
    fewer = elim (is_marked old to) as (λ b. is_marked old to ≡ b → unmarked (set old to true) ≤ unmarked old) [
      | true ↦ λ on. omega (arith, ap unmarked (set_marked old to on))
      | false ↦ λ off. omega (arith, unmarked-set old to fits off)
    ] refl

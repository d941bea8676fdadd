-- The graph of a list's members, in which each has the places of those that it leads to.
use Rattle.std.proofs.Common.{◌≡◌, ℕ, ◌+◌, ◌<◌, zero, suc, Bool, true, false, not, ◌&&◌, cond, List, [], ◌∷◌, map, length, get_or, refl, sym, ap, subst, ◌∙◌, arith}
use Rattle.std.specs.List.{list_all}
use Rattle.std.proofs.lemmas.List.{get_or-map, length-map}
use Rattle.reach.specs.Reach.{is_reached, IsGraph, IsLeast, Represents}
use Rattle.reach.specs.Positions.{positions}
use Rattle.reach.proofs.lemmas.Least.{least_is_reached}

-- the place at k is one of the list's, and passes
abbrev IsPlace : {X : Type 0} → (X → Bool) → ℕ → List X → X → List ℕ → ℕ → Type 0
IsPlace p at xs d places k = (j : ℕ) × (j < length xs) × (get_or places k 0 ≡ at + j) × (p (get_or xs j d) ≡ true)

place_later : {X : Type 0} (p : X → Bool) (at : ℕ) (x : X) (xs : List X) (d : X) (places : List ℕ) (k : ℕ) → IsPlace p (at + 1) xs d places k → IsPlace p at (x ∷ xs) d places k
place_later p at x xs d places k s = (suc s.0, omega (arith, s.1), omega (arith, s.2), s.3)

place_first : {X : Type 0} (p : X → Bool) (at : ℕ) (x : X) (xs : List X) (d : X) (places : List ℕ) → p x ≡ true → ((i : ℕ) → i < length places → IsPlace p (at + 1) xs d places i) → (k : ℕ) → k < suc (length places) → IsPlace p at (x ∷ xs) d (at ∷ places) k
place_first p at x xs d places h later zero lt = (0, omega arith, omega arith, h)
place_first p at x xs d places h later (suc i) lt =
    let s = later i (omega (arith, lt)) in
    (suc s.0, omega (arith, s.1), omega (arith, s.2), s.3)

-- a place that is found passes and is within the list
pub positions_sound : {X : Type 0} (p : X → Bool) (at : ℕ) (xs : List X) (k : ℕ) (d : X) → k < length (positions p at xs) → (j : ℕ) × (j < length xs) × (get_or (positions p at xs) k 0 ≡ at + j) × (p (get_or xs j d) ≡ true)
positions_sound p at [] k d lt = absurd (omega arith)
positions_sound p at (x ∷ xs) k d lt =
    elim (p x) as (λ v. p x ≡ v → k < length (cond v (at ∷ positions p (at + 1) xs) (positions p (at + 1) xs)) → IsPlace p at (x ∷ xs) d (cond v (at ∷ positions p (at + 1) xs) (positions p (at + 1) xs)) k) [
      | true ↦ λ e h. place_first p at x xs d (positions p (at + 1) xs) e (λ i below. positions_sound p (at + 1) xs i d below) k h
      | false ↦ λ e h. place_later p at x xs d (positions p (at + 1) xs) k (positions_sound p (at + 1) xs k d h)
    ] refl lt

-- and each that passes is found
pub positions_whole : {X : Type 0} (p : X → Bool) (at : ℕ) (xs : List X) (j : ℕ) (d : X) → j < length xs → p (get_or xs j d) ≡ true → (k : ℕ) × (k < length (positions p at xs)) × (get_or (positions p at xs) k 0 ≡ at + j)
positions_whole p at [] j d lt h = absurd (omega arith)
positions_whole p at (x ∷ xs) zero d lt h = rw h (0, omega arith, omega arith)
positions_whole p at (x ∷ xs) (suc j) d lt h =
    let s = positions_whole p (at + 1) xs j d (omega arith) h in
    elim (p x) as (λ v. (k : ℕ) × (k < length (cond v (at ∷ positions p (at + 1) xs) (positions p (at + 1) xs))) × (get_or (cond v (at ∷ positions p (at + 1) xs) (positions p (at + 1) xs)) k 0 ≡ at + suc j)) [
      | true ↦ (suc s.0, omega (arith, s.1), omega (arith, s.2))
      | false ↦ (s.0, s.1, omega (arith, s.2))
    ]

module _ {X : Type 0} (leads : X → X → Bool) (starts : X → Bool) (xs : List X) (d : X) where
  abbrev rows : List (List ℕ)
  rows = map (λ x. positions (leads x) 0 xs) xs

  row_at : (i : ℕ) → i < length xs → get_or rows i [] ≡ positions (leads (get_or xs i d)) 0 xs
  row_at i lt = get_or-map (λ x. positions (leads x) 0 xs) xs i d [] lt

  pub rows-IsGraph : IsGraph (map (λ x. positions (leads x) 0 xs) xs)
  rows-IsGraph i k lt here =
      let inside : i < length xs = omega (arith, length-map xs (λ x. positions (leads x) 0 xs)) in
      let s = positions_sound (leads (get_or xs i d)) 0 xs k d (subst (λ row. k < length row) (row_at i inside) here) in
      let to : get_or (get_or rows i []) k 0 ≡ s.0 = ap (λ row. get_or row k 0) (row_at i inside) ∙ s.2 ∙ omega arith in
      omega (arith, to, s.1, length-map xs (λ x. positions (leads x) 0 xs))

  pub rows-Represents : Represents leads starts xs d (map (λ x. positions (leads x) 0 xs) xs) (map starts xs)
  rows-Represents = record {
    whole = length-map xs (λ x. positions (leads x) 0 xs);
    starting = λ i lt. get_or-map starts xs i d false lt;
    leading = λ i k lt here.
        let s = positions_sound (leads (get_or xs i d)) 0 xs k d (subst (λ row. k < length row) (row_at i lt) here) in
        let to : get_or (get_or rows i []) k 0 ≡ s.0 = ap (λ row. get_or row k 0) (row_at i lt) ∙ s.2 ∙ omega arith in
        ap (λ j. leads (get_or xs i d) (get_or xs j d)) to ∙ s.3;
    arrow = λ i j lt jt h.
        let s = positions_whole (leads (get_or xs i d)) 0 xs j d jt h in
        (s.0, subst (λ row. s.0 < length row) (sym (row_at i lt)) s.1, ap (λ row. get_or row s.0 0) (row_at i lt) ∙ s.2 ∙ omega arith);
  }

  -- what is marked is what is reached
  pub marked_at : (arrows : List (List ℕ)) (ss marks : List Bool) → arrows ≡ map (λ x. positions (leads x) 0 xs) xs → ss ≡ map starts xs → IsLeast arrows ss marks → (j : ℕ) → j < length xs → (get_or marks j false ≡ is_reached leads starts xs (length xs) (get_or xs j d)) × (length marks ≡ length xs)
  marked_at arrows ss marks e f least j lt =
      let whole : IsLeast rows (map starts xs) marks = subst (λ a. IsLeast a (map starts xs) marks) e (subst (λ s. IsLeast arrows s marks) f least) in
      (least_is_reached leads starts xs d rows (map starts xs) marks rows-Represents rows-IsGraph whole j lt, whole.whole ∙ length-map xs (λ x. positions (leads x) 0 xs))

-- what holds of each place holds of all
pub all_places : {X : Type 0} (p : X → Bool) (xs : List X) → ((k : ℕ) (d : X) → k < length xs → p (get_or xs k d) ≡ false) → list_all (λ x. not (p x)) xs ≡ true
all_places p [] h = refl
all_places p (x ∷ xs) h = rw (h 0 x (omega arith), all_places p xs (λ k d lt. h (suc k) d (omega arith))) refl

pub one_place : {X : Type 0} (p : X → Bool) (xs : List X) (k : ℕ) (d : X) → k < length xs → p (get_or xs k d) ≡ true → list_all (λ x. not (p x)) xs ≡ false
one_place p [] k d lt h = absurd (omega arith)
one_place p (x ∷ xs) zero d lt h = rw h refl
one_place p (x ∷ xs) (suc k) d lt h = rw (one_place p xs k d (omega arith) h) (and_no (not (p x)))
  where
    and_no : (b : Bool) → (b && false) ≡ false
    and_no true = refl
    and_no false = refl

-- a list that has a place has a member
pub at_some : {X : Type 0} (xs : List X) (k : ℕ) → k < length xs → X
at_some [] k lt = absurd (omega arith)
at_some (x ∷ xs) k lt = x

-- the places of those that each leads to are a graph
pub rows_graph : {X : Type 0} (leads : X → X → Bool) (xs : List X) → IsGraph (map (λ x. positions (leads x) 0 xs) xs)
rows_graph leads [] = λ i k lt below. absurd (omega arith)
rows_graph leads (x ∷ xs) = rows-IsGraph leads (λ _. true) (x ∷ xs) x

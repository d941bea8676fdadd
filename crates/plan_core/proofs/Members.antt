-- Members of lists, by an exact test of sameness.
use Rattle.std.proofs.Common.{◌≡◌, ℕ, ◌+◌, ◌<◌, ◌≤◌, suc, Bool, true, false, not, ◌||◌, cond, List, [], ◌∷◌, filter, take, drop, get_or, length, Some, None, refl, sym, ap, subst, ◌∙◌, arith}
use Rattle.std.specs.List.{list_any, find}
use Rattle.std.proofs.lemmas.List.{take_all, at_drop_more}
use Rattle.std.proofs.lemmas.List.Folds.{list_any_more}
use Rattle.net_model.specs.Words.{apart}
use Rattle.net_model.proofs.lemmas.Truth.{and_left, and_right, not_true, or_right}
use Rattle.net_model.proofs.lemmas.ByName.{or_left}
use Rattle.net_model.proofs.lemmas.Parts.{none_filter, length_filter}

-- one that passes is left where all that pass are kept
pub any_kept : {X : Type 0} (p keep : X → Bool) → ((x : X) → p x ≡ true → keep x ≡ true) → (xs : List X) → list_any p xs ≡ true → list_any p (filter keep xs) ≡ true
any_kept p keep all [] some = absurd cc
any_kept p keep all (x ∷ xs) some =
    elim (p x) as (λ v. p x ≡ v → (v || list_any p xs) ≡ true → list_any p (cond (keep x) (x ∷ filter keep xs) (filter keep xs)) ≡ true) [
      | true ↦ λ e _. rw (all x e, e) refl
      | false ↦ λ e later. elim (keep x) as (λ w. list_any p (cond w (x ∷ filter keep xs) (filter keep xs)) ≡ true) [
        | true ↦ rw e (any_kept p keep all xs later)
        | false ↦ any_kept p keep all xs later
      ]
    ] refl some

-- one that is left was there
pub any_was : {X : Type 0} (p keep : X → Bool) (xs : List X) → list_any p (filter keep xs) ≡ true → list_any p xs ≡ true
any_was p keep xs some =
    elim (list_any p xs) as (λ v. list_any p xs ≡ v → v ≡ true) [
      | true ↦ λ _. refl
      | false ↦ λ e. let no : true ≡ false = sym some ∙ none_filter keep p xs e in absurd cc
    ] refl

-- none is left of those that are taken away
pub none_left : {X : Type 0} (p : X → Bool) (xs : List X) → list_any p (filter (λ x. not (p x)) xs) ≡ false
none_left p [] = refl
none_left p (x ∷ xs) = elim (p x) as (λ v. p x ≡ v → list_any p (cond (not v) (x ∷ filter (λ y. not (p y)) xs) (filter (λ y. not (p y)) xs)) ≡ false) [
  | true ↦ λ e. none_left p xs
  | false ↦ λ e. rw e (none_left p xs)
] refl

-- and where one was, the list is shorter
pub one_fewer : {X : Type 0} (p : X → Bool) (xs : List X) → list_any p xs ≡ true → length (filter (λ x. not (p x)) xs) < length xs
one_fewer p [] some = absurd cc
one_fewer p (x ∷ xs) some = elim (p x) as (λ v. (v || list_any p xs) ≡ true → length (cond (not v) (x ∷ filter (λ y. not (p y)) xs) (filter (λ y. not (p y)) xs)) < suc (length xs)) [
  | true ↦ λ _. let le = length_filter (λ y. not (p y)) xs in omega (arith, le)
  | false ↦ λ later. let less = one_fewer p xs later in omega (arith, less)
] some

-- nothing is found where none passes
pub find_none : {X : Type 0} (p : X → Bool) (xs : List X) → list_any p xs ≡ false → find p xs ≡ None
find_none p [] none = refl
find_none p (x ∷ xs) none = elim (p x) as (λ v. (v || list_any p xs) ≡ false → cond v (Some x) (find p xs) ≡ None) [
  | true ↦ λ h. absurd cc
  | false ↦ λ h. find_none p xs h
] none

-- and something where one does
pub find_some : {X : Type 0} (p : X → Bool) (xs : List X) → list_any p xs ≡ true → (x : X) × (find p xs ≡ Some x)
find_some p [] some = absurd cc
find_some p (x ∷ xs) some = elim (p x) as (λ v. (v || list_any p xs) ≡ true → (y : _) × (cond v (Some x) (find p xs) ≡ Some y)) [
  | true ↦ λ h. (x, refl)
  | false ↦ λ h. find_some p xs h
] some

module _ {X : Type 0} (E : X → X → Bool) (exact : (x y : X) → E x y ≡ true → x ≡ y) (itself : (x : X) → E x x ≡ true) where
  -- a member that passes
  pub any_by : (x : X) (p : X → Bool) (xs : List X) → list_any (E x) xs ≡ true → p x ≡ true → list_any p xs ≡ true
  any_by x p [] among h = absurd cc
  any_by x p (y ∷ ys) among h = elim (E x y) as (λ v. E x y ≡ v → (v || list_any (E x) ys) ≡ true → (p y || list_any p ys) ≡ true) [
    | true ↦ λ e _. or_left (p y) (list_any p ys) (ap p (sym (exact x y e)) ∙ h)
    | false ↦ λ e later. or_right (p y) (list_any p ys) (any_by x p ys later h)
  ] refl among

  -- one that passes is a member
  pub member_of : (p : X → Bool) (xs : List X) → list_any p xs ≡ true → (x : X) × (list_any (E x) xs ≡ true) × (p x ≡ true)
  member_of p [] some = absurd cc
  member_of p (y ∷ ys) some = elim (p y) as (λ v. p y ≡ v → (v || list_any p ys) ≡ true → (x : X) × (list_any (E x) (y ∷ ys) ≡ true) × (p x ≡ true)) [
    | true ↦ λ e _. (y, or_left (E y y) (list_any (E y) ys) (itself y), e)
    | false ↦ λ e later. let m = member_of p ys later in (m.0, or_right (E m.0 y) (list_any (E m.0) ys) m.1, m.2)
  ] refl some

  -- and so is one that is found
  pub found_member : (p : X → Bool) (xs : List X) (x : X) → find p xs ≡ Some x → (list_any (E x) xs ≡ true) × (p x ≡ true)
  found_member p [] x found = absurd cc
  found_member p (y ∷ ys) x found = elim (p y) as (λ v. p y ≡ v → cond v (Some y) (find p ys) ≡ Some x → ((E x y || list_any (E x) ys) ≡ true) × (p x ≡ true)) [
    | true ↦ λ e here. let same : y ≡ x = cc in (or_left (E x y) (list_any (E x) ys) (ap (E x) same ∙ itself x), ap p (sym same) ∙ e)
    | false ↦ λ e later. let m = found_member p ys x later in (or_right (E x y) (list_any (E x) ys) m.0, m.1)
  ] refl found

  -- what holds of the first members and of the next holds of one more
  pub one_more_done : (P Q : X → Type 0) (xs : List X) (i : ℕ) (x d : X) → i < length xs → x ≡ get_or xs i d → ((y : X) → P y → Q y) → Q x
      → ((y : X) → list_any (E y) (take i xs) ≡ true → P y) → (y : X) → list_any (E y) (take (i + 1) xs) ≡ true → Q y
  one_more_done P Q xs i x d within is still here before y among =
      let more : (list_any (E y) (take i xs) || E y (get_or xs i d)) ≡ true = sym (list_any_more (E y) xs i d within) ∙ among in
      elim (list_any (E y) (take i xs)) as (λ b. list_any (E y) (take i xs) ≡ b → (b || E y (get_or xs i d)) ≡ true → Q y) [
        | true ↦ λ e _. still y (before y e)
        | false ↦ λ _ e. subst Q (is ∙ sym (exact y (get_or xs i d) e)) here
      ] refl more

  -- what holds of the last members and of the one before them holds of one more
  pub one_before_done : (P Q : X → Type 0) (xs : List X) (i : ℕ) (x d : X) → i < length xs → x ≡ get_or xs i d → ((y : X) → P y → Q y) → Q x
      → ((y : X) → list_any (E y) (drop (i + 1) xs) ≡ true → P y) → (y : X) → list_any (E y) (drop i xs) ≡ true → Q y
  one_before_done P Q xs i x d within is still here behind y among =
      let more : (E y (get_or xs i d) || list_any (E y) (drop (i + 1) xs)) ≡ true = sym (at_drop_more (list_any (E y)) xs i d within) ∙ among in
      elim (E y (get_or xs i d)) as (λ b. E y (get_or xs i d) ≡ b → (b || list_any (E y) (drop (i + 1) xs)) ≡ true → Q y) [
        | true ↦ λ e _. subst Q (is ∙ sym (exact y (get_or xs i d) e)) here
        | false ↦ λ _ later. still y (behind y later)
      ] refl more

  -- what holds of all the first members holds of all
  pub all_done : (P : X → Type 0) (xs : List X) (i : ℕ) → length xs ≤ i → ((y : X) → list_any (E y) (take i xs) ≡ true → P y) → (y : X) → list_any (E y) xs ≡ true → P y
  all_done P xs i end done y among = done y (ap (λ ys. list_any (E y) ys) (take_all i xs end) ∙ among)

  module _ (K : X → X → Bool) (own : (x : X) → K x x ≡ true) where
    -- members with one key are one
    pub one_key : ((x y : X) → K x y ≡ true → K y x ≡ true) → (xs : List X) → apart K xs ≡ true → (a b : X) → list_any (E a) xs ≡ true → list_any (E b) xs ≡ true → K a b ≡ true → a ≡ b
    one_key both [] differ a b ha hb same = absurd cc
    one_key both (x ∷ xs) differ a b ha hb same =
        let none : list_any (K x) xs ≡ false = not_true (list_any (K x) xs) (and_left (not (list_any (K x) xs)) (apart K xs) differ) in
        elim (E a x) as (λ v. E a x ≡ v → (v || list_any (E a) xs) ≡ true → a ≡ b) [
          | true ↦ λ ea _. elim (E b x) as (λ w. E b x ≡ w → (w || list_any (E b) xs) ≡ true → a ≡ b) [
            | true ↦ λ eb _. exact a x ea ∙ sym (exact b x eb)
            | false ↦ λ eb later. let no : true ≡ false = sym (any_by b (K x) xs later (ap (λ y. K y b) (sym (exact a x ea)) ∙ same)) ∙ none in absurd cc
          ] refl hb
          | false ↦ λ ea before. elim (E b x) as (λ w. E b x ≡ w → (w || list_any (E b) xs) ≡ true → a ≡ b) [
            | true ↦ λ eb _. let no : true ≡ false = sym (any_by a (K x) xs before (ap (λ y. K y a) (sym (exact b x eb)) ∙ both a b same)) ∙ none in absurd cc
            | false ↦ λ eb later. one_key both xs (and_right (not (list_any (K x) xs)) (apart K xs) differ) a b before later same
          ] refl hb
        ] refl ha

    -- a list of members of another isn't longer
    pub no_longer : (xs ys : List X) → apart K xs ≡ true → ((x : X) → list_any (E x) xs ≡ true → list_any (E x) ys ≡ true) → length xs ≤ length ys
    no_longer [] ys differ each = omega arith
    no_longer (x ∷ xs) ys differ each =
        let none : list_any (K x) xs ≡ false = not_true (list_any (K x) xs) (and_left (not (list_any (K x) xs)) (apart K xs) differ) in
        let less : length (filter (λ y. not (E x y)) ys) < length ys = one_fewer (E x) ys (each x (or_left (E x x) (list_any (E x) xs) (itself x))) in
        let rest : length xs ≤ length (filter (λ y. not (E x y)) ys) =
        no_longer xs (filter (λ y. not (E x y)) ys) (and_right (not (list_any (K x) xs)) (apart K xs) differ) (λ z among.
        others x z ys (λ same. let no : true ≡ false = sym (any_by z (K x) xs among (ap (K x) (sym same) ∙ own x)) ∙ none in absurd cc) (each z (or_right (E z x) (list_any (E z) xs) among))) in
        omega (arith, less, rest)
      where
        others : (x z : X) (ys : List X) → (x ≡ z → ⊥) → list_any (E z) ys ≡ true → list_any (E z) (filter (λ y. not (E x y)) ys) ≡ true
        others x z ys other among = any_kept (E z) (λ y. not (E x y)) (λ y e. elim (E x y) as (λ v. E x y ≡ v → not v ≡ true) [
          | true ↦ λ h. absurd (other (exact x y h ∙ sym (exact z y e)))
          | false ↦ λ h. refl
        ] refl) ys among

    -- and is shorter where one is missing
    pub shorter : (xs ys : List X) (x : X) → apart K xs ≡ true → ((y : X) → list_any (E y) xs ≡ true → list_any (E y) ys ≡ true) → list_any (E x) xs ≡ false → list_any (E x) ys ≡ true → length xs < length ys
    shorter xs ys x differ each missing there =
        let less : length (filter (λ y. not (E x y)) ys) < length ys = one_fewer (E x) ys there in
        let rest : length xs ≤ length (filter (λ y. not (E x y)) ys) = no_longer xs (filter (λ y. not (E x y)) ys) differ (λ z among.
        any_kept (E z) (λ y. not (E x y)) (λ y e. elim (E x y) as (λ v. E x y ≡ v → not v ≡ true) [
          | true ↦ λ h.
              let same : x ≡ z = exact x y h ∙ sym (exact z y e) in
              let no : true ≡ false = sym among ∙ ap (λ w. list_any (E w) xs) (sym same) ∙ missing in
              absurd cc
          | false ↦ λ h. refl
        ] refl) ys (each z among)) in
        omega (arith, less, rest)

    -- lists with the same members find the same by key
    pub same_found : ((r a b : X) → K r a ≡ true → K r b ≡ true → K a b ≡ true) → ((x y : X) → K x y ≡ true → K y x ≡ true) → (xs ys : List X) → apart K ys ≡ true
        → ((x : X) → list_any (E x) xs ≡ true → list_any (E x) ys ≡ true) → ((x : X) → list_any (E x) ys ≡ true → list_any (E x) xs ≡ true) → (r : X) → find (K r) xs ≡ find (K r) ys
    same_found euclid both xs ys differ there back r = of (list_any (K r) xs) refl
      where
        of : (v : Bool) → list_any (K r) xs ≡ v → find (K r) xs ≡ find (K r) ys
        of true some =
            let f = find_some (K r) xs some in
            let m = found_member (K r) xs f.0 f.1 in
            let g = find_some (K r) ys (any_by f.0 (K r) ys (there f.0 m.0) m.1) in
            let k = found_member (K r) ys g.0 g.1 in
            let one : f.0 ≡ g.0 = one_key both ys differ f.0 g.0 (there f.0 m.0) k.0 (euclid r f.0 g.0 m.1 k.1) in
            f.1 ∙ ap Some one ∙ sym g.1
        of false none =
            let off : list_any (K r) ys ≡ false = elim (list_any (K r) ys) as (λ v. list_any (K r) ys ≡ v → v ≡ false) [
              | true ↦ λ e.
                  let m = member_of (K r) ys e in
                  let no : true ≡ false = sym (any_by m.0 (K r) xs (back m.0 m.1) m.2) ∙ none in
                  absurd cc
              | false ↦ λ _. refl
            ] refl in
            find_none (K r) xs none ∙ sym (find_none (K r) ys off)

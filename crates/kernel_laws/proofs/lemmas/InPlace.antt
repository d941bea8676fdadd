-- Edits in place are the edits of the definitions.
use Rattle.std.proofs.Common.{◌≡◌, ℕ, ◌<◌, ◌≤◌, zero, suc, Bool, true, false, not, ◌&&◌, ◌||◌, cond, List, [], ◌∷◌, map, filter, length, get_or, set, Option, Some, None, Ordering, Less, Greater, refl, sym, ap, ◌∙◌, arith}
use Rattle.std.specs.Prelude.{if◌then◌else◌}
use Rattle.std.specs.List.{list_any, insert}
use Rattle.std.specs.Ordering.{is_lt}
use Rattle.net_model.specs.Name.{same_bytes}
use Rattle.net_model.specs.Words.{put, is_among}
use Rattle.net_model.specs.Links.{is_named, find_link, same_name, named_passes}
use Rattle.net_model.specs.Valid.{names_differ}
use Rattle.net_model.specs.declared.link.Link.{Link}
use Rattle.net_model.proofs.lemmas.Truth.{and_left, and_right, not_true, or_left_false, or_right_false}
use Rattle.net_model.proofs.lemmas.Found.{one_name}
use Rattle.net_model.specs.Edits.{changed, edit_link}
use Rattle.kernel_laws.proofs.lemmas.Changed.{changed_at, changed_off}

-- one that passes at some place
pub some_at : (p : Link → Bool) (xs : List Link) (i : ℕ) (d : Link) → i < length xs → p (get_or xs i d) ≡ true → list_any p xs ≡ true
some_at p [] i d lt h = absurd (omega arith)
some_at p (x ∷ xs) zero d lt h = rw h refl
some_at p (x ∷ xs) (suc i) d lt h = elim (p x) as (λ v. (v || list_any p xs) ≡ true) [ true ↦ refl | false ↦ some_at p xs i d (omega arith) h ]

-- none of the others has the name
rest_same : (name : List ℕ) (g : Link → Link) (x : Link) (xs : List Link) → is_named name x ≡ true → list_any (same_name x) xs ≡ false → map (changed name g) xs ≡ xs
rest_same name g x [] h none = refl
rest_same name g x (y ∷ ys) h none =
    let away : is_named name y ≡ false = ap (same_bytes y.name) (sym (one_name x.name name h)) ∙ or_left_false (same_name x y) (list_any (same_name x) ys) none in
    ap (λ (l : Link). l ∷ map (changed name g) ys) (changed_off name g y away) ∙ ap (λ (ls : List Link). y ∷ ls) (rest_same name g x ys h (or_right_false (same_name x y) (list_any (same_name x) ys) none))

-- the link at the place of a name, changed there, is the named link changed
pub set_is_edit : (name : List ℕ) (g : Link → Link) (xs : List Link) (i : ℕ) (d : Link) → names_differ xs ≡ true → i < length xs → is_named name (get_or xs i d) ≡ true → set xs i (g (get_or xs i d)) ≡ edit_link name g xs
set_is_edit name g [] i d differ lt h = absurd (omega arith)
set_is_edit name g (x ∷ xs) zero d differ lt h =
    let none : list_any (same_name x) xs ≡ false = not_true (list_any (same_name x) xs) (and_left (not (list_any (same_name x) xs)) (names_differ xs) differ) in
    ap (λ (l : Link). l ∷ xs) (sym (changed_at name g x h)) ∙ ap (λ (ls : List Link). changed name g x ∷ ls) (sym (rest_same name g x xs h none))
set_is_edit name g (x ∷ xs) (suc i) d differ lt h =
    let none : list_any (same_name x) xs ≡ false = not_true (list_any (same_name x) xs) (and_left (not (list_any (same_name x) xs)) (names_differ xs) differ) in
    let away : is_named name x ≡ false = other (is_named name x) refl none in
    ap (λ (ls : List Link). x ∷ ls) (set_is_edit name g xs i d (and_right (not (list_any (same_name x) xs)) (names_differ xs) differ) (omega arith) h)
    ∙ ap (λ (l : Link). l ∷ edit_link name g xs) (sym (changed_off name g x away))
  where
    other : (v : Bool) → is_named name x ≡ v → list_any (same_name x) xs ≡ false → v ≡ false
    other true e none =
        let same : same_name x (get_or xs i d) ≡ true = ap (same_bytes (get_or xs i d).name) (one_name x.name name e) ∙ h in
        let wrong : true ≡ false = sym (some_at (same_name x) xs i d (omega arith) same) ∙ none in
        absurd cc
    other false e none = refl

-- what is inserted between the lower and the higher is put into its place
pub insert_is_put : {X : Type 0} (R : X → X → Ordering) (a : X) (xs : List X) (i : ℕ) → i ≤ length xs → ((k : ℕ) (d : X) → k < i → R (get_or xs k d) a ≡ Less) → ((k : ℕ) (d : X) → i ≤ k → k < length xs → R (get_or xs k d) a ≡ Greater) → insert xs i a ≡ put R a xs
insert_is_put R a [] zero le low high = refl
insert_is_put R a [] (suc i) le low high = absurd (omega arith)
insert_is_put R a (b ∷ bs) zero le low high = ap (λ r. if is_lt r then b ∷ put R a bs else a ∷ b ∷ bs) (sym (high 0 b (omega arith) (omega arith)))
insert_is_put {X} R a (b ∷ bs) (suc i) le low high =
    ap (λ (ys : List X). b ∷ ys) (insert_is_put R a bs i (omega arith) (λ k d lt. low (suc k) d (omega arith)) (λ k d at lt. high (suc k) d (omega arith) (omega arith)))
    ∙ ap (λ r. if is_lt r then b ∷ put R a bs else a ∷ b ∷ bs) (sym (low 0 b (omega arith)))

-- the names of those that pass: what is among them passes under its name
pub among_passes : (p : Link → Bool) (xs : List Link) (name : List ℕ) → is_among (map (λ (l : Link). l.name) (filter p xs)) name ≡ named_passes p xs name
among_passes p [] name = refl
among_passes p (x ∷ xs) name =
    elim (p x) as (λ v. is_among (map (λ (l : Link). l.name) (cond v (x ∷ filter p xs) (filter p xs))) name ≡ (is_named name x && v || named_passes p xs name)) [
      | true ↦ ap (λ b. b || is_among (map (λ (l : Link). l.name) (filter p xs)) name) (sym (and_yes (is_named name x))) ∙ ap (λ b. is_named name x && true || b) (among_passes p xs name)
      | false ↦ among_passes p xs name ∙ ap (λ b. b || named_passes p xs name) (sym (and_no (is_named name x)))
    ]
  where
    and_yes : (b : Bool) → (b && true) ≡ b
    and_yes true = refl
    and_yes false = refl

    and_no : (b : Bool) → (b && false) ≡ false
    and_no true = refl
    and_no false = refl

-- where no link has the name, nothing is changed
pub edit_none : (name : List ℕ) (g : Link → Link) (xs : List Link) → find_link name xs ≡ None → edit_link name g xs ≡ xs
edit_none name g [] none = refl
edit_none name g (x ∷ xs) none =
    elim (is_named name x) as (λ v. is_named name x ≡ v → cond v (Some x) (find_link name xs) ≡ None → edit_link name g (x ∷ xs) ≡ x ∷ xs) [
      | true ↦ λ e k. absurd cc
      | false ↦ λ e k. ap (λ (l : Link). l ∷ edit_link name g xs) (changed_off name g x e) ∙ ap (λ (ls : List Link). x ∷ ls) (edit_none name g xs k)
    ] refl none

-- Lists of names: which are in them, and that each is there once.
use Rattle.std.proofs.Common.{◌≡◌, ◌==◌, ℕ, suc, ◌≤◌, Bool, true, false, not, ◌&&◌, ◌||◌, ◌++◌, cond, List, [], ◌∷◌, length, map, filter, Some, None, IsPermutation, IsSorted, refl, sym, ap, ◌∙◌, arith, eqb-true}
use Rattle.std.specs.Prelude.{if◌then◌else◌}
use Rattle.std.specs.List.{list_any, find, AllByRecursion, IsDistinct}
use Rattle.std.specs.Cmp.Lexicographic.{texts_ties}
use Rattle.std.proofs.lemmas.Cmp.{nat_list_cmp_total, nat_list_eq_equiv}
use Rattle.std.proofs.lemmas.List.{length-map}
use Rattle.std.proofs.lemmas.List.Folds.{list_any-append}
use Rattle.std.proofs.lemmas.List.Sorted.{list_any-IsPermutation}
use Rattle.std.proofs.lemmas.Map.Made.{length-le_from_is_member}
use Rattle.net_model.specs.Name.{same_bytes}
use Rattle.net_model.specs.Words.{apart, rises, is_among}
use Rattle.net_model.specs.Order.{name_cmp}
use Rattle.net_model.specs.declared.link.Link.{Link}
use Rattle.net_model.proofs.lemmas.Truth.{and_left, and_right, and_both, or_right, not_true, or_left_false, or_right_false}
use Rattle.net_model.proofs.lemmas.Found.{one_name, itself}
use Rattle.net_model.proofs.lemmas.ByName.{or_left}
use Rattle.net_model.proofs.lemmas.Ranks.{or_elim}
use Rattle.net_model.proofs.lemmas.Rises.{Climbs-sorted, apart-sorted}
use Rattle.net_model.proofs.lemmas.Permute.{apart-IsPermutation}
use Rattle.net_model.proofs.lemmas.Listing.{any_agree}
use Rattle.net_model.proofs.lemmas.SameLists.{one_list}

-- a name is among them from either side
member_among : (names : List (List ℕ)) (n : List ℕ) → list_any (same_bytes n) names ≡ is_among names n
member_among names n = any_agree (same_bytes n) (λ m. same_bytes m n) (λ m. nat_list_eq_equiv.symm n m) names

-- the names of two lists, each once
pub apart_append : (xs ys : List (List ℕ)) → apart same_bytes xs ≡ true → apart same_bytes ys ≡ true → ((n : List ℕ) → is_among ys n ≡ true → is_among xs n ≡ false) → apart same_bytes (xs ++ ys) ≡ true
apart_append [] ys ax ay new = ay
apart_append (x ∷ xs) ys ax ay new =
    let none : list_any (same_bytes x) xs ≡ false = not_true (list_any (same_bytes x) xs) (and_left (not (list_any (same_bytes x) xs)) (apart same_bytes xs) ax) in
    let other : list_any (same_bytes x) ys ≡ false = elim (list_any (same_bytes x) ys) as (λ v. list_any (same_bytes x) ys ≡ v → v ≡ false) [
      | true ↦ λ e.
          let off : same_bytes x x ≡ false = or_left_false (same_bytes x x) (is_among xs x) (new x (sym (member_among ys x) ∙ e)) in
          sym (itself x) ∙ off
      | false ↦ λ e. refl
    ] refl in
    and_both (not (list_any (same_bytes x) (xs ++ ys))) (apart same_bytes (xs ++ ys))
    (ap not (list_any-append (same_bytes x) xs ys ∙ ap (λ b. b || list_any (same_bytes x) ys) none ∙ other))
    (apart_append xs ys (and_right (not (list_any (same_bytes x) xs)) (apart same_bytes xs) ax) ay (λ n h. or_right_false (same_bytes x n) (is_among xs n) (new n h)))

none_of : (x : List ℕ) (ys : List (List ℕ)) → list_any (same_bytes x) ys ≡ false → AllByRecursion (λ y. same_bytes x y ≡ false) ys
none_of x [] h = tt
none_of x (y ∷ ys) h = (or_left_false (same_bytes x y) (list_any (same_bytes x) ys) h, none_of x ys (or_right_false (same_bytes x y) (list_any (same_bytes x) ys) h))

-- the same in std's word
pub distinct : (xs : List (List ℕ)) → apart same_bytes xs ≡ true → IsDistinct same_bytes xs
unfolding IsDistinct
distinct [] h = tt
distinct (x ∷ xs) h =
    (none_of x xs (not_true (list_any (same_bytes x) xs) (and_left (not (list_any (same_bytes x) xs)) (apart same_bytes xs) h)), distinct xs (and_right (not (list_any (same_bytes x) xs)) (apart same_bytes xs) h))

-- names of links, each once, are no more than there are links
pub few_names : (names : List (List ℕ)) (links : List Link) → apart same_bytes names ≡ true → ((n : List ℕ) → is_among names n ≡ true → is_among (map (λ (l : Link). l.name) links) n ≡ true) → length names ≤ length links
few_names names links once there =
    let few : length names ≤ length (map (λ (l : Link). l.name) links) =
    length-le_from_is_member nat_list_eq_equiv names (map (λ (l : Link). l.name) links) (distinct names once)
    (λ q h. member_among (map (λ (l : Link). l.name) links) q ∙ there q (sym (member_among names q) ∙ h)) in
    rw (sym (length-map links (λ (l : Link). l.name))) few

-- the name that is found is the one that is looked for
find_name : (w : List ℕ) (xs : List (List ℕ)) → find (same_bytes w) xs ≡ (if is_among xs w then Some w else None)
find_name w [] = refl
find_name w (x ∷ xs) =
    elim (same_bytes w x) as (λ v. same_bytes w x ≡ v → cond v (Some x) (find (same_bytes w) xs) ≡ (if same_bytes x w || is_among xs w then Some w else None)) [
      | true ↦ λ e.
          let turned : same_bytes x w ≡ true = nat_list_eq_equiv.symm x w ∙ e in
          ap (λ (n : List ℕ). Some n) (sym (one_name w x e)) ∙ sym (ap (λ b. if b || is_among xs w then Some w else None) turned)
      | false ↦ λ e.
          let turned : same_bytes x w ≡ false = nat_list_eq_equiv.symm x w ∙ e in
          find_name w xs ∙ sym (ap (λ b. if b || is_among xs w then Some w else None) turned)
    ] refl

-- sorted names, each once, are those of a strictly sorted list that has the same
pub sorted_names : (old new listed : List (List ℕ)) → apart same_bytes old ≡ true → IsPermutation old new → IsSorted name_cmp new → rises name_cmp listed ≡ true → ((n : List ℕ) → is_among old n ≡ is_among listed n) → new ≡ listed
sorted_names old new listed once moved up rise same =
    let apart_new : apart same_bytes new ≡ true = sym (apart-IsPermutation same_bytes (λ x y. nat_list_eq_equiv.symm x y) old new moved) ∙ once in
    let rise_new : rises name_cmp new ≡ true =
    sym (apart-sorted same_bytes name_cmp nat_list_cmp_total texts_ties new (Climbs-sorted name_cmp nat_list_cmp_total new up)) ∙ apart_new in
    one_list name_cmp same_bytes nat_list_cmp_total texts_ties new listed rise_new rise (λ w.
    find_name w new
    ∙ ap (λ b. if b then Some w else None) (sym (list_any-IsPermutation (λ m. same_bytes m w) old new moved) ∙ same w)
    ∙ sym (find_name w listed))

-- a list of no length has none
pub none_long : (names : List (List ℕ)) → (length names == 0) ≡ true → names ≡ []
none_long [] h = refl
none_long (x ∷ xs) h = let e : suc (length xs) ≡ 0 = eqb-true (suc (length xs)) 0 h in absurd (omega (arith, e))

-- a list in which no name is has none
pub no_names : (names : List (List ℕ)) → ((n : List ℕ) → is_among names n ≡ false) → names ≡ []
no_names [] none = refl
no_names (x ∷ xs) none =
    let wrong : true ≡ false = sym (itself x) ∙ or_left_false (same_bytes x x) (is_among xs x) (none x) in
    absurd cc

-- a name that is among them and passes
pub any_among : (p : List ℕ → Bool) (names : List (List ℕ)) (n : List ℕ) → is_among names n ≡ true → p n ≡ true → list_any p names ≡ true
any_among p [] n h on = absurd cc
any_among p (x ∷ xs) n h on =
    or_elim (same_bytes x n) (is_among xs n) (list_any p (x ∷ xs) ≡ true)
    (λ e. or_left (p x) (list_any p xs) (ap p (one_name x n e) ∙ on))
    (λ e. or_right (p x) (list_any p xs) (any_among p xs n e on)) h

-- ---- those that pass a test

and_no : (b : Bool) → (b && false) ≡ false
and_no true = refl
and_no false = refl

-- a name is among those that pass where it is among them all and passes
pub among_filter : (q : List ℕ → Bool) (xs : List (List ℕ)) (n : List ℕ) → is_among (filter q xs) n ≡ (is_among xs n && q n)
among_filter q [] n = refl
among_filter q (x ∷ xs) n =
    elim (same_bytes x n) as (λ v. same_bytes x n ≡ v → is_among (cond (q x) (x ∷ filter q xs) (filter q xs)) n ≡ ((v || is_among xs n) && q n)) [
      | true ↦ λ e.
          let same : q x ≡ q n = ap q (one_name x n e) in
          elim (q x) as (λ w. q x ≡ w → is_among (cond w (x ∷ filter q xs) (filter q xs)) n ≡ q n) [
            | true ↦ λ k. ap (λ b. b || is_among (filter q xs) n) e ∙ sym k ∙ same
            | false ↦ λ k. let off : q n ≡ false = sym same ∙ k in among_filter q xs n ∙ ap (λ b. is_among xs n && b) off ∙ and_no (is_among xs n) ∙ sym off
          ] refl
      | false ↦ λ e. elim (q x) as (λ w. is_among (cond w (x ∷ filter q xs) (filter q xs)) n ≡ (is_among xs n && q n)) [
        | true ↦ ap (λ b. b || is_among (filter q xs) n) e ∙ among_filter q xs n
        | false ↦ among_filter q xs n
      ]
    ] refl

-- where each passes, those are all
pub all_pass : (q : List ℕ → Bool) (xs : List (List ℕ)) → ((n : List ℕ) → is_among xs n ≡ true → q n ≡ true) → filter q xs ≡ xs
all_pass q [] each = refl
all_pass q (x ∷ xs) each =
    ap (λ b. cond b (x ∷ filter q xs) (filter q xs)) (each x (or_left (same_bytes x x) (is_among xs x) (itself x)))
    ∙ ap (λ (ns : List (List ℕ)). x ∷ ns) (all_pass q xs (λ n h. each n (or_right (same_bytes x n) (is_among xs n) h)))

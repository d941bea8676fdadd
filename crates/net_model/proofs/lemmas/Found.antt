-- What is found by name in a list of links that rises.
use Rattle.std.proofs.Common.{◌≡◌, ℕ, ◌≤◌, ◌<◌, ◌⊎◌, inl, inr, zero, suc, get_or, Bool, true, false, not, ◌&&◌, ◌||◌, List, [], ◌∷◌, length, cond, Some, None, Less, Equal, Greater, refl, sym, ap, ◌∙◌, arith, nat_cmp}
use Rattle.std.specs.List.{list_any}
use Rattle.std.specs.Option.{option_map_or}
use Rattle.std.specs.Ordering.{is_eq}
use Rattle.std.specs.List.Sorted.{IsPartitionPoint}
use Rattle.std.specs.Cmp.Lexicographic.{slice_cmp, same_text, texts_ties}
use Rattle.std.proofs.lemmas.Cmp.{nat_list_cmp_total, nat_list_eq_equiv, tied_itself}
use Rattle.std.proofs.lemmas.Map.Lookups.{exact_bytes}
use Rattle.net_model.specs.Name.{same_bytes}
use Rattle.net_model.specs.Words.{rises}
use Rattle.net_model.specs.Order.{link_cmp}
use Rattle.net_model.specs.Links.{find_link, is_named, same_name, named_passes}
use Rattle.net_model.specs.Valid.{names_differ}
use Rattle.net_model.specs.declared.link.Link.{Link}
use Rattle.net_model.proofs.lemmas.Truth.{and_left, and_right, not_true, or_left_false, or_right_false}
use Rattle.net_model.proofs.lemmas.Rises.{apart-rises}

pub one_name : (a b : List ℕ) → same_bytes a b ≡ true → a ≡ b
one_name a b h = same_text a b (sym h)

pub itself : (a : List ℕ) → same_bytes a a ≡ true
itself a = nat_list_eq_equiv.refl a

pub names_tie : (x y : Link) → same_name x y ≡ is_eq (link_cmp x y)
names_tie x y = nat_list_eq_equiv.symm y.name x.name ∙ texts_ties x.name y.name

pub names_differ-rises : (links : List Link) → rises link_cmp links ≡ true → names_differ links ≡ true
names_differ-rises = apart-rises same_name link_cmp names_tie

-- where nothing of the name stands in the list, nothing passes under it
none_passes : (test : Link → Bool) (name : List ℕ) (links : List Link) → find_link name links ≡ None → named_passes test links name ≡ false
none_passes test name [] h = refl
none_passes test name (x ∷ xs) h =
    elim (is_named name x) as (λ v. is_named name x ≡ v → cond v (Some x) (find_link name xs) ≡ None → (v && test x || named_passes test xs name) ≡ false) [
      | true ↦ λ e k. cc
      | false ↦ λ e k. none_passes test name xs k
    ] refl h

not_named : (x : Link) (xs : List Link) (name : List ℕ) → is_named name x ≡ true → list_any (same_name x) xs ≡ false → (test : Link → Bool) → named_passes test xs name ≡ false
not_named x [] name h none test = refl
not_named x (y ∷ ys) name h none test =
    let same : x.name ≡ name = one_name x.name name h in
    let other : is_named name y ≡ false = ap (λ n. same_bytes y.name n) (sym same) ∙ or_left_false (same_name x y) (list_any (same_name x) ys) none in
    let later : named_passes test ys name ≡ false = not_named x ys name h (or_right_false (same_name x y) (list_any (same_name x) ys) none) test in
    rw (other, later) refl

or_false : (b : Bool) → (b || false) ≡ b
or_false true = refl
or_false false = refl

found_passes : (test : Link → Bool) (name : List ℕ) (links : List Link) → names_differ links ≡ true → named_passes test links name ≡ option_map_or test (find_link name links) false
found_passes test name [] differ = refl
found_passes test name (x ∷ xs) differ =
    let none : list_any (same_name x) xs ≡ false = not_true (list_any (same_name x) xs) (and_left (not (list_any (same_name x) xs)) (names_differ xs) differ) in
    elim (is_named name x) as (λ v. is_named name x ≡ v → (v && test x || named_passes test xs name) ≡ option_map_or test (cond v (Some x) (find_link name xs)) false) [
      | true ↦ λ e. rw (not_named x xs name e none test) (or_false (test x))
      | false ↦ λ e. found_passes test name xs (and_right (not (list_any (same_name x) xs)) (names_differ xs) differ)
    ] refl

-- what passes under a name is the link of that name
pub named_passes_found : (test : Link → Bool) (links : List Link) (name : List ℕ) → rises link_cmp links ≡ true → named_passes test links name ≡ option_map_or test (find_link name links) false
named_passes_found test links name up = found_passes test name links (names_differ-rises links up)

-- the link at an index is what its name finds
pub found_at : (xs : List Link) (name : List ℕ) (i : ℕ) (d : Link) → names_differ xs ≡ true → i < length xs → same_bytes (get_or xs i d).name name ≡ true → find_link name xs ≡ Some (get_or xs i d)
found_at [] name i d differ lt e = absurd (omega arith)
found_at (x ∷ xs) name zero d differ lt e = rw e refl
found_at (x ∷ xs) name (suc i) d differ lt e =
    let none : list_any (same_name x) xs ≡ false = not_true (list_any (same_name x) xs) (and_left (not (list_any (same_name x) xs)) (names_differ xs) differ) in
    let rest : find_link name xs ≡ Some (get_or xs i d) = found_at xs name i d (and_right (not (list_any (same_name x) xs)) (names_differ xs) differ) (omega arith) e in
    elim (is_named name x) as (λ v. is_named name x ≡ v → cond v (Some x) (find_link name xs) ≡ Some (get_or xs i d)) [
      | true ↦ λ h.
          let no : named_passes (λ l. true) xs name ≡ false = not_named x xs name h none (λ l. true) in
          let yes : named_passes (λ l. true) xs name ≡ true = found_passes (λ l. true) name xs (and_right (not (list_any (same_name x) xs)) (names_differ xs) differ) ∙ ap (λ o. option_map_or (λ (l : Link). true) o false) rest in
          let wrong : true ≡ false = sym yes ∙ no in
          cc
      | false ↦ λ h. rest
    ] refl

-- what halving meets is what is looked for
pub found_by_halving : (xs : List Link) (name : List ℕ) (i : ℕ) (d : Link) → rises link_cmp xs ≡ true → i < length xs → slice_cmp nat_cmp (get_or xs i d).name name ≡ Equal → Some (get_or xs i d) ≡ find_link name xs
found_by_halving xs name i d up lt e =
    let one : (get_or xs i d).name ≡ name = exact_bytes (get_or xs i d).name name e in
    sym (found_at xs name i d (names_differ-rises xs up) lt (ap (λ n. same_bytes n name) one ∙ itself name))

none_at : (xs : List Link) (name : List ℕ) → ((k : ℕ) (d : Link) → k < length xs → slice_cmp nat_cmp (get_or xs k d).name name ≡ Equal → ⊥) → find_link name xs ≡ None
none_at [] name h = refl
none_at (x ∷ xs) name h =
    elim (same_bytes x.name name) as (λ v. same_bytes x.name name ≡ v → cond v (Some x) (find_link name xs) ≡ None) [
      | true ↦ λ e. absurd (h 0 x (omega arith) (ap (λ n. slice_cmp nat_cmp n name) (one_name x.name name e) ∙ tied_itself nat_list_cmp_total name))
      | false ↦ λ _. none_at xs name (λ k d lt e. h (suc k) d (omega arith) e)
    ] refl

before_or_after : (j k : ℕ) → (j < k) ⊎ (k ≤ j)
before_or_after j k = grind arith

-- and where halving meets nothing there is none
pub none_by_halving : (xs : List Link) (name : List ℕ) (i : ℕ) → IsPartitionPoint (λ (y : Link). slice_cmp nat_cmp y.name name ≡ Less) (λ (y : Link). slice_cmp nat_cmp y.name name ≡ Greater) xs i → find_link name xs ≡ None
none_by_halving xs name i parted =
    none_at xs name (λ k d lt e. elim (before_or_after k i) [
      | inl low ↦ let no : Less ≡ Equal = sym (parted.0 k d (omega arith) low) ∙ e in absurd cc
      | inr high ↦ let no : Greater ≡ Equal = sym (parted.1 k d high lt) ∙ e in absurd cc
    ])

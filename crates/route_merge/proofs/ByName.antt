-- Links that are found by name where names differ, and an index of one link more.
use Rattle.std.proofs.Common.{◌≡◌, ℕ, ◌-◌, ◌<◌, ◌≤◌, suc, Bool, true, false, ◌||◌, ◌&&◌, not, cond, List, [], ◌∷◌, length, get_or, drop, slice_get, Some, refl, sym, ap, subst, ◌∙◌, arith}
use Rattle.std.specs.List.{list_any}
use Rattle.std.specs.Option.{option_map_or, option_and_then}
use Rattle.std.specs.Ordering.{is_eq}
use Rattle.std.specs.Cmp.Lexicographic.{texts_ties}
use Rattle.std.specs.BTreeMap.{BTreeMap, get, Updates}
use Rattle.std.proofs.Math.Seq.{drop-cons}
use Rattle.std.proofs.lemmas.Option.{slice_get-get_or}
use Rattle.net_model.specs.Name.{same_bytes}
use Rattle.net_model.specs.Order.{name_cmp}
use Rattle.net_model.specs.Links.{is_named, same_name, find_link, named_passes}
use Rattle.net_model.specs.Valid.{names_differ}
use Rattle.net_model.specs.declared.Link.{Link}
use Rattle.net_model.proofs.lemmas.Truth.{not_true, and_left, and_right, or_left_false, or_right_false}
use Rattle.net_model.proofs.lemmas.Found.{one_name}

not_named : (x : Link) (xs : List Link) (name : List ℕ) → is_named name x ≡ true → list_any (same_name x) xs ≡ false → (test : Link → Bool) → named_passes test xs name ≡ false
not_named x [] name h none test = refl
not_named x (y ∷ ys) name h none test =
    let same : x.name ≡ name = one_name x.name name h in
    let other : is_named name y ≡ false = ap (λ n. same_bytes y.name n) (sym same) ∙ or_left_false (same_name x y) (list_any (same_name x) ys) none in
    let later : named_passes test ys name ≡ false = not_named x ys name h (or_right_false (same_name x y) (list_any (same_name x) ys) none) test in
    rw (other, later) refl

or_false : (b : Bool) → (b || false) ≡ b
or_false true = refl
or_false false = refl

-- what passes under a name is the link of that name
pub found_passes : (test : Link → Bool) (links : List Link) (name : List ℕ) → names_differ links ≡ true → named_passes test links name ≡ option_map_or test (find_link name links) false
found_passes test [] name differ = refl
found_passes test (x ∷ xs) name differ =
    let none : list_any (same_name x) xs ≡ false = not_true (list_any (same_name x) xs) (and_left (not (list_any (same_name x) xs)) (names_differ xs) differ) in
    elim (is_named name x) as (λ v. is_named name x ≡ v → (v && test x || named_passes test xs name) ≡ option_map_or test (cond v (Some x) (find_link name xs)) false) [
      | true ↦ λ e. rw (not_named x xs name e none test) (or_false (test x))
      | false ↦ λ e. found_passes test xs name (and_right (not (list_any (same_name x) xs)) (names_differ xs) differ)
    ] refl

-- the places of the links from one on, and the one before it
pub one_place_more : (links : List Link) (at : ℕ) (x : Link) (name : List ℕ) (places places' : BTreeMap (List ℕ) ℕ) → 0 < at → at ≤ length links → x ≡ get_or links (at - 1) x → name ≡ x.name
    → Updates name_cmp places places' name (Some (at - 1)) → ((n : List ℕ) → option_and_then (λ i. slice_get links i) (get name_cmp places n) ≡ find_link n (drop at links))
    → (at - 1 ≤ length links) × ((n : List ℕ) → option_and_then (λ i. slice_get links i) (get name_cmp places' n) ≡ find_link n (drop (at - 1) links))
one_place_more links at x name places places' more fits is called u h = (omega arith, λ n. ap (option_and_then (λ i. slice_get links i)) ((subst (λ k. Updates name_cmp places places' k (Some (at - 1))) called u).0 n) ∙ by n (is_eq (name_cmp x.name n)) ∙ ap (λ b. cond b (Some x) (find_link n (drop at links))) (sym (texts_ties x.name n)) ∙ sym (ap (find_link n) here))
  where
    below : at - 1 < length links
    below = omega arith

    next : suc (at - 1) ≡ at
    next = omega arith

    here : drop (at - 1) links ≡ x ∷ drop at links
    here = drop-cons links (at - 1) x below ∙ ap (λ y. y ∷ drop (suc (at - 1)) links) (sym is) ∙ ap (λ k. x ∷ drop k links) next

    by : (n : List ℕ) (b : Bool) → option_and_then (λ i. slice_get links i) (cond b (Some (at - 1)) (get name_cmp places n)) ≡ cond b (Some x) (find_link n (drop at links))
    by n true = slice_get-get_or links (at - 1) x below ∙ ap Some (sym is)
    by n false = h n

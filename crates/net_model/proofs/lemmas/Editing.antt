-- What a change of one named link does to the names of those that pass a test.
use Rattle.std.proofs.Common.{◌≡◌, ◌∙◌, ℕ, Bool, true, false, not, cond, List, [], ◌∷◌, map, filter, Some, None, Ordering, Less, Equal, Greater, refl, sym, ap}
use Rattle.std.specs.Prelude.{if◌then◌else◌}
use Rattle.std.specs.List.{list_all, list_any}
use Rattle.std.specs.Ordering.{is_lt, is_eq, ordering_reverse}
use Rattle.std.specs.Cmp.Lexicographic.{texts_ties}
use Rattle.std.proofs.lemmas.Cmp.{nat_list_cmp_total}
use Rattle.net_model.specs.Name.{same_bytes}
use Rattle.net_model.specs.Words.{rises, put}
use Rattle.net_model.specs.Order.{name_cmp, link_cmp}
use Rattle.net_model.specs.Links.{is_named, find_link}
use Rattle.net_model.specs.declared.link.Link.{Link}
use Rattle.net_model.proofs.lemmas.Truth.{and_left, and_right, and_both}
use Rattle.net_model.proofs.lemmas.Found.{one_name, names_differ-rises}
use Rattle.net_model.proofs.lemmas.ByName.{all_found, passes_as, some_same}
use Rattle.net_model.proofs.lemmas.Ports.{among_filtered}
use Rattle.net_model.specs.Edits.{edit_link}
use Rattle.net_model.proofs.lemmas.Listing.{keys_of, keys_first, any_agree}

-- the names of those that pass
abbrev pub names_of : (Link → Bool) → List Link → List (List ℕ)
names_of = keys_of (λ (l : Link). l.name)

-- one that is before all others is the only one of its name
alone : (name : List ℕ) (x : Link) (xs : List Link) → is_named name x ≡ true → list_all (λ y. is_lt (link_cmp x y)) xs ≡ true → (g : Link → Link) → edit_link name g xs ≡ xs
alone name x [] on h g = refl
alone name x (y ∷ ys) on h g =
    elim (is_named name y) as (λ v. is_named name y ≡ v → (if v then g y else y) ∷ edit_link name g ys ≡ y ∷ ys) [
      | true ↦ λ e.
          let one : y.name ≡ x.name = one_name y.name name e ∙ sym (one_name x.name name on) in
          let low : is_lt (name_cmp x.name y.name) ≡ true = and_left (is_lt (link_cmp x y)) (list_all (λ z. is_lt (link_cmp x z)) ys) h in
          let tie : is_lt (name_cmp x.name x.name) ≡ true = ap (λ (n : List ℕ). is_lt (name_cmp x.name n)) (sym one) ∙ low in
          absurd (never (name_cmp x.name x.name) (nat_list_cmp_total.antisymm x.name x.name) tie)
      | false ↦ λ e. ap (λ (ls : List Link). y ∷ ls) (alone name x ys on (and_right (is_lt (link_cmp x y)) (list_all (λ z. is_lt (link_cmp x z)) ys) h) g)
    ] refl
  where
    never : (r : Ordering) → r ≡ ordering_reverse r → is_lt r ≡ true → ⊥
    never Less e h = cc
    never Equal e h = cc
    never Greater e h = cc

-- and its name is before none of theirs
after_all : (x : Link) (xs : List Link) (name : List ℕ) → x.name ≡ name → list_all (λ y. is_lt (link_cmp x y)) xs ≡ true → list_all (λ y. not (is_lt (name_cmp y.name name))) xs ≡ true
after_all x [] name one h = refl
after_all x (y ∷ ys) name one h =
    and_both (not (is_lt (name_cmp y.name name))) (list_all (λ z. not (is_lt (name_cmp z.name name))) ys)
    (turn (name_cmp y.name name) (name_cmp x.name y.name) (nat_list_cmp_total.antisymm y.name name ∙ ap (λ (n : List ℕ). ordering_reverse (name_cmp n y.name)) (sym one)) (and_left (is_lt (link_cmp x y)) (list_all (λ z. is_lt (link_cmp x z)) ys) h))
    (after_all x ys name one (and_right (is_lt (link_cmp x y)) (list_all (λ z. is_lt (link_cmp x z)) ys) h))
  where
    turn : (r s : Ordering) → r ≡ ordering_reverse s → is_lt s ≡ true → not (is_lt r) ≡ true
    turn Greater s e h = refl
    turn Equal s e h = refl
    turn Less Less e h = absurd cc
    turn Less Equal e h = absurd cc
    turn Less Greater e h = absurd cc

-- the named link l, changed by g, which keeps its name, and a test p of links
module _ (name : List ℕ) (g : Link → Link) (keeps : (l : Link) → (g l).name ≡ l.name) (p : Link → Bool) (l : Link) where
  -- the link found has the name
  found_named : (xs : List Link) → find_link name xs ≡ Some l → l.name ≡ name
  found_named [] h = absurd cc
  found_named (x ∷ xs) h =
      elim (is_named name x) as (λ v. is_named name x ≡ v → cond v (Some x) (find_link name xs) ≡ Some l → l.name ≡ name) [
        | true ↦ λ e found. ap (λ (m : Link). m.name) (sym (some_same x l found)) ∙ one_name x.name name e
        | false ↦ λ e found. found_named xs found
      ] refl h

  -- one that passes before as after changes no name
  pub names_edited-same : p (g l) ≡ p l → (xs : List Link) → rises link_cmp xs ≡ true → find_link name xs ≡ Some l → names_of p (edit_link name g xs) ≡ names_of p xs
  names_edited-same same [] h found = refl
  names_edited-same same (x ∷ xs) h found =
      let above : list_all (λ y. is_lt (link_cmp x y)) xs ≡ true = and_left (list_all (λ y. is_lt (link_cmp x y)) xs) (rises link_cmp xs) h in
      let rest : rises link_cmp xs ≡ true = and_right (list_all (λ y. is_lt (link_cmp x y)) xs) (rises link_cmp xs) h in
      elim (is_named name x) as (λ v. is_named name x ≡ v → cond v (Some x) (find_link name xs) ≡ Some l → names_of p ((if v then g x else x) ∷ edit_link name g xs) ≡ names_of p (x ∷ xs)) [
        | true ↦ λ e f.
            let one : x ≡ l = some_same x l f in
            ap (λ (ls : List Link). names_of p (g x ∷ ls)) (alone name x xs e above g)
            ∙ ap (λ v. map (λ (m : Link). m.name) (cond v (g x ∷ filter p xs) (filter p xs))) (ap (λ (m : Link). p (g m)) one ∙ same ∙ ap p (sym one))
            ∙ elim (p x) as (λ v. map (λ (m : Link). m.name) (cond v (g x ∷ filter p xs) (filter p xs)) ≡ map (λ (m : Link). m.name) (cond v (x ∷ filter p xs) (filter p xs))) [
              | true ↦ ap (λ (n : List ℕ). n ∷ names_of p xs) (keeps x)
              | false ↦ refl
            ]
        | false ↦ λ e f. elim (p x) as (λ v. map (λ (m : Link). m.name) (cond v (x ∷ filter p (edit_link name g xs)) (filter p (edit_link name g xs))) ≡ map (λ (m : Link). m.name) (cond v (x ∷ filter p xs) (filter p xs))) [
          | true ↦ ap (λ (ns : List (List ℕ)). x.name ∷ ns) (names_edited-same same xs rest f)
          | false ↦ names_edited-same same xs rest f
        ]
      ] refl found

  -- one that passes after alone is put into its place
  pub names_edited-put : p l ≡ false → p (g l) ≡ true → (xs : List Link) → rises link_cmp xs ≡ true → find_link name xs ≡ Some l → names_of p (edit_link name g xs) ≡ put name_cmp name (names_of p xs)
  names_edited-put off on_ [] h found = absurd cc
  names_edited-put off on_ (x ∷ xs) h found =
      let above : list_all (λ y. is_lt (link_cmp x y)) xs ≡ true = and_left (list_all (λ y. is_lt (link_cmp x y)) xs) (rises link_cmp xs) h in
      let rest : rises link_cmp xs ≡ true = and_right (list_all (λ y. is_lt (link_cmp x y)) xs) (rises link_cmp xs) h in
      elim (is_named name x) as (λ v. is_named name x ≡ v → cond v (Some x) (find_link name xs) ≡ Some l → names_of p ((if v then g x else x) ∷ edit_link name g xs) ≡ put name_cmp name (names_of p (x ∷ xs))) [
        | true ↦ λ e f.
            let one : x ≡ l = some_same x l f in
            let own : (g x).name ≡ name = keeps x ∙ one_name x.name name e in
            let passes : p (g x) ≡ true = ap (λ (m : Link). p (g m)) one ∙ on_ in
            let first : put name_cmp (g x).name (names_of p xs) ≡ (g x).name ∷ names_of p xs = keys_first (λ (m : Link). m.name) p name_cmp nat_list_cmp_total (g x) passes xs (after_all x xs (g x).name (sym (keeps x)) above) in
            ap (λ (ls : List Link). names_of p (g x ∷ ls)) (alone name x xs e above g)
            ∙ ap (λ v. map (λ (m : Link). m.name) (cond v (g x ∷ filter p xs) (filter p xs))) passes
            ∙ sym first ∙ ap (λ (n : List ℕ). put name_cmp n (names_of p xs)) own
            ∙ sym (ap (λ v. put name_cmp name (map (λ (m : Link). m.name) (cond v (x ∷ filter p xs) (filter p xs)))) (ap p one ∙ off))
        | false ↦ λ e f.
            let low : is_lt (name_cmp x.name name) ≡ true = ap (λ (n : List ℕ). is_lt (name_cmp x.name n)) (sym (found_named xs f)) ∙ all_found (λ y. is_lt (link_cmp x y)) xs name l above f in
            elim (p x) as (λ v. map (λ (m : Link). m.name) (cond v (x ∷ filter p (edit_link name g xs)) (filter p (edit_link name g xs))) ≡ put name_cmp name (map (λ (m : Link). m.name) (cond v (x ∷ filter p xs) (filter p xs)))) [
              | true ↦ ap (λ (ns : List (List ℕ)). x.name ∷ ns) (names_edited-put off on_ xs rest f) ∙ sym (ap (λ v. if v then x.name ∷ put name_cmp name (names_of p xs) else name ∷ x.name ∷ names_of p xs) low)
              | false ↦ names_edited-put off on_ xs rest f
            ]
      ] refl found

  -- the name of one that doesn't pass isn't among those of others
  pub name_not_listed : p l ≡ false → (xs : List Link) → rises link_cmp xs ≡ true → find_link name xs ≡ Some l → list_any (λ n. is_eq (name_cmp n name)) (names_of p xs) ≡ false
  name_not_listed off xs h found =
      any_agree (λ n. is_eq (name_cmp n name)) (λ n. same_bytes n name) (λ n. sym (texts_ties n name)) (names_of p xs)
      ∙ among_filtered p name xs ∙ passes_as p xs name l (names_differ-rises xs h) found ∙ off

-- where no link has the name, nothing changes
pub edited_none : (name : List ℕ) (g : Link → Link) (xs : List Link) → find_link name xs ≡ None → edit_link name g xs ≡ xs
edited_none name g [] h = refl
edited_none name g (x ∷ xs) h =
    elim (is_named name x) as (λ v. cond v (Some x) (find_link name xs) ≡ None → (if v then g x else x) ∷ edit_link name g xs ≡ x ∷ xs) [
      | true ↦ λ f. absurd cc
      | false ↦ λ f. ap (λ (ls : List Link). x ∷ ls) (edited_none name g xs f)
    ] h

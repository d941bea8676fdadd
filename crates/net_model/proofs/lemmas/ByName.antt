-- Links by name: what holds of all holds of the one found, and the other way round.
use Rattle.std.proofs.Common.{◌≡◌, ℕ, Bool, true, false, not, ◌&&◌, ◌||◌, cond, List, [], ◌∷◌, map, Some, None, refl, sym, ap, ◌∙◌}
use Rattle.std.specs.List.{list_any, list_all}
use Rattle.std.specs.Option.{option_map_or}
use Rattle.net_model.specs.Name.{same_bytes}
use Rattle.net_model.specs.Links.{find_link, is_named, same_name, named_passes}
use Rattle.net_model.specs.Valid.{names_differ}
use Rattle.net_model.specs.declared.link.Link.{Link}
use Rattle.net_model.proofs.lemmas.Truth.{and_left, and_right, and_both, not_true}
use Rattle.net_model.proofs.lemmas.Found.{one_name, itself}
use Rattle.net_model.proofs.lemmas.Grounded.{found_named, any_found}

pub or_left : (a b : Bool) → a ≡ true → (a || b) ≡ true
or_left a b h = rw h refl

pub any_map : {X Y : Type 0} (f : X → Y) (p : X → Bool) (q : Y → Bool) → ((x : X) → q (f x) ≡ p x) → (xs : List X) → list_any q (map f xs) ≡ list_any p xs
any_map f p q same [] = refl
any_map f p q same (x ∷ xs) = rw (same x, any_map f p q same xs) refl

pub all_map : {X Y : Type 0} (f : X → Y) (p : X → Bool) (q : Y → Bool) → ((x : X) → q (f x) ≡ p x) → (xs : List X) → list_all q (map f xs) ≡ list_all p xs
all_map f p q same [] = refl
all_map f p q same (x ∷ xs) = rw (same x, all_map f p q same xs) refl

-- the link found passes what all pass
pub all_found : (p : Link → Bool) (xs : List Link) (n : List ℕ) (l : Link) → list_all p xs ≡ true → find_link n xs ≡ Some l → p l ≡ true
all_found p [] n l each found = absurd cc
all_found p (x ∷ xs) n l each found =
    elim (is_named n x) as (λ v. cond v (Some x) (find_link n xs) ≡ Some l → p l ≡ true) [
      | true ↦ λ k. let same : x ≡ l = cc in ap p (sym same) ∙ and_left (p x) (list_all p xs) each
      | false ↦ λ k. all_found p xs n l (and_right (p x) (list_all p xs) each) k
    ] found

-- a name that none has isn't found
none_named : (x : Link) (xs : List Link) → list_any (same_name x) xs ≡ false → (n : List ℕ) (l : Link) → find_link n xs ≡ Some l → same_bytes x.name n ≡ false
none_named x xs none n l found =
    elim (same_bytes x.name n) as (λ v. same_bytes x.name n ≡ v → v ≡ false) [
      | true ↦ λ e.
          let named : l.name ≡ x.name = found_named xs n l found ∙ sym (one_name x.name n e) in
          let some : list_any (same_name x) xs ≡ true = any_found (same_name x) xs n l found (ap (λ m. same_bytes m x.name) named ∙ itself x.name) in
          let no : true ≡ false = sym some ∙ none in
          absurd cc
      | false ↦ λ e. refl
    ] refl

-- behind one of another name the same is found
found_later : (x : Link) (xs : List Link) (n : List ℕ) (l : Link) → same_bytes x.name n ≡ false → find_link n xs ≡ Some l → find_link n (x ∷ xs) ≡ Some l
found_later x xs n l other found = rw other found

found_first : (x : Link) (xs : List Link) → find_link x.name (x ∷ xs) ≡ Some x
found_first x xs = rw (itself x.name) refl

-- what each link found passes, all pass
pub by_name : (p : Link → Bool) (xs : List Link) → names_differ xs ≡ true → ((n : List ℕ) (l : Link) → find_link n xs ≡ Some l → p l ≡ true) → list_all p xs ≡ true
by_name p [] differ each = refl
by_name p (x ∷ xs) differ each =
    let none : list_any (same_name x) xs ≡ false = not_true (list_any (same_name x) xs) (and_left (not (list_any (same_name x) xs)) (names_differ xs) differ) in
    and_both (p x) (list_all p xs) (each x.name x (found_first x xs))
    (by_name p xs (and_right (not (list_any (same_name x) xs)) (names_differ xs) differ) (λ n l found. each n l (found_later x xs n l (none_named x xs none n l found) found)))

-- one that passes is found under its name
pub some_found : (p : Link → Bool) (xs : List Link) → names_differ xs ≡ true → list_any p xs ≡ true → (c : Link) × (find_link c.name xs ≡ Some c) × (p c ≡ true)
some_found p [] differ h = absurd cc
some_found p (x ∷ xs) differ h =
    let none : list_any (same_name x) xs ≡ false = not_true (list_any (same_name x) xs) (and_left (not (list_any (same_name x) xs)) (names_differ xs) differ) in
    elim (p x) as (λ v. p x ≡ v → (v || list_any p xs) ≡ true → (c : Link) × (find_link c.name (x ∷ xs) ≡ Some c) × (p c ≡ true)) [
      | true ↦ λ e _. (x, found_first x xs, e)
      | false ↦ λ _ later.
          let c = some_found p xs (and_right (not (list_any (same_name x) xs)) (names_differ xs) differ) later in
          (c.0, found_later x xs c.0.name c.0 (none_named x xs none c.0.name c.0 c.1) c.1, c.2)
    ] refl h

-- what passes under a name is found under it
pub passing_found : (p : Link → Bool) (xs : List Link) (n : List ℕ) → names_differ xs ≡ true → named_passes p xs n ≡ true → (b : Link) × (find_link n xs ≡ Some b) × (p b ≡ true)
passing_found p xs n differ h =
    let c = some_found (λ l. is_named n l && p l) xs differ h in
    let name : c.0.name ≡ n = one_name c.0.name n (and_left (is_named n c.0) (p c.0) c.2) in
    (c.0, ap (λ m. find_link m xs) (sym name) ∙ c.1, and_right (is_named n c.0) (p c.0) c.2)

-- and the link found passes under its name
pub found_passing : (p : Link → Bool) (xs : List Link) (n : List ℕ) (b : Link) → find_link n xs ≡ Some b → p b ≡ true → named_passes p xs n ≡ true
found_passing p xs n b found h =
    any_found (λ l. is_named n l && p l) xs n b found (and_both (is_named n b) (p b) (ap (λ m. same_bytes m n) (found_named xs n b found) ∙ itself n) h)

-- a test under a name is that of the link found
pub passes_as : (p : Link → Bool) (xs : List Link) (n : List ℕ) (b : Link) → names_differ xs ≡ true → find_link n xs ≡ Some b → named_passes p xs n ≡ p b
passes_as p xs n b differ found =
    elim (p b) as (λ v. p b ≡ v → named_passes p xs n ≡ v) [
      | true ↦ λ e. found_passing p xs n b found e
      | false ↦ λ e. elim (named_passes p xs n) as (λ w. named_passes p xs n ≡ w → w ≡ false) [
        | true ↦ λ h.
            let c = passing_found p xs n differ h in
            let one : c.0 ≡ b = (let s : Some c.0 ≡ Some b = sym c.1 ∙ found in cc) in
            let no : true ≡ false = sym c.2 ∙ ap p one ∙ e in
            absurd cc
        | false ↦ λ _. refl
      ] refl
    ] refl

pub some_same : (a b : Link) → Some a ≡ Some b → a ≡ b
some_same a b e = cc

-- what is the same of each link found is the same of all
pub map_by_name : (f g : Link → Link) (xs : List Link) → names_differ xs ≡ true → ((n : List ℕ) (l : Link) → find_link n xs ≡ Some l → f l ≡ g l) → map f xs ≡ map g xs
map_by_name f g [] differ each = refl
map_by_name f g (x ∷ xs) differ each =
    let none : list_any (same_name x) xs ≡ false = not_true (list_any (same_name x) xs) (and_left (not (list_any (same_name x) xs)) (names_differ xs) differ) in
    ap (λ (l : Link). l ∷ map f xs) (each x.name x (found_first x xs))
    ∙ ap (λ (ls : List Link). g x ∷ ls) (map_by_name f g xs (and_right (not (list_any (same_name x) xs)) (names_differ xs) differ) (λ n l found. each n l (found_later x xs n l (none_named x xs none n l found) found)))

-- what passes under a name is that the link found does
pub passes_where_found : (test : Link → Bool) (links : List Link) (name : List ℕ) → names_differ links ≡ true → named_passes test links name ≡ option_map_or test (find_link name links) false
passes_where_found test links name differ = elim (find_link name links) as (λ o. find_link name links ≡ o → named_passes test links name ≡ option_map_or test o false) [
  | None ↦ λ none. elim (named_passes test links name) as (λ v. named_passes test links name ≡ v → v ≡ false) [
    | true ↦ λ passes. let found = (passing_found test links name differ passes).1 in cc
    | false ↦ λ _. refl
  ] refl
  | Some b ↦ λ found. passes_as test links name b differ found
] refl

-- The files that are served, in the order of their names, before and after one of them is marked.
use Rattle.std.proofs.Common.{rules, ◌≡◌, ◌∙◌, inl, inr, ℕ, Bool, true, false, not, cond, List, [], ◌∷◌, map, Some, refl, sym, ap, subst, Ordering}
use Rattle.std.specs.List.{filter, find, list_any}
use Rattle.std.specs.Ordering.{is_lt}
use Rattle.std.specs.Cmp.{IsTotalOrder, IsStrictWeakOrder}
use Rattle.std.specs.Cmp.Rules.{comparing}
use Rattle.std.proofs.lemmas.Bool.{cases_Bool}
use Rattle.std.proofs.lemmas.List.Sorted.{ranks_by}
use Rattle.net_model.specs.Name.{same_bytes}
use Rattle.net_model.specs.Order.{name_cmp}
use Rattle.net_model.specs.Words.{apart, put, sorted}
use Rattle.net_model.proofs.lemmas.Found.{one_name, itself}
use Rattle.net_model.proofs.lemmas.Truth.{and_left, and_right, not_true, or_left_false, or_right_false}
use Rattle.net_model.proofs.lemmas.Rises.{Climbs, NoneBefore}
use Rattle.net_model.proofs.lemmas.Sorting.{sorted_climbs}
use Rattle.host_core.specs.Folders.{File, Files, IsPending, is_named, is_pending, ends_in_yml, pending_names, without}
use Rattle.boot_service.specs.Stops.{file_cmp, pending}

pub file_cmp_total : IsTotalOrder file_cmp
file_cmp_total = search (comparing, rules)

-- ---- sorting and leaving out

module _ {X : Type 0} (R : X → X → Ordering) (total : IsTotalOrder R) where
  weak : IsStrictWeakOrder (λ x y. is_lt (R x y))
  weak = ranks_by total (λ x. x)

  none_through : (a b : X) (bs : List X) → is_lt (R b a) ≡ false → NoneBefore R b bs → NoneBefore R a bs
  none_through a b [] h k = tt
  none_through a b (c ∷ cs) h k = (weak.chain c b a k.0 h, none_through a b cs h k.1)

  none_left : (p : X → Bool) (a : X) (bs : List X) → NoneBefore R a bs → NoneBefore R a (filter p bs)
  none_left p a [] h = tt
  none_left p a (b ∷ bs) h = elim (p b) as (λ v. NoneBefore R a (cond v (b ∷ filter p bs) (filter p bs))) [
    | true ↦ (h.0, none_left p a bs h.1)
    | false ↦ none_left p a bs h.1
  ]

  in_front : (a : X) (bs : List X) → NoneBefore R a bs → put R a bs ≡ a ∷ bs
  in_front a [] h = refl
  in_front a (b ∷ bs) h = rw h.0 refl

  -- where it stays, it is put into what stays; else nothing is
  abbrev put_if : Bool → X → List X → List X
  put_if v a bs = cond v (put R a bs) bs

  behind : (a b : X) (v : Bool) (bs : List X) → is_lt (R b a) ≡ true → b ∷ put_if v a bs ≡ put_if v a (b ∷ bs)
  behind a b true bs h = rw h refl
  behind a b false bs h = refl

  put_left : (p : X → Bool) (a : X) (bs : List X) → Climbs R bs → filter p (put R a bs) ≡ put_if (p a) a (filter p bs)
  put_left p a [] c = elim (p a) as (λ v. cond v (a ∷ []) [] ≡ put_if v a []) [ true ↦ refl | false ↦ refl ]
  put_left p a (b ∷ bs) c = elim (cases_Bool (is_lt (R b a))) [
    | inl lt ↦ elim (cases_Bool (p b)) [
      | inl stays ↦ rw (lt, stays) (ap (λ (xs : List X). b ∷ xs) (put_left p a bs c.1) ∙ behind a b (p a) (filter p bs) lt)
      | inr goes ↦ rw (lt, goes) (put_left p a bs c.1)
    ]
    | inr ge ↦
        let none : NoneBefore R a (filter p (b ∷ bs)) = none_left p a (b ∷ bs) (ge, none_through a b bs ge c.0) in
        rw ge (
        elim (p a) as (λ v. cond v (a ∷ filter p (b ∷ bs)) (filter p (b ∷ bs)) ≡ put_if v a (filter p (b ∷ bs))) [
          | true ↦ sym (in_front a (filter p (b ∷ bs)) none)
          | false ↦ refl
        ])
  ]

  -- what is left of a sorted list is sorted
  pub sorted_left : (p : X → Bool) (xs : List X) → filter p (sorted R xs) ≡ sorted R (filter p xs)
  sorted_left p [] = refl
  sorted_left p (x ∷ xs) =
      put_left p x (sorted R xs) (sorted_climbs R total xs)
      ∙ ap (put_if (p x) x) (sorted_left p xs)
      ∙ elim (p x) as (λ v. put_if v x (sorted R (filter p xs)) ≡ sorted R (cond v (x ∷ filter p xs) (filter p xs))) [ true ↦ refl | false ↦ refl ]

-- two tests in either order
pub left_twice : {X : Type 0} (p q : X → Bool) (xs : List X) → filter p (filter q xs) ≡ filter q (filter p xs)
left_twice p q [] = refl
left_twice p q (x ∷ xs) = elim (cases_Bool (p x)) [
  | inl first ↦ elim (cases_Bool (q x)) [
    | inl second ↦ rw (first, second) (rw first (ap (λ (ys : List _). x ∷ ys) (left_twice p q xs)))
    | inr second ↦ rw (first, second) (left_twice p q xs)
  ]
  | inr first ↦ elim (cases_Bool (q x)) [
    | inl second ↦ rw (first, second) (rw first (left_twice p q xs))
    | inr second ↦ rw (first, second) (left_twice p q xs)
  ]
]

-- ---- the files of a name

-- the pending files that pass a test
pub pending_left : (p : File → Bool) (files : Files) → filter p (pending files) ≡ pending (filter p files)
pending_left p files = sorted_left file_cmp file_cmp_total p (filter is_pending files) ∙ ap (sorted file_cmp) (left_twice p is_pending files)

-- no two files have one name
abbrev pub Differ : Files → Type 0
Differ files = apart (λ (a b : File). is_named b.name a) files ≡ true

-- behind a file of this name there is none
none_named : (name : List ℕ) (f : File) (files : Files) → list_any (λ (b : File). is_named b.name f) files ≡ false → is_named name f ≡ true → filter (is_named name) files ≡ []
none_named name f [] none is = refl
none_named name f (b ∷ bs) none is = elim (cases_Bool (is_named name b)) [
  | inl too ↦
      let one : b.name ≡ f.name = one_name b.name name too ∙ sym (one_name f.name name is) in
      let same : same_bytes f.name b.name ≡ true = subst (λ (n : List ℕ). same_bytes f.name n ≡ true) (sym one) (itself f.name) in
      let other : same_bytes f.name b.name ≡ false = or_left_false (is_named b.name f) (list_any (λ (c : File). is_named c.name f) bs) none in
      let e : true ≡ false = sym same ∙ other in
      absurd cc
  | inr other ↦ rw other (none_named name f bs (or_right_false (is_named b.name f) (list_any (λ (c : File). is_named c.name f) bs) none) is)
]

-- of a name there is at most one, and it is the one that is found
pub data Once (name : List ℕ) (files : Files) : Type 0 where
  never : filter (is_named name) files ≡ [] → Once name files
  there : (f : File) → filter (is_named name) files ≡ f ∷ [] → find (is_named name) files ≡ Some f → Once name files

once_more : (name : List ℕ) (f : File) (files : Files) → is_named name f ≡ false → Once name files → Once name (f ∷ files)
once_more name f files other (never none) = never (rw other none)
once_more name f files other (there g all is) = there g (rw other all) (rw other is)

pub once : (name : List ℕ) (files : Files) → Differ files → Once name files
once name [] differ = never refl
once name (f ∷ files) differ =
    let alone = and_left (not (list_any (λ (b : File). is_named b.name f) files)) (apart (λ (a b : File). is_named b.name a) files) differ in
    elim (cases_Bool (is_named name f)) [
      | inl is ↦ there f (rw is (ap (λ (fs : Files). f ∷ fs) (none_named name f files (not_true (list_any (λ (b : File). is_named b.name f) files) alone) is))) (rw is refl)
      | inr other ↦ once_more name f files other (once name files (and_right (not (list_any (λ (b : File). is_named b.name f) files)) (apart (λ (a b : File). is_named b.name a) files) differ))
    ]

-- where none passes, all that are left are all
pub all_left : {X : Type 0} (p : X → Bool) (xs : List X) → filter p xs ≡ [] → filter (λ x. not (p x)) xs ≡ xs
all_left p [] h = refl
all_left p (x ∷ xs) h = elim (cases_Bool (p x)) [
  | inl passes ↦ let e : x ∷ filter p xs ≡ [] = subst (λ (v : Bool). cond v (x ∷ filter p xs) (filter p xs) ≡ []) passes h in absurd cc
  | inr fails ↦
      let e : filter p xs ≡ [] = subst (λ (v : Bool). cond v (x ∷ filter p xs) (filter p xs) ≡ []) fails h in
      rw fails (ap (λ (ys : List _). x ∷ ys) (all_left p xs e))
]

-- the first of the pending files: it is found by its name, and behind it there is none of its name
pub record IsFirst (file : File) (rest : List File) (files : Files) : Type 0 where
  pub found : find (is_named file.name) files ≡ Some file
  pub ends : ends_in_yml file.name ≡ true
  pub alone : filter (is_named file.name) rest ≡ []

first_of : (name : List ℕ) (files : Files) (file : File) (rest : List File) → name ≡ file.name → pending (filter (is_named name) files) ≡ file ∷ filter (is_named name) rest → Once name files → IsFirst file rest files
first_of name files file rest named h (never none) = let e : [] ≡ file ∷ filter (is_named name) rest = subst (λ (fs : Files). pending fs ≡ file ∷ filter (is_named name) rest) none h in absurd cc
first_of name files file rest named h (there f all is) =
    let one : pending (f ∷ []) ≡ file ∷ filter (is_named name) rest = subst (λ (fs : Files). pending fs ≡ file ∷ filter (is_named name) rest) all h in
    elim (cases_Bool (ends_in_yml f.name)) [
      | inl ends ↦
          let e : f ∷ [] ≡ file ∷ filter (is_named name) rest = subst (λ (v : Bool). sorted file_cmp (cond v (f ∷ []) []) ≡ file ∷ filter (is_named name) rest) ends one in
          let same : f ≡ file = cc in
          let none : filter (is_named name) rest ≡ [] = cc in
          record {
            found = subst (λ (n : List ℕ). find (is_named n) files ≡ Some file) named (is ∙ ap (λ (g : File). Some g) same);
            ends = subst (λ (g : File). ends_in_yml g.name ≡ true) same ends;
            alone = subst (λ (n : List ℕ). filter (is_named n) rest ≡ []) named none;
          }
      | inr other ↦
          let e : [] ≡ file ∷ filter (is_named name) rest = subst (λ (v : Bool). sorted file_cmp (cond v (f ∷ []) []) ≡ file ∷ filter (is_named name) rest) other one in absurd cc
    ]

pub is_first : (files : Files) (file : File) (rest : List File) → Differ files → pending files ≡ file ∷ rest → IsFirst file rest files
is_first files file rest differ h =
    let itself_named : is_named file.name file ≡ true = itself file.name in
    let left : filter (is_named file.name) (file ∷ rest) ≡ file ∷ filter (is_named file.name) rest = ap (λ (v : Bool). cond v (file ∷ filter (is_named file.name) rest) (filter (is_named file.name) rest)) itself_named in
    first_of file.name files file rest refl
    (sym (pending_left (is_named file.name) files) ∙ ap (filter (is_named file.name)) h ∙ left)
    (once file.name files differ)

-- it may be marked
pub first_pending : (files : Files) (file : File) (rest : List File) → IsFirst file rest files → IsPending file.name files
first_pending files file rest is = record { file = file; there = is.found; pending = is.ends }

-- once it is marked the others are left
pub without_first : (files : Files) (file : File) (rest : List File) → Differ files → pending files ≡ file ∷ rest → pending (without file.name files) ≡ rest
without_first files file rest differ h =
    let is = is_first files file rest differ h in
    let p : File → Bool = λ f. not (is_named file.name f) in
    let gone : p file ≡ false = ap not (itself file.name) in
    sym (pending_left p files)
    ∙ ap (filter p) h
    ∙ ap (λ (v : Bool). cond v (file ∷ filter p rest) (filter p rest)) gone
    ∙ all_left (is_named file.name) rest is.alone

-- ---- their names

names_put : (a : File) (bs : List File) → map (λ (f : File). f.name) (put file_cmp a bs) ≡ put name_cmp a.name (map (λ (f : File). f.name) bs)
names_put a [] = refl
names_put a (b ∷ bs) = elim (cases_Bool (is_lt (name_cmp b.name a.name))) [
  | inl lt ↦ rw lt (ap (λ (ns : List (List ℕ)). b.name ∷ ns) (names_put a bs))
  | inr ge ↦ rw ge refl
]

names_sorted : (files : Files) → map (λ (f : File). f.name) (sorted file_cmp files) ≡ sorted name_cmp (map (λ (f : File). f.name) files)
names_sorted [] = refl
names_sorted (f ∷ files) = names_put f (sorted file_cmp files) ∙ ap (put name_cmp f.name) (names_sorted files)

-- the names that a folder gives are those of the pending files
pub names_pending : (files : Files) → map (λ (f : File). f.name) (pending files) ≡ pending_names files
names_pending files = names_sorted (filter is_pending files)

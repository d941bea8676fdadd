-- Where binary search ends in a strictly sorted list.
use Rattle.std.proofs.Common.{◌≡◌, ℕ, ◌<◌, ◌≤◌, ◌⊎◌, inl, inr, zero, suc, Bool, true, false, not, ◌||◌, List, [], ◌∷◌, map, filter, length, get_or, set, Some, Ordering, Less, Equal, Greater, refl, sym, ap, ◌∙◌, arith, nat_cmp}
use Rattle.std.specs.Prelude.{if◌then◌else◌, insert, remove}
use Rattle.std.specs.List.{list_any, find}
use Rattle.std.specs.List.Sorted.{IsPartitionPoint}
use Rattle.std.specs.Ordering.{is_lt, is_eq, ordering_reverse}
use Rattle.std.specs.Cmp.{IsTotalOrder}
use Rattle.std.specs.Cmp.Lexicographic.{slice_cmp}
use Rattle.std.proofs.lemmas.Cmp.{tied_back, tied_itself}
use Rattle.net_model.specs.Name.{same_bytes}
use Rattle.net_model.specs.Words.{apart, put, rises}
use Rattle.net_model.specs.Order.{link_cmp}
use Rattle.net_model.specs.Links.{is_named, same_name, find_link}
use Rattle.net_model.specs.Positions.{Stands, IsGap, IsAt, IsLinkGap}
use Rattle.net_model.specs.Valid.{names_differ}
use Rattle.net_model.specs.declared.link.Link.{Link}
use Rattle.net_model.proofs.lemmas.Truth.{and_left, and_right, not_true, or_left_false, or_right_false}
use Rattle.net_model.proofs.lemmas.Found.{one_name, itself, names_differ-rises, found_by_halving, none_by_halving}
use Rattle.net_model.proofs.lemmas.Grounded.{found_named}

-- one that passes at some place
pub any_at : {X : Type 0} (p : X → Bool) (xs : List X) (i : ℕ) (d : X) → i < length xs → p (get_or xs i d) ≡ true → list_any p xs ≡ true
any_at p [] i d lt h = absurd (omega arith)
any_at p (x ∷ xs) zero d lt h = rw h refl
any_at p (x ∷ xs) (suc i) d lt h = elim (p x) as (λ v. (v || list_any p xs) ≡ true) [ true ↦ refl | false ↦ any_at p xs i d (omega arith) h ]

-- none passes where none does at any place
pub none_at : {X : Type 0} (p : X → Bool) (xs : List X) → ((k : ℕ) (d : X) → k < length xs → p (get_or xs k d) ≡ false) → list_any p xs ≡ false
none_at p [] h = refl
none_at p (x ∷ xs) h = rw (h 0 x (omega arith), none_at p xs (λ k d lt. h (suc k) d (omega arith))) refl

-- what is inserted between the lower and the higher is put into its place
pub insert_is_put : {X : Type 0} (R : X → X → Ordering) (a : X) (xs : List X) (i : ℕ) → i ≤ length xs → ((k : ℕ) (d : X) → k < i → R (get_or xs k d) a ≡ Less) → ((k : ℕ) (d : X) → i ≤ k → k < length xs → R (get_or xs k d) a ≡ Greater) → insert xs i a ≡ put R a xs
insert_is_put R a [] zero le low high = refl
insert_is_put R a [] (suc i) le low high = absurd (omega arith)
insert_is_put R a (b ∷ bs) zero le low high = ap (λ r. if is_lt r then b ∷ put R a bs else a ∷ b ∷ bs) (sym (high 0 b (omega arith) (omega arith)))
insert_is_put {X} R a (b ∷ bs) (suc i) le low high =
    ap (λ (ys : List X). b ∷ ys) (insert_is_put R a bs i (omega arith) (λ k d lt. low (suc k) d (omega arith)) (λ k d at lt. high (suc k) d (omega arith) (omega arith)))
    ∙ ap (λ r. if is_lt r then b ∷ put R a bs else a ∷ b ∷ bs) (sym (low 0 b (omega arith)))

is_equal : (r : Ordering) → is_eq r ≡ true → r ≡ Equal
is_equal Less h = cc
is_equal Equal h = refl
is_equal Greater h = cc

turned : (r s : Ordering) → s ≡ ordering_reverse r → is_eq r ≡ false → is_eq s ≡ false
turned Less s e h = ap is_eq e
turned Equal s e h = absurd cc
turned Greater s e h = ap is_eq e

off : (b : Bool) → (b ≡ true → ⊥) → b ≡ false
off true h = absurd (h refl)
off false h = refl

below_or_above : (k i : ℕ) → (k < i) ⊎ (i ≤ k)
below_or_above k i = grind arith

-- where none passes, all are kept
keeps : {X : Type 0} (p : X → Bool) (xs : List X) → ((k : ℕ) (d : X) → k < length xs → p (get_or xs k d) ≡ false) → xs ≡ filter (λ y. not (p y)) xs
keeps p [] h = refl
keeps {X} p (x ∷ xs) h = rw (h 0 x (omega arith)) (ap (λ (ys : List X). x ∷ ys) (keeps p xs (λ k d lt. h (suc k) d (omega arith))))

-- a test E that an order R ties, and the x that is looked for
module _ {X : Type 0} (E : X → X → Bool) (R : X → X → Ordering) (total : IsTotalOrder R) (tie : (x y : X) → E x y ≡ is_eq (R x y)) (x : X) where
  met : (y : X) → R y x ≡ Equal → E x y ≡ true
  met y e = tie x y ∙ ap is_eq (tied_back total y x e)

  both : (y z : X) → E x y ≡ true → E x z ≡ true → E y z ≡ true
  both y z h k =
      let back : R y x ≡ Equal = tied_back total x y (is_equal (R x y) (sym (tie x y) ∙ h)) in
      tie y z ∙ ap is_eq (total.congr y x z back) ∙ sym (tie x z) ∙ k

  clash : (y : X) (ys : List X) → apart E (y ∷ ys) ≡ true → (k : ℕ) (d : X) → k < length ys → E x y ≡ true → E x (get_or ys k d) ≡ true → ⊥
  clash y ys differ k d lt h e =
      let none : list_any (E y) ys ≡ false = not_true (list_any (E y) ys) (and_left (not (list_any (E y) ys)) (apart E ys) differ) in
      let some : list_any (E y) ys ≡ true = any_at (E y) ys k d lt (both y (get_or ys k d) h e) in
      let wrong : true ≡ false = sym some ∙ none in
      absurd cc

  only : (xs : List X) → apart E xs ≡ true → (i k : ℕ) (d e : X) → i < length xs → k < length xs → E x (get_or xs i d) ≡ true → E x (get_or xs k e) ≡ true → k ≡ i
  only [] differ i k d e lt below h j = absurd (omega arith)
  only (y ∷ ys) differ zero zero d e lt below h j = refl
  only (y ∷ ys) differ zero (suc k) d e lt below h j = absurd (clash y ys differ k e (omega arith) h j)
  only (y ∷ ys) differ (suc i) zero d e lt below h j = absurd (clash y ys differ i d (omega arith) j h)
  only (y ∷ ys) differ (suc i) (suc k) d e lt below h j = ap suc (only ys (and_right (not (list_any (E y) ys)) (apart E ys) differ) i k d e (omega arith) (omega arith) h j)

  found : (xs : List X) → apart E xs ≡ true → (i : ℕ) (d : X) → i < length xs → E x (get_or xs i d) ≡ true → find (E x) xs ≡ Some (get_or xs i d)
  found [] differ i d lt h = absurd (omega arith)
  found (y ∷ ys) differ zero d lt h = rw h refl
  found (y ∷ ys) differ (suc i) d lt h =
      let away : E x y ≡ false = off (E x y) (λ e. clash y ys differ i d (omega arith) e h) in
      rw away (found ys (and_right (not (list_any (E y) ys)) (apart E ys) differ) i d (omega arith) h)

  removed : (xs : List X) → apart E xs ≡ true → (i : ℕ) → i < length xs → (p : X → Bool) → ((y : X) → p y ≡ true → E x y ≡ true) → ((d : X) → p (get_or xs i d) ≡ true) → remove xs i ≡ filter (λ y. not (p y)) xs
  removed [] differ i lt p within here = absurd (omega arith)
  removed (y ∷ ys) differ zero lt p within here =
      rw (here y) (keeps p ys (λ k d below. off (p (get_or ys k d)) (λ e. clash y ys differ k d below (within y (here y)) (within (get_or ys k d) e))))
  removed (y ∷ ys) differ (suc i) lt p within here =
      let away : p y ≡ false = off (p y) (λ e. clash y ys differ i y (omega arith) (within y e) (within (get_or ys i y) (here y))) in
      rw away (ap (λ (zs : List X). y ∷ zs) (removed ys (and_right (not (list_any (E y) ys)) (apart E ys) differ) i (omega arith) p within here))

  -- what binary search meets stands there
  pub stands : (xs : List X) → apart E xs ≡ true → (i : ℕ) → i < length xs → ((d : X) → R (get_or xs i d) x ≡ Equal) → Stands E x xs i
  stands xs differ i lt equal = record {
    inside = lt;
    same = λ d. met (get_or xs i d) (equal d);
    found = λ d. found xs differ i d lt (met (get_or xs i d) (equal d));
    only = λ k d below h. only xs differ i k d d lt below (met (get_or xs i d) (equal d)) h;
    removes = λ p within here. removed xs differ i lt p within here;
  }

  -- and where it parts the list, there is a gap, also by a finer order S
  pub gap : (S : X → X → Ordering) → ((y : X) → R y x ≡ Less → S y x ≡ Less) → ((y : X) → R y x ≡ Greater → S y x ≡ Greater) → (xs : List X) (i : ℕ) → i ≤ length xs → IsPartitionPoint (λ y. R y x ≡ Less) (λ y. R y x ≡ Greater) xs i → IsGap E S x xs i
  gap S lower higher xs i inside parted = record {
    inside = inside;
    none = none_at (E x) xs (λ k d lt. tie x (get_or xs k d) ∙ turned (R (get_or xs k d) x) (R x (get_or xs k d)) (total.antisymm x (get_or xs k d))
        (elim (below_or_above k i) [
          | inl low ↦ ap is_eq (parted.0 k d (omega arith) low)
          | inr high ↦ ap is_eq (parted.1 k d high lt)
        ]));
    puts = insert_is_put S x xs i inside (λ k d lt. lower (get_or xs k d) (parted.0 k d (omega arith) lt)) (λ k d at lt. higher (get_or xs k d) (parted.1 k d at lt));
  }

-- the member at an index is what is found by it
pub found_itself : {X : Type 0} (E : X → X → Bool) (R : X → X → Ordering) (total : IsTotalOrder R) → ((x y : X) → E x y ≡ is_eq (R x y)) → (xs : List X) → apart E xs ≡ true → (i : ℕ) (d : X) → i < length xs → find (E (get_or xs i d)) xs ≡ Some (get_or xs i d)
found_itself E R total tie xs differ i d lt = found E R total tie (get_or xs i d) xs differ i d lt (tie (get_or xs i d) (get_or xs i d) ∙ ap is_eq (tied_itself total (get_or xs i d)))

-- and no other member is the same
pub only_itself : {X : Type 0} (E : X → X → Bool) (R : X → X → Ordering) (total : IsTotalOrder R) → ((x y : X) → E x y ≡ is_eq (R x y)) → (xs : List X) → apart E xs ≡ true → (i k : ℕ) (d : X) → i < length xs → k < length xs → E (get_or xs i d) (get_or xs k d) ≡ true → k ≡ i
only_itself E R total tie xs differ i k d lt below h = only E R total tie (get_or xs i d) xs differ i k d d lt below (tie (get_or xs i d) (get_or xs i d) ∙ ap is_eq (tied_itself total (get_or xs i d))) h

-- the link, changed where it has the name
abbrev changed : List ℕ → (Link → Link) → Link → Link
changed name change l = if is_named name l then change l else l

rest_same : (name : List ℕ) (g : Link → Link) (x : Link) (xs : List Link) → is_named name x ≡ true → list_any (same_name x) xs ≡ false → xs ≡ map (changed name g) xs
rest_same name g x [] h none = refl
rest_same name g x (y ∷ ys) h none =
    let away : is_named name y ≡ false = ap (same_bytes y.name) (sym (one_name x.name name h)) ∙ or_left_false (same_name x y) (list_any (same_name x) ys) none in
    rw away (ap (λ (ls : List Link). y ∷ ls) (rest_same name g x ys h (or_right_false (same_name x y) (list_any (same_name x) ys) none)))

-- the link before one of the name has another
other_name : (name : List ℕ) (x : Link) (xs : List Link) (i : ℕ) (d : Link) → names_differ (x ∷ xs) ≡ true → i < length xs → is_named name (get_or xs i d) ≡ true → is_named name x ≡ false
other_name name x xs i d differ lt h = off (is_named name x) (λ e.
    let none : list_any (same_name x) xs ≡ false = not_true (list_any (same_name x) xs) (and_left (not (list_any (same_name x) xs)) (names_differ xs) differ) in
    let same : same_name x (get_or xs i d) ≡ true = ap (same_bytes (get_or xs i d).name) (one_name x.name name e) ∙ h in
    let wrong : true ≡ false = sym (any_at (same_name x) xs i d lt same) ∙ none in
    absurd cc)

edited : (name : List ℕ) (g : Link → Link) (xs : List Link) (i : ℕ) (d : Link) → names_differ xs ≡ true → i < length xs → is_named name (get_or xs i d) ≡ true → set xs i (g (get_or xs i d)) ≡ map (changed name g) xs
edited name g [] i d differ lt h = absurd (omega arith)
edited name g (x ∷ xs) zero d differ lt h =
    let none : list_any (same_name x) xs ≡ false = not_true (list_any (same_name x) xs) (and_left (not (list_any (same_name x) xs)) (names_differ xs) differ) in
    rw h (ap (λ (ls : List Link). g x ∷ ls) (rest_same name g x xs h none))
edited name g (x ∷ xs) (suc i) d differ lt h =
    rw (other_name name x xs i d differ (omega arith) h)
    (ap (λ (ls : List Link). x ∷ ls) (edited name g xs i d (and_right (not (list_any (same_name x) xs)) (names_differ xs) differ) (omega arith) h))

link_removed : (name : List ℕ) (xs : List Link) (i : ℕ) (d : Link) → names_differ xs ≡ true → i < length xs → is_named name (get_or xs i d) ≡ true → remove xs i ≡ filter (λ l. not (is_named name l)) xs
link_removed name [] i d differ lt h = absurd (omega arith)
link_removed name (x ∷ xs) zero d differ lt h =
    let none : list_any (same_name x) xs ≡ false = not_true (list_any (same_name x) xs) (and_left (not (list_any (same_name x) xs)) (names_differ xs) differ) in
    rw h (keeps (is_named name) xs (λ k e below. off (is_named name (get_or xs k e)) (λ on.
    let same : same_name x (get_or xs k e) ≡ true = ap (same_bytes (get_or xs k e).name) (one_name x.name name h) ∙ on in
    let wrong : true ≡ false = sym (any_at (same_name x) xs k e below same) ∙ none in
    absurd cc)))
link_removed name (x ∷ xs) (suc i) d differ lt h =
    rw (other_name name x xs i d differ (omega arith) h)
    (ap (λ (ls : List Link). x ∷ ls) (link_removed name xs i d (and_right (not (list_any (same_name x) xs)) (names_differ xs) differ) (omega arith) h))

-- the link that binary search meets is that of the name
pub link_stands : (name : List ℕ) (links : List Link) (i : ℕ) → rises link_cmp links ≡ true → i < length links → ((d : Link) → slice_cmp nat_cmp (get_or links i d).name name ≡ Equal) → IsAt name links i
link_stands name links i up lt equal =
    let differ : names_differ links ≡ true = names_differ-rises links up in
    let there : (d : Link) → find_link name links ≡ Some (get_or links i d) = λ d. sym (found_by_halving links name i d up lt (equal d)) in
    let named : (d : Link) → is_named name (get_or links i d) ≡ true = λ d. ap (λ m. same_bytes m name) (found_named links name (get_or links i d) (there d)) ∙ itself name in
    record {
      inside = lt;
      named = named;
      found = there;
      edits = λ g d. edited name g links i d differ lt (named d);
      removes = at_one links i lt differ named;
    }
  where
    at_one : (links : List Link) (i : ℕ) → i < length links → names_differ links ≡ true → ((d : Link) → is_named name (get_or links i d) ≡ true) → remove links i ≡ filter (λ l. not (is_named name l)) links
    at_one [] i lt differ named = absurd (omega arith)
    at_one (x ∷ xs) i lt differ named = link_removed name (x ∷ xs) i x differ lt (named x)

-- and where it parts the links, the link of the name belongs
pub link_gap : (name : List ℕ) (links : List Link) (i : ℕ) → i ≤ length links → IsPartitionPoint (λ (y : Link). slice_cmp nat_cmp y.name name ≡ Less) (λ (y : Link). slice_cmp nat_cmp y.name name ≡ Greater) links i → IsLinkGap name links i
link_gap name links i inside parted = record {
  inside = inside;
  none = none_by_halving links name i parted;
  puts = λ l e. insert_is_put link_cmp l links i inside
      (λ k d lt. ap (slice_cmp nat_cmp (get_or links k d).name) e ∙ parted.0 k d (omega arith) lt)
      (λ k d at lt. ap (slice_cmp nat_cmp (get_or links k d).name) e ∙ parted.1 k d at lt);
}

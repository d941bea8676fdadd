-- The first place of a name, one name more.
use Rattle.std.proofs.Common.{◌≡◌, ℕ, ◌+◌, ◌<◌, ◌≤◌, Bool, true, false, not, cond, eqb, nat_lt, List, [], ◌∷◌, ◌++◌, length, get_or, take, Option, Some, None, if◌then◌else◌, refl, sym, ap, ◌∙◌, arith}
use Rattle.std.specs.List.{position, position_or_len}
use Rattle.std.specs.Option.{option_or}
use Rattle.std.specs.Ordering.{is_eq}
use Rattle.std.specs.Cmp.Lexicographic.{texts_ties}
use Rattle.std.proofs.lemmas.Bool.Decides.{nat_tests}
use Rattle.std.proofs.lemmas.List.{length-take-le}
use Rattle.std.proofs.lemmas.List.Folds.{position_or_len_push}
use Rattle.std.proofs.lemmas.List.Sums.{prefix_len-le-length}
use Rattle.net_model.specs.Name.{same_bytes}
use Rattle.net_model.specs.Order.{name_cmp}
use Rattle.net_model.proofs.lemmas.Found.{one_name}
use Rattle.link_order.proofs.lemmas.More.{take_one}

within : {X : Type 0} (p : X → Bool) (xs : List X) → position_or_len p xs ≤ length xs
within p xs = prefix_len-le-length (λ x. not (p x)) xs

before : (n m : ℕ) → nat_lt n m ≡ true → (eqb n m ≡ false) × (nat_lt n (m + 1) ≡ true)
before n m h = (grind (arith, nat_tests), grind (arith, nat_tests))

level : (n m : ℕ) → n ≤ m → nat_lt n m ≡ false → eqb n m ≡ true
level n m le h = grind (arith, nat_tests)

here : (m : ℕ) → nat_lt (m + 0) (m + 1) ≡ true
here m = grind (arith, nat_tests)

beyond : (m : ℕ) → nat_lt (m + 1) (m + 1) ≡ false
beyond m = grind (arith, nat_tests)

plus_zero : (m : ℕ) → m + 0 ≡ m
plus_zero m = omega arith

picked : (n m : ℕ) (b : Bool) → n ≤ m → cond (nat_lt (cond (eqb n m) (m + cond b 0 1) n) (m + 1)) (Some (cond (eqb n m) (m + cond b 0 1) n)) None ≡ option_or (cond (nat_lt n m) (Some n) None) (if b then Some m else None)
picked n m b le = elim (nat_lt n m) as (λ v. nat_lt n m ≡ v → cond (nat_lt (cond (eqb n m) (m + cond b 0 1) n) (m + 1)) (Some (cond (eqb n m) (m + cond b 0 1) n)) None ≡ option_or (cond v (Some n) None) (if b then Some m else None)) [
  | true ↦ λ h. rw ((before n m h).0, (before n m h).1) refl
  | false ↦ λ h. rw (level n m le h) (last b)
] refl
  where
    last : (c : Bool) → cond (nat_lt (m + cond c 0 1) (m + 1)) (Some (m + cond c 0 1)) None ≡ option_or None (if c then Some m else None)
    last true = rw (here m) (ap Some (plus_zero m))
    last false = rw (beyond m) refl

-- the place of one name more
pub position_more : {X : Type 0} (p : X → Bool) (xs : List X) (i : ℕ) (y : X) → i < length xs → y ≡ get_or xs i y → position p (take (i + 1) xs) ≡ option_or (position p (take i xs)) (if p y then Some i else None)
position_more p xs i y lt is =
    let size : length (take i xs) ≡ i = length-take-le i xs (omega (arith, lt)) in
    ap (position p) (take_one xs i y lt is)
    ∙ pushed p (take i xs) y
    ∙ ap (λ n. option_or (position p (take i xs)) (if p y then Some n else None)) size
  where
    longer : {Y : Type 0} (ys : List Y) (z : Y) → length (ys ++ z ∷ []) ≡ length ys + 1
    longer [] z = omega arith
    longer (a ∷ ys) z = omega (arith, longer ys z)

    pushed : {Y : Type 0} (q : Y → Bool) (ys : List Y) (z : Y) → position q (ys ++ z ∷ []) ≡ option_or (position q ys) (if q z then Some (length ys) else None)
    pushed q ys z = rw (position_or_len_push q ys z, longer ys z) (picked (position_or_len q ys) (length ys) (q z) (within q ys))

-- one name, by its bytes and by its order
pub same_as : (name q : List ℕ) → same_bytes name q ≡ is_eq (name_cmp name q)
same_as = texts_ties

or_none : {X : Type 0} (o : Option X) → o ≡ option_or o None
or_none None = refl
or_none (Some x) = refl

-- a map that a name without a place is added to
pub noted_new : (old new : List ℕ → Option ℕ) (name : List ℕ) (at : ℕ) → old name ≡ None → ((q : List ℕ) → new q ≡ cond (is_eq (name_cmp name q)) (Some at) (old q)) → (q : List ℕ) → new q ≡ option_or (old q) (if same_bytes name q then Some at else None)
noted_new old new name at none is q = is q ∙ elim (same_bytes name q) as (λ v. same_bytes name q ≡ v → cond (is_eq (name_cmp name q)) (Some at) (old q) ≡ option_or (old q) (if v then Some at else None)) [
  | true ↦ λ h.
      let nothing : old q ≡ None = ap old (sym (one_name name q h)) ∙ none in
      let same : is_eq (name_cmp name q) ≡ true = sym (same_as name q) ∙ h in
      rw (same, nothing) refl
  | false ↦ λ h.
      let other : is_eq (name_cmp name q) ≡ false = sym (same_as name q) ∙ h in
      rw other (or_none (old q))
] refl

-- and one that has the name already
pub noted_old : (old : List ℕ → Option ℕ) (name : List ℕ) (at was : ℕ) → old name ≡ Some was → (q : List ℕ) → old q ≡ option_or (old q) (if same_bytes name q then Some at else None)
noted_old old name at was some q = elim (same_bytes name q) as (λ v. same_bytes name q ≡ v → old q ≡ option_or (old q) (if v then Some at else None)) [
  | true ↦ λ h.
      let there : old q ≡ Some was = ap old (sym (one_name name q h)) ∙ some in
      rw there refl
  | false ↦ λ h. or_none (old q)
] refl

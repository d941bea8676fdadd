-- Levels: one down in a value, and the levels of the tree that it stands for.
use Rattle.std.proofs.Common.{◌≡◌, ◌∙◌, ◌<◌, ◌-◌, ◌&&◌, ℕ, zero, suc, max, Bool, true, false, refl, sym, arith, ap₂}
use Rattle.std.specs.Prelude.{nat_le}
use Rattle.std.proofs.lemmas.Bool.{leb-true, le-leb, lt-leb, and_from, and_parts}
use Rattle.serde_json.specs.Data.{Data, Num, unsigned, negative, float, null, boolean, number, string, Items, no_items, item, Members, no_members, member, array, object}
use Rattle.doc_tree.specs.Reading.{within, items_within, members_within}
use Rattle.doc_tree.specs.JsonTree.{shape_of, items_shape, members_shape, number_shape}
use Rattle.doc_tree.specs.Shape.{levels, shapes_levels, pairs_levels}

pub within-array : (n : ℕ) (ds : Items) → 0 < n → items_within (n - 1) ds ≡ within n (array ds)
within-array zero ds h = absurd (omega arith)
within-array (suc n) ds h = let e : suc n - 1 ≡ n = omega arith in rw e refl

pub within-object : (n : ℕ) (ms : Members) → 0 < n → members_within (n - 1) ms ≡ within n (object ms)
within-object zero ms h = absurd (omega arith)
within-object (suc n) ms h = let e : suc n - 1 ≡ n = omega arith in rw e refl

-- two tests that imply each other give the same answer
both_ways : (s t : Bool) → (s ≡ true → t ≡ true) → (t ≡ true → s ≡ true) → s ≡ t
both_ways true t f g = sym (f refl)
both_ways false true f g = g refl
both_ways false false f g = refl

number_levels : (x : Num) → levels (number_shape x) ≡ 1
number_levels (unsigned n) = refl
number_levels (negative z) = refl
number_levels (float x) = refl

-- two are within a number where the greater one is
both_within : (a b n : ℕ) → (nat_le a n && nat_le b n) ≡ nat_le (max a b) n
both_within a b n =
    both_ways (nat_le a n && nat_le b n) (nat_le (max a b) n)
    (λ h. let p = and_parts (nat_le a n) (nat_le b n) h in let x = leb-true a n p.0 in let y = leb-true b n p.1 in le-leb (max a b) n (omega arith))
    (λ h. let m = leb-true (max a b) n h in and_from (nat_le a n) (nat_le b n) (le-leb a n (omega arith)) (le-leb b n (omega arith)))

leaf : (n m : ℕ) → m ≡ 1 → true ≡ nat_le m (suc n)
leaf n m e = sym (le-leb m (suc n) (omega arith))

deeper : (m n : ℕ) → nat_le m n ≡ nat_le (suc m) (suc n)
deeper m n =
    both_ways (nat_le m n) (nat_le (suc m) (suc n)) (λ h. let x = leb-true m n h in le-leb (suc m) (suc n) (omega arith))
    (λ h. let x = leb-true (suc m) (suc n) h in le-leb m n (omega arith))

no_room : (d : Data) → 0 < levels (shape_of d)
no_room null = omega arith
no_room (boolean b) = omega arith
no_room (number x) = omega (arith, number_levels x)
no_room (string s) = omega arith
no_room (array ds) = omega arith
no_room (object ms) = omega arith

mutual
  pub within-levels : (n : ℕ) (d : Data) → within n d ≡ nat_le (levels (shape_of d)) n
  within-levels zero d = sym (lt-leb (levels (shape_of d)) 0 (no_room d))
  within-levels (suc n) null = leaf n 1 refl
  within-levels (suc n) (boolean b) = leaf n 1 refl
  within-levels (suc n) (number x) = leaf n (levels (number_shape x)) (number_levels x)
  within-levels (suc n) (string s) = leaf n 1 refl
  within-levels (suc n) (array ds) = items_within-levels n ds ∙ deeper (shapes_levels (items_shape ds)) n
  within-levels (suc n) (object ms) = members_within-levels n ms ∙ deeper (pairs_levels (members_shape ms)) n

  items_within-levels : (n : ℕ) (ds : Items) → items_within n ds ≡ nat_le (shapes_levels (items_shape ds)) n
  items_within-levels n no_items = sym (le-leb 0 n (omega arith))
  items_within-levels n (item d ds) =
      ap₂ ◌&&◌ (within-levels n d) (items_within-levels n ds) ∙ both_within (levels (shape_of d)) (shapes_levels (items_shape ds)) n

  members_within-levels : (n : ℕ) (ms : Members) → members_within n ms ≡ nat_le (pairs_levels (members_shape ms)) n
  members_within-levels n no_members = sym (le-leb 0 n (omega arith))
  members_within-levels n (member k d ms) =
      ap₂ ◌&&◌ (within-levels n d) (members_within-levels n ms) ∙ both_within (levels (shape_of d)) (pairs_levels (members_shape ms)) n

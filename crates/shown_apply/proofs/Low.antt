-- Bytes of ASCII, and trees whose strings and keys are ASCII and whose whole numbers have 32 bits.
use Rattle.std.proofs.Common.{◌≡◌, ◌∙◌, ◌<◌, ◌^◌, ℕ, suc, ℤ, pos, negsuc, List, [], ◌∷◌, ◌++◌, Bool, true, refl, arith, IsAscii}
use Rattle.std.specs.Prelude.{nat_lt, is_some}
use Rattle.std.specs.List.{list_all}
use Rattle.std.specs.Str.{IsUtf8}
use Rattle.std.proofs.lemmas.Bool.{and_from, and_parts, lt-ltb, ltb-true}
use Rattle.std.proofs.lemmas.List.Folds.{list_all-append}
use Rattle.std.proofs.lemmas.Str.{IsUtf8-from_ascii}
use Rattle.std.proofs.lemmas.Str.Ascii.{IsAscii-nil, IsAscii-cons}
use Rattle.doc_tree.specs.Shape.{Shape, nothing, truth, whole, text, list, mapping, Shapes, no_shapes, more, Pairs, no_pairs, pair}
use Rattle.doc_tree.specs.Integers.{integers_fit, items_fit, pairs_fit}
use Rattle.doc_tree.specs.JsonText.{number_of, fits, shapes_fit, pairs_fit as values_fit}
use Rattle.doc_tree.specs.Strings.{HasUtf8, ShapesHaveUtf8, PairsHaveUtf8}

abbrev pub is_low : ℕ → Bool
is_low b = nat_lt b 128

abbrev pub low : List ℕ → Bool
low bs = list_all is_low bs

-- one run of bytes after another
pub both_low : (xs ys : List ℕ) → low xs ≡ true → low ys ≡ true → low (xs ++ ys) ≡ true
both_low xs ys a b = list_all-append is_low xs ys ∙ and_from (low xs) (low ys) a b

-- one more byte in front
pub more_low : (b : ℕ) (bs : List ℕ) → b < 128 → low bs ≡ true → low (b ∷ bs) ≡ true
more_low b bs lt rest = and_from (is_low b) (low bs) (lt-ltb b 128 lt) rest

-- the same as the fact about each place
pub low_ascii : (bs : List ℕ) → low bs ≡ true → IsAscii bs
low_ascii [] all = IsAscii-nil
low_ascii (b ∷ bs) all =
    let both = and_parts (is_low b) (low bs) all in
    IsAscii-cons b bs (ltb-true b 128 both.0) (low_ascii bs both.1)

pub ascii_low : (bs : List ℕ) → IsAscii bs → low bs ≡ true
ascii_low [] h = refl
ascii_low (b ∷ bs) h = more_low b bs (h 0) (ascii_low bs (λ i. h (suc i)))

-- bytes that pass a test that no higher byte passes
pub low_by : (p : ℕ → Bool) → ((b : ℕ) → p b ≡ true → b < 128) → (bs : List ℕ) → list_all p bs ≡ true → low bs ≡ true
low_by p f [] all = refl
low_by p f (b ∷ bs) all =
    let both = and_parts (p b) (list_all p bs) all in
    more_low b bs (f b both.0) (low_by p f bs both.1)

-- ---- trees

-- a whole number from 0 on, of 32 bits
abbrev pub IsNarrow : ℤ → Type 0
IsNarrow (pos n) = n < 2 ^ 32
IsNarrow (negsuc n) = ⊥

abbrev mutual
  -- the strings and keys are ASCII, and the whole numbers narrow
  pub IsSimple : Shape → Type 0
  IsSimple nothing = Unit {0}
  IsSimple (truth b) = Unit {0}
  IsSimple (whole z) = IsNarrow z
  IsSimple (text s) = low s ≡ true
  IsSimple (list ss) = AreSimple ss
  IsSimple (mapping ps) = HasSimple ps

  pub AreSimple : Shapes → Type 0
  AreSimple no_shapes = Unit {0}
  AreSimple (more s ss) = IsSimple s × AreSimple ss

  pub HasSimple : Pairs → Type 0
  HasSimple no_pairs = Unit {0}
  HasSimple (pair k s ps) = (low k ≡ true) × IsSimple s × HasSimple ps

mutual
  -- the whole numbers of such a tree have 128 bits
  pub simple_fits : (s : Shape) → IsSimple s → integers_fit s ≡ true
  simple_fits nothing is = refl
  simple_fits (truth b) is = refl
  simple_fits (whole (pos n)) is = lt-ltb n (2 ^ 127) (omega (arith, is))
  simple_fits (whole (negsuc n)) is = absurd is
  simple_fits (text s) is = refl
  simple_fits (list ss) is = items_simple_fit ss is
  simple_fits (mapping ps) is = pairs_simple_fit ps is

  items_simple_fit : (ss : Shapes) → AreSimple ss → items_fit ss ≡ true
  items_simple_fit no_shapes is = refl
  items_simple_fit (more s ss) is = and_from (integers_fit s) (items_fit ss) (simple_fits s is.0) (items_simple_fit ss is.1)

  pairs_simple_fit : (ps : Pairs) → HasSimple ps → pairs_fit ps ≡ true
  pairs_simple_fit no_pairs is = refl
  pairs_simple_fit (pair k s ps) is = and_from (integers_fit s) (pairs_fit ps) (simple_fits s is.1) (pairs_simple_fit ps is.2)

-- a whole number of 32 bits has a number in JSON
narrow_number : (n : ℕ) → n < 2 ^ 32 → is_some (number_of (pos n)) ≡ true
narrow_number n lt = rw (lt-ltb n (2 ^ 64) (omega (arith, lt))) refl

mutual
  -- the whole numbers of such a tree are those of JSON
  pub simple_numbers : (s : Shape) → IsSimple s → fits s ≡ true
  simple_numbers nothing is = refl
  simple_numbers (truth b) is = refl
  simple_numbers (whole (pos n)) is = narrow_number n is
  simple_numbers (whole (negsuc n)) is = absurd is
  simple_numbers (text s) is = refl
  simple_numbers (list ss) is = items_simple_numbers ss is
  simple_numbers (mapping ps) is = pairs_simple_numbers ps is

  items_simple_numbers : (ss : Shapes) → AreSimple ss → shapes_fit ss ≡ true
  items_simple_numbers no_shapes is = refl
  items_simple_numbers (more s ss) is = and_from (fits s) (shapes_fit ss) (simple_numbers s is.0) (items_simple_numbers ss is.1)

  pairs_simple_numbers : (ps : Pairs) → HasSimple ps → values_fit ps ≡ true
  pairs_simple_numbers no_pairs is = refl
  pairs_simple_numbers (pair k s ps) is = and_from (fits s) (values_fit ps) (simple_numbers s is.1) (pairs_simple_numbers ps is.2)

low_utf8 : (bs : List ℕ) → low bs ≡ true → IsUtf8 bs
low_utf8 bs is = IsUtf8-from_ascii bs (low_ascii bs is)

mutual
  -- its strings and keys are UTF-8
  pub simple_utf8 : (s : Shape) → IsSimple s → HasUtf8 s
  simple_utf8 nothing is = tt
  simple_utf8 (truth b) is = tt
  simple_utf8 (whole z) is = tt
  simple_utf8 (text s) is = low_utf8 s is
  simple_utf8 (list ss) is = items_simple_utf8 ss is
  simple_utf8 (mapping ps) is = pairs_simple_utf8 ps is

  items_simple_utf8 : (ss : Shapes) → AreSimple ss → ShapesHaveUtf8 ss
  items_simple_utf8 no_shapes is = tt
  items_simple_utf8 (more s ss) is = (simple_utf8 s is.0, items_simple_utf8 ss is.1)

  pairs_simple_utf8 : (ps : Pairs) → HasSimple ps → PairsHaveUtf8 ps
  pairs_simple_utf8 no_pairs is = tt
  pairs_simple_utf8 (pair k s ps) is = (low_utf8 k is.0, simple_utf8 s is.1, pairs_simple_utf8 ps is.2)

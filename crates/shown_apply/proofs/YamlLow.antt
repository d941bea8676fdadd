-- The YAML text of a tree of ASCII strings and keys and of narrow numbers is ASCII.
use Rattle.std.proofs.Common.{◌≡◌, ◌∙◌, ◌++◌, ◌+◌, ◌/◌, ◌%◌, ◌<◌, ℕ, suc, zero, ℤ, pos, negsuc, List, [], ◌∷◌, Bool, true, false, cond, refl, arith, flat_map}
use Rattle.std.specs.Prelude.{◌||◌, ◌==◌, codes}
use Rattle.std.specs.List.{list_all, list_any}
use Rattle.std.specs.Fmt.{signed_decimal}
use Rattle.std.proofs.lemmas.Bool.{and_parts, and_from, ltb-true}
use Rattle.std.proofs.lemmas.Bool.Decides.{nat_tests}
use Rattle.std.proofs.lemmas.List.Folds.{list_all-append}
use Rattle.doc_tree.specs.Shape.{Shape, nothing, truth, whole, text, list, mapping, Shapes, no_shapes, more, Pairs, no_pairs, pair}
use Rattle.yaml_text.specs.Scalars.{is_plain, is_control, hex_digit, escaped, doubled, in_double_quotes, in_single_quotes, printed, on_line}
use Rattle.yaml_text.specs.Layout.{spaces, has_pairs, stands_below, behind, below_key, pairs_lines, items_lines, item_lines, yaml_lines, joined, yaml_text_of}
use Rattle.shown_apply.proofs.Low.{is_low, low, both_low, more_low, IsNarrow, IsSimple, AreSimple, HasSimple}
use Rattle.shown_apply.proofs.Words.{decimal_low}

abbrev all_low : List (List ℕ) → Bool
all_low ls = list_all low ls

both_all : (xs ys : List (List ℕ)) → all_low xs ≡ true → all_low ys ≡ true → all_low (xs ++ ys) ≡ true
both_all xs ys a b = list_all-append low xs ys ∙ and_from (all_low xs) (all_low ys) a b

spaces_low : (n : ℕ) → low (spaces n) ≡ true
spaces_low zero = refl
spaces_low (suc n) = spaces_low n

hex_low : (d : ℕ) → d < 16 → hex_digit d < 128
hex_low d h = grind (arith, nat_tests)

escaped_by : (t q : Bool) (b : ℕ) → b < 128 → low (cond t (92 ∷ 120 ∷ hex_digit (b / 16) ∷ hex_digit (b % 16) ∷ []) (cond q (92 ∷ b ∷ []) (b ∷ []))) ≡ true
escaped_by true q b lt =
    more_low (hex_digit (b / 16)) (hex_digit (b % 16) ∷ []) (hex_low (b / 16) (omega (arith, lt))) (more_low (hex_digit (b % 16)) [] (hex_low (b % 16) (omega arith)) refl)
escaped_by false true b lt = more_low b [] lt refl
escaped_by false false b lt = more_low b [] lt refl

escaped_low : (s : List ℕ) → low s ≡ true → low (flat_map escaped s) ≡ true
escaped_low [] all = refl
escaped_low (b ∷ bs) all =
    let both = and_parts (is_low b) (low bs) all in
    both_low (escaped b) (flat_map escaped bs) (escaped_by (is_control b) ((b == 34) || (b == 92)) b (ltb-true b 128 both.0)) (escaped_low bs both.1)

doubled_by : (t : Bool) (b : ℕ) → b < 128 → low (cond t (39 ∷ 39 ∷ []) (b ∷ [])) ≡ true
doubled_by true b lt = refl
doubled_by false b lt = more_low b [] lt refl

doubled_low : (s : List ℕ) → low s ≡ true → low (flat_map doubled s) ≡ true
doubled_low [] all = refl
doubled_low (b ∷ bs) all =
    let both = and_parts (is_low b) (low bs) all in
    both_low (doubled b) (flat_map doubled bs) (doubled_by (b == 39) b (ltb-true b 128 both.0)) (doubled_low bs both.1)

printed_by : (t u : Bool) (s : List ℕ) → low s ≡ true → low (cond t s (cond u (in_double_quotes s) (in_single_quotes s))) ≡ true
printed_by true u s is = is
printed_by false true s is = both_low (flat_map escaped s) (34 ∷ []) (escaped_low s is) refl
printed_by false false s is = both_low (flat_map doubled s) (39 ∷ []) (doubled_low s is) refl

printed_low : (s : List ℕ) → low s ≡ true → low (printed s) ≡ true
unfolding printed
printed_low s is = printed_by (is_plain s) (list_any is_control s) s is

integer_low : (z : ℤ) → IsNarrow z → low (signed_decimal z) ≡ true
integer_low (pos n) is = decimal_low n (omega (arith, is))
integer_low (negsuc n) is = absurd is

truth_low : (b : Bool) → low (cond b (codes "true") (codes "false")) ≡ true
truth_low true = refl
truth_low false = refl

on_line_low : (t : Shape) → IsSimple t → low (on_line t) ≡ true
on_line_low nothing is = refl
on_line_low (truth b) is = truth_low b
on_line_low (whole z) is = integer_low z is
on_line_low (text s) is = printed_low s is
on_line_low (list ts) is = refl
on_line_low (mapping ps) is = refl

behind_by : (t : Bool) (x : List ℕ) → low x ≡ true → low (cond t [] (32 ∷ x)) ≡ true
behind_by true x is = refl
behind_by false x is = is

behind_low : (t : Shape) → IsSimple t → low (behind t) ≡ true
behind_low t is = behind_by (stands_below t) (on_line t) (on_line_low t is)

dash_low : (column : ℕ) (t : Shape) → IsSimple t → low (spaces column ++ (45 ∷ behind t)) ≡ true
dash_low column t is = both_low (spaces column) (45 ∷ behind t) (spaces_low column) (behind_low t is)

one_low : (x : List ℕ) → low x ≡ true → all_low (x ∷ []) ≡ true
one_low x is = and_from (low x) true is refl

map_item_by : (t : Bool) (xs : List (List ℕ)) (x : List ℕ) → all_low xs ≡ true → low x ≡ true → all_low (cond t xs (x ∷ [])) ≡ true
map_item_by true xs x a b = a
map_item_by false xs x a b = one_low x b

mutual
  pairs_low : (lead : List ℕ) (column : ℕ) (ps : Pairs) → low lead ≡ true → HasSimple ps → all_low (pairs_lines lead column ps) ≡ true
  pairs_low lead column no_pairs is simple = refl
  pairs_low lead column (pair k t ps) is simple =
      and_from (low (lead ++ (printed k ++ (58 ∷ behind t)))) (all_low (below_key column t ++ pairs_lines (spaces column) column ps))
      (both_low lead (printed k ++ (58 ∷ behind t)) is (both_low (printed k) (58 ∷ behind t) (printed_low k simple.0) (behind_low t simple.1)))
      (both_all (below_key column t) (pairs_lines (spaces column) column ps) (below_low column t simple.1) (pairs_low (spaces column) column ps (spaces_low column) simple.2))

  below_low : (column : ℕ) (t : Shape) → IsSimple t → all_low (below_key column t) ≡ true
  below_low column nothing simple = refl
  below_low column (truth b) simple = refl
  below_low column (whole z) simple = refl
  below_low column (text s) simple = refl
  below_low column (list ts) simple = items_low column ts simple
  below_low column (mapping ps) simple = pairs_low (spaces (column + 2)) (column + 2) ps (spaces_low (column + 2)) simple

  items_low : (column : ℕ) (ts : Shapes) → AreSimple ts → all_low (items_lines column ts) ≡ true
  items_low column no_shapes simple = refl
  items_low column (more t ts) simple = both_all (item_lines column t) (items_lines column ts) (item_low column t simple.0) (items_low column ts simple.1)

  item_low : (column : ℕ) (t : Shape) → IsSimple t → all_low (item_lines column t) ≡ true
  item_low column nothing simple = one_low (spaces column ++ (45 ∷ behind nothing)) (dash_low column nothing simple)
  item_low column (truth b) simple = one_low (spaces column ++ (45 ∷ behind (truth b))) (dash_low column (truth b) simple)
  item_low column (whole z) simple = one_low (spaces column ++ (45 ∷ behind (whole z))) (dash_low column (whole z) simple)
  item_low column (text s) simple = one_low (spaces column ++ (45 ∷ behind (text s))) (dash_low column (text s) simple)
  item_low column (list ts) simple =
      and_from (low (spaces column ++ (45 ∷ behind (list ts)))) (all_low (items_lines (column + 2) ts)) (dash_low column (list ts) simple) (items_low (column + 2) ts simple)
  item_low column (mapping ps) simple =
      map_item_by (has_pairs ps) (pairs_lines (spaces column ++ (45 ∷ 32 ∷ [])) (column + 2) ps) (spaces column ++ (45 ∷ behind (mapping ps)))
      (pairs_low (spaces column ++ (45 ∷ 32 ∷ [])) (column + 2) ps (both_low (spaces column) (45 ∷ 32 ∷ []) (spaces_low column) refl) simple)
      (dash_low column (mapping ps) simple)

joined_low : (ls : List (List ℕ)) → all_low ls ≡ true → low (joined ls) ≡ true
joined_low [] all = refl
joined_low (x ∷ xs) all =
    let both = and_parts (low x) (all_low xs) all in
    both_low (x ++ (10 ∷ [])) (joined xs) (both_low x (10 ∷ []) both.0 refl) (joined_low xs both.1)

whole_by : (t : Bool) (ps : Pairs) → HasSimple ps → all_low (cond t (pairs_lines [] 0 ps) (codes "{}" ∷ [])) ≡ true
whole_by true ps simple = pairs_low [] 0 ps refl simple
whole_by false ps simple = refl

-- the text of a map
pub map_text_low : (ps : Pairs) → HasSimple ps → low (yaml_text_of (mapping ps)) ≡ true
unfolding yaml_text_of
map_text_low ps simple = joined_low (yaml_lines (mapping ps)) (whole_by (has_pairs ps) ps simple)

-- No printed line has a line feed or a carriage return, so that the text has just these lines.
use Rattle.std.proofs.Common.{◌≡◌, ◌∙◌, ◌++◌, ◌+◌, ◌-◌, ◌/◌, ◌%◌, ◌^◌, ◌<◌, ◌≤◌, ℕ, suc, zero, ℤ, pos, negsuc, List, [], ◌∷◌, Bool, true, false, not, cond, eqb, ltb, length, get_or, refl, ap, arith, flat_map, decimal, append_assoc}
use Rattle.std.specs.Prelude.{◌||◌, ◌&&◌, codes}
use Rattle.std.specs.List.{list_all, list_any, slice_split, onto_first}
use Rattle.std.specs.Str.Lines.{lines, lines_of_parts, strip_carriage_return}
use Rattle.std.specs.Fmt.{signed_decimal}
use Rattle.std.proofs.lemmas.Bool.{and_parts, and_from, or_parts, agree_below_at, ltb-true, ltb-false, ne_eqb, not-true, not_from_false}
use Rattle.std.proofs.lemmas.List.Folds.{list_all-append}
use Rattle.std.proofs.lemmas.List.Splits.{slice_split-cons_yes, slice_split-cons_no}
use Rattle.doc_tree.specs.Shape.{Shape, nothing, truth, whole, text, list, mapping, Shapes, no_shapes, more, Pairs, no_pairs, pair}
use Rattle.yaml_text.specs.Scalars.{is_plain, is_plain_byte, is_control, hex_digit, escaped, doubled, in_double_quotes, in_single_quotes, printed, on_line}
use Rattle.yaml_text.specs.Layout.{spaces, has_pairs, stands_below, behind, below_key, pairs_lines, items_lines, item_lines, joined}
use Rattle.doc_tree.specs.Integers.{has_128_bits, integers_fit, items_fit, pairs_fit}
use Rattle.yaml_text.proofs.ByteLaws.{apart}
use Rattle.yaml_text.proofs.PlainReads.{plain_parts}
use Rattle.yaml_text.proofs.QuoteReads.{control_low}
use Rattle.yaml_text.proofs.NumberReads.{is_decimal, decimal_all, wide}

-- neither a line feed nor a carriage return
abbrev pub is_clean : ℕ → Bool
is_clean b = not (eqb b 10) && not (eqb b 13)

abbrev pub clean : List ℕ → Bool
clean bs = list_all is_clean bs

abbrev pub all_clean : List (List ℕ) → Bool
all_clean ls = list_all clean ls

both_clean : (xs ys : List ℕ) → clean xs ≡ true → clean ys ≡ true → clean (xs ++ ys) ≡ true
both_clean xs ys a b = list_all-append is_clean xs ys ∙ and_from (clean xs) (clean ys) a b

both_all : (xs ys : List (List ℕ)) → all_clean xs ≡ true → all_clean ys ≡ true → all_clean (xs ++ ys) ≡ true
both_all xs ys a b = list_all-append clean xs ys ∙ and_from (all_clean xs) (all_clean ys) a b

clean_by : (p : ℕ → Bool) → p 10 ≡ false → p 13 ≡ false → (bs : List ℕ) → list_all p bs ≡ true → clean bs ≡ true
clean_by p feed return [] all = refl
clean_by p feed return (b ∷ bs) all =
    let both = and_parts (p b) (list_all p bs) all in
    and_from (is_clean b) (clean bs) (and_from (not (eqb b 10)) (not (eqb b 13)) (not_from_false (eqb b 10) (apart p b 10 both.0 feed)) (not_from_false (eqb b 13) (apart p b 13 both.0 return))) (clean_by p feed return bs both.1)

clean_spaces : (n : ℕ) → clean (spaces n) ≡ true
clean_spaces zero = refl
clean_spaces (suc n) = clean_spaces n

not_control : (b : ℕ) → is_control b ≡ false → is_clean b ≡ true
not_control b is =
    let high : 32 ≤ b = ltb-false b 32 (or_parts (ltb b 32) (eqb b 127) is).0 in
    and_from (not (eqb b 10)) (not (eqb b 13)) (not_from_false (eqb b 10) (ne_eqb b 10 (λ e. absurd (omega arith)))) (not_from_false (eqb b 13) (ne_eqb b 13 (λ e. absurd (omega arith))))

codes_clean : (b : ℕ) → b < 128 → (is_clean (hex_digit (b / 16)) && is_clean (hex_digit (b % 16))) ≡ true
codes_clean b low = agree_below_at (λ b. is_clean (hex_digit (b / 16)) && is_clean (hex_digit (b % 16))) (λ _. true) 128 b refl low

escaped_by : (t q : Bool) (b : ℕ) → is_control b ≡ t → clean (cond t (92 ∷ 120 ∷ hex_digit (b / 16) ∷ hex_digit (b % 16) ∷ []) (cond q (92 ∷ b ∷ []) (b ∷ []))) ≡ true
escaped_by true q b is =
    let both = and_parts (is_clean (hex_digit (b / 16))) (is_clean (hex_digit (b % 16))) (codes_clean b (control_low b is)) in
    and_from (is_clean (hex_digit (b / 16))) (is_clean (hex_digit (b % 16)) && true) both.0 (and_from (is_clean (hex_digit (b % 16))) true both.1 refl)
escaped_by false true b is = and_from (is_clean b) true (not_control b is) refl
escaped_by false false b is = and_from (is_clean b) true (not_control b is) refl

clean_escaped : (s : List ℕ) → clean (flat_map escaped s) ≡ true
clean_escaped [] = refl
clean_escaped (b ∷ bs) = both_clean (escaped b) (flat_map escaped bs) (escaped_by (is_control b) (eqb b 34 || eqb b 92) b refl) (clean_escaped bs)

doubled_by : (t : Bool) (b : ℕ) → is_control b ≡ false → clean (cond t (39 ∷ 39 ∷ []) (b ∷ [])) ≡ true
doubled_by true b is = refl
doubled_by false b is = and_from (is_clean b) true (not_control b is) refl

clean_doubled : (s : List ℕ) → list_any is_control s ≡ false → clean (flat_map doubled s) ≡ true
clean_doubled [] none = refl
clean_doubled (b ∷ bs) none =
    let both = or_parts (is_control b) (list_any is_control bs) none in
    both_clean (doubled b) (flat_map doubled bs) (doubled_by (eqb b 39) b both.0) (clean_doubled bs both.1)

printed_by : (t u : Bool) (s : List ℕ) → is_plain s ≡ t → list_any is_control s ≡ u → clean (cond t s (cond u (in_double_quotes s) (in_single_quotes s))) ≡ true
printed_by true u s is has = let parts = plain_parts s is in clean_by is_plain_byte refl refl s parts.all
printed_by false true s is has = both_clean (flat_map escaped s) (34 ∷ []) (clean_escaped s) refl
printed_by false false s is has = both_clean (flat_map doubled s) (39 ∷ []) (clean_doubled s has) refl

clean_printed : (s : List ℕ) → clean (printed s) ≡ true
unfolding printed
clean_printed s = printed_by (is_plain s) (list_any is_control s) s refl refl

clean_integer : (z : ℤ) → has_128_bits z ≡ true → clean (signed_decimal z) ≡ true
clean_integer (pos n) fits = let lt : n < 2 ^ 127 = ltb-true n (2 ^ 127) fits in clean_by is_decimal refl refl (decimal n) (decimal_all n (wide n (omega arith)))
clean_integer (negsuc n) fits = let lt : n < 2 ^ 127 = ltb-true n (2 ^ 127) fits in clean_by is_decimal refl refl (decimal (suc n)) (decimal_all (suc n) (wide (suc n) (omega arith)))

clean_truth : (b : Bool) → clean (cond b (codes "true") (codes "false")) ≡ true
clean_truth true = refl
clean_truth false = refl

clean_on_line : (t : Shape) → integers_fit t ≡ true → clean (on_line t) ≡ true
clean_on_line nothing fit = refl
clean_on_line (truth b) fit = clean_truth b
clean_on_line (whole z) fit = clean_integer z fit
clean_on_line (text s) fit = clean_printed s
clean_on_line (list ts) fit = refl
clean_on_line (mapping ps) fit = refl

behind_by : (t : Bool) (x : List ℕ) → clean x ≡ true → clean (cond t [] (32 ∷ x)) ≡ true
behind_by true x is = refl
behind_by false x is = is

clean_behind : (t : Shape) → integers_fit t ≡ true → clean (behind t) ≡ true
clean_behind t fit = behind_by (stands_below t) (on_line t) (clean_on_line t fit)

clean_dash : (column : ℕ) (t : Shape) → integers_fit t ≡ true → clean (spaces column ++ (45 ∷ behind t)) ≡ true
clean_dash column t fit = both_clean (spaces column) (45 ∷ behind t) (clean_spaces column) (clean_behind t fit)

one_clean : (x : List ℕ) → clean x ≡ true → all_clean (x ∷ []) ≡ true
one_clean x is = and_from (clean x) true is refl

map_item_by : (t : Bool) (xs : List (List ℕ)) (x : List ℕ) → all_clean xs ≡ true → clean x ≡ true → all_clean (cond t xs (x ∷ [])) ≡ true
map_item_by true xs x a b = a
map_item_by false xs x a b = one_clean x b

mutual
  clean_pairs : (lead : List ℕ) (column : ℕ) (ps : Pairs) → clean lead ≡ true → pairs_fit ps ≡ true → all_clean (pairs_lines lead column ps) ≡ true
  clean_pairs lead column no_pairs is fit = refl
  clean_pairs lead column (pair k t ps) is fit =
      let fits = and_parts (integers_fit t) (pairs_fit ps) fit in
      and_from (clean (lead ++ (printed k ++ (58 ∷ behind t)))) (all_clean (below_key column t ++ pairs_lines (spaces column) column ps))
      (both_clean lead (printed k ++ (58 ∷ behind t)) is (both_clean (printed k) (58 ∷ behind t) (clean_printed k) (clean_behind t fits.0)))
      (both_all (below_key column t) (pairs_lines (spaces column) column ps) (clean_below column t fits.0) (clean_pairs (spaces column) column ps (clean_spaces column) fits.1))

  clean_below : (column : ℕ) (t : Shape) → integers_fit t ≡ true → all_clean (below_key column t) ≡ true
  clean_below column nothing fit = refl
  clean_below column (truth b) fit = refl
  clean_below column (whole z) fit = refl
  clean_below column (text s) fit = refl
  clean_below column (list ts) fit = clean_items column ts fit
  clean_below column (mapping ps) fit = clean_pairs (spaces (column + 2)) (column + 2) ps (clean_spaces (column + 2)) fit

  clean_items : (column : ℕ) (ts : Shapes) → items_fit ts ≡ true → all_clean (items_lines column ts) ≡ true
  clean_items column no_shapes fit = refl
  clean_items column (more t ts) fit =
      let fits = and_parts (integers_fit t) (items_fit ts) fit in
      both_all (item_lines column t) (items_lines column ts) (clean_item column t fits.0) (clean_items column ts fits.1)

  clean_item : (column : ℕ) (t : Shape) → integers_fit t ≡ true → all_clean (item_lines column t) ≡ true
  clean_item column nothing fit = one_clean (spaces column ++ (45 ∷ behind nothing)) (clean_dash column nothing fit)
  clean_item column (truth b) fit = one_clean (spaces column ++ (45 ∷ behind (truth b))) (clean_dash column (truth b) fit)
  clean_item column (whole z) fit = one_clean (spaces column ++ (45 ∷ behind (whole z))) (clean_dash column (whole z) fit)
  clean_item column (text s) fit = one_clean (spaces column ++ (45 ∷ behind (text s))) (clean_dash column (text s) fit)
  clean_item column (list ts) fit =
      and_from (clean (spaces column ++ (45 ∷ behind (list ts)))) (all_clean (items_lines (column + 2) ts)) (clean_dash column (list ts) fit) (clean_items (column + 2) ts fit)
  clean_item column (mapping ps) fit =
      map_item_by (has_pairs ps) (pairs_lines (spaces column ++ (45 ∷ 32 ∷ [])) (column + 2) ps) (spaces column ++ (45 ∷ behind (mapping ps)))
      (clean_pairs (spaces column ++ (45 ∷ 32 ∷ [])) (column + 2) ps (both_clean (spaces column) (45 ∷ 32 ∷ []) (clean_spaces column) refl) fit)
      (clean_dash column (mapping ps) fit)

pub clean_map : (ps : Pairs) → pairs_fit ps ≡ true → all_clean (pairs_lines [] 0 ps) ≡ true
clean_map ps fit = clean_pairs [] 0 ps refl fit

-- ---- the lines of such a text
cut_at : (x rest : List ℕ) → clean x ≡ true → slice_split (λ b. eqb b 10) (x ++ (10 ∷ rest)) ≡ x ∷ slice_split (λ b. eqb b 10) rest
cut_at [] rest is = slice_split-cons_yes (λ b. eqb b 10) 10 rest refl
cut_at (b ∷ bs) rest is =
    let both = and_parts (is_clean b) (clean bs) is in
    let other = not-true (eqb b 10) (and_parts (not (eqb b 10)) (not (eqb b 13)) both.0).0 in
    slice_split-cons_no (λ b. eqb b 10) b (bs ++ (10 ∷ rest)) other ∙ ap (onto_first b) (cut_at bs rest both.1)

cut_all : (ls : List (List ℕ)) → all_clean ls ≡ true → slice_split (λ b. eqb b 10) (joined ls) ≡ ls ++ ([] ∷ [])
cut_all [] is = refl
cut_all (x ∷ xs) is =
    let both = and_parts (clean x) (all_clean xs) is in
    ap (slice_split (λ b. eqb b 10)) (append_assoc x (10 ∷ []) (joined xs)) ∙ (cut_at x (joined xs) both.0 ∙ ap (λ (more : List (List ℕ)). x ∷ more) (cut_all xs both.1))

no_return : (x : List ℕ) → clean x ≡ true → eqb (get_or x (length x - 1) 0) 13 ≡ false
no_return [] is = refl
no_return (b ∷ []) is = not-true (eqb b 13) (and_parts (not (eqb b 10)) (not (eqb b 13)) (and_parts (is_clean b) true is).0).1
no_return (b ∷ c ∷ bs) is =
    let less : length (b ∷ c ∷ bs) - 1 ≡ suc (length (c ∷ bs) - 1) = omega arith in
    ap (λ (k : ℕ). eqb (get_or (b ∷ c ∷ bs) k 0) 13) less ∙ no_return (c ∷ bs) (and_parts (is_clean b) (clean (c ∷ bs)) is).1

stripped : (x : List ℕ) → clean x ≡ true → strip_carriage_return x ≡ x
stripped x is = rw (no_return x is) refl

parts_lines : (ls : List (List ℕ)) → all_clean ls ≡ true → lines_of_parts (ls ++ ([] ∷ [])) ≡ ls
parts_lines [] is = refl
parts_lines (x ∷ []) is = ap (λ (y : List ℕ). y ∷ []) (stripped x (and_parts (clean x) true is).0)
parts_lines (x ∷ y ∷ ls) is =
    let both = and_parts (clean x) (all_clean (y ∷ ls)) is in
    ap (λ (z : List ℕ). z ∷ lines_of_parts (y ∷ (ls ++ ([] ∷ [])))) (stripped x both.0) ∙ ap (λ (more : List (List ℕ)). x ∷ more) (parts_lines (y ∷ ls) both.1)

pub lines_of_text : (ls : List (List ℕ)) → all_clean ls ≡ true → lines (joined ls) ≡ ls
lines_of_text ls is = ap lines_of_parts (cut_all ls is) ∙ parts_lines ls is

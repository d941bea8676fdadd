-- The rows that a tree is printed as stand for it.
use Rattle.std.proofs.Common.{◌≡◌, ◌≢◌, ◌∙◌, ◌++◌, ◌+◌, ◌<◌, ◌≤◌, ℕ, suc, zero, List, [], ◌∷◌, Bool, true, false, not, cond, eqb, ltb, length, append_assoc, refl, sym, ap, ap₂, subst, arith, inl, inr, Option, Some, None, Ok}
use Rattle.std.specs.Prelude.{◌&&◌, bytes_eq, codes}
use Rattle.std.proofs.lemmas.Bool.{eqb-true, eq-eqb, lt-ltb, and_parts, or_parts, or_from, or_left, or_right, not-true, false_from_ne_true, false≢true}
use Rattle.std.proofs.lemmas.Bool.Decides.{not_from_Decides}
use Rattle.std.proofs.lemmas.Slice.Eq.{bytes_eq-Decides}
use Rattle.doc_tree.specs.Shape.{Shape, nothing, truth, whole, text, list, mapping, Shapes, no_shapes, more, Pairs, no_pairs, pair, is_distinct, shapes_are_distinct, pairs_are_distinct, lacks, levels, shapes_levels, pairs_levels}
use Rattle.yaml_plain.specs.Bytes.{is_same, begins, tail, at_gap, skip_spaces}
use Rattle.yaml_read.specs.Keys.{key, is_among}
use Rattle.yaml_read.specs.OnLine.{entry_on_line}
use Rattle.yaml_read.specs.Rows.{Row, rows_from, rows_of_line, is_dash}
use Rattle.yaml_read.specs.Outside.{is_outside}
use Rattle.yaml_read.specs.Reading.{is_own, own_key, own_dash, begins_deeper, begins_below_key}
use Rattle.yaml_read.specs.Standing.{HasValue, IsNode, IsMapping, IsSequence}
use Rattle.yaml_text.specs.Scalars.{printed, on_line}
use Rattle.yaml_text.specs.Layout.{spaces, behind, below_key, pairs_lines, items_lines, item_lines}
use Rattle.doc_tree.specs.Integers.{integers_fit, items_fit, pairs_fit}
use Rattle.yaml_text.proofs.ByteLaws.{apart, starts_key}
use Rattle.yaml_text.proofs.ScalarReads.{printed_key}
use Rattle.yaml_text.proofs.NumberReads.{Shown, integer_shown}
use Rattle.yaml_text.proofs.RowReads.{row_at, key_row, key_inside, dash_row, dash_inside, compact_rows, rows_append}
use Rattle.yaml_text.proofs.LineReads.{printed_first, text_shown, null_shown, truth_shown, shown_line, shown_no_key, no_line, empty_list_line, empty_map_line, empty_list_no_key, empty_map_no_key, nothing_no_key}
use Rattle.yaml_plain.specs.declared.style.Style.TheVariants.{Block}
use Rattle.doc_tree.specs.declared.limits.TheConstants.{MAX_LEVELS}

-- ---- keys that differ from those before
same_is : (a b : List ℕ) → is_same a b ≡ true → a ≡ b
same_is [] [] is = refl
same_is [] (y ∷ ys) is = absurd (false≢true is)
same_is (x ∷ xs) [] is = absurd (false≢true is)
same_is (x ∷ xs) (y ∷ ys) is =
    let both = and_parts (eqb x y) (is_same xs ys) is in
    ap₂ (λ (b : ℕ) (bs : List ℕ). b ∷ bs) (eqb-true x y both.0) (same_is xs ys both.1)

differ : (k l : List ℕ) → bytes_eq k l ≡ false → is_same l k ≡ false
differ k l is = false_from_ne_true (is_same l k) (λ e. not_from_Decides (bytes_eq k l) (bytes_eq-Decides k l) is (sym (same_is l k e)))

among_more : (l k : List ℕ) (keys : List (List ℕ)) → is_among l keys ≡ false → is_same l k ≡ false → is_among l (keys ++ k ∷ []) ≡ false
among_more l k [] none other = or_from (is_same l k) false other refl
among_more l k (m ∷ keys) none other =
    let both = or_parts (is_same l m) (is_among l keys) none in
    or_from (is_same l m) (is_among l (keys ++ k ∷ [])) both.0 (among_more l k keys both.1 other)

-- no key of the pairs is among these
Free : List (List ℕ) → Pairs → Type 0
Free keys no_pairs = Unit {0}
Free keys (pair k t ps) = (is_among k keys ≡ false) × Free keys ps

free_none : (ps : Pairs) → Free [] ps
unfolding Free
free_none no_pairs = tt
free_none (pair k t ps) = (refl, free_none ps)

free_first : (keys : List (List ℕ)) (k : List ℕ) (t : Shape) (ps : Pairs) → Free keys (pair k t ps) → is_among k keys ≡ false
unfolding Free
free_first keys k t ps free = free.0

free_rest : (keys : List (List ℕ)) (k : List ℕ) (t : Shape) (ps : Pairs) → Free keys (pair k t ps) → Free keys ps
unfolding Free
free_rest keys k t ps free = free.1

free_more : (keys : List (List ℕ)) (k : List ℕ) (ps : Pairs) → Free keys ps → lacks k ps ≡ true → Free (keys ++ k ∷ []) ps
unfolding Free
free_more keys k no_pairs free none = tt
free_more keys k (pair l t ps) free none =
    let both = and_parts (not (bytes_eq k l)) (lacks k ps) none in
    (among_more l k keys free.0 (differ k l (not-true (bytes_eq k l) both.0)), free_more keys k ps free.1 both.1)

-- ---- first rows
some_if : {A : Type 0} (t : Bool) (o : Option A) (x : A) → cond t o None ≡ Some x → t ≡ true
some_if true o x is = refl
some_if false o x is = absurd cc

key_column : (column : ℕ) (r : Row) (x : List ℕ × List ℕ) → own_key column r ≡ Some x → r.column ≡ column
unfolding own_key
key_column column r x is = eqb-true r.column column (and_parts (eqb r.column column) (not (is_outside r)) (some_if (is_own column r) (key Block r.text) x is)).0

dash_column : (column : ℕ) (r : Row) → own_dash column r ≡ true → r.column ≡ column
unfolding own_dash
dash_column column r is = eqb-true r.column column (and_parts (eqb r.column column) (not (is_outside r)) (and_parts (is_own column r) (is_dash r.text) is).0).0

-- rows of a map with a pair, and of a list with an item, begin with one at their column
map_below : (n column above : ℕ) (keys : List (List ℕ)) (rows : List Row) (k : List ℕ) (t : Shape) (ps : Pairs) → above < column → IsMapping n column keys rows (pair k t ps)
    → (begins_below_key above rows ≡ true) × (begins_deeper above rows ≡ true) × (rows ≢ [])
map_below n column above keys rows k t ps lt is =
    let r = is.0 in
    let at : r.column ≡ column = key_column column r (k, is.3) is.5 in
    let deeper : ltb above r.column ≡ true = lt-ltb above r.column (omega arith) in
    (ap (begins_below_key above) is.4 ∙ or_left (ltb above r.column) (own_dash above r) deeper, ap (begins_deeper above) is.4 ∙ deeper, λ (e : rows ≡ []). absurd (cc (e, is.4)))

map_some : (n column : ℕ) (keys : List (List ℕ)) (rows : List Row) (k : List ℕ) (t : Shape) (ps : Pairs) → IsMapping n column keys rows (pair k t ps) → rows ≢ []
map_some n column keys rows k t ps is = λ (e : rows ≡ []). absurd (cc (e, is.4))

list_below : (n column : ℕ) (rows : List Row) (t : Shape) (ts : Shapes) → IsSequence n column rows (more t ts) → (begins_below_key column rows ≡ true) × (rows ≢ [])
list_below n column rows t ts is =
    let r = is.0 in
    (ap (begins_below_key column) is.3 ∙ or_right (ltb column r.column) (own_dash column r) is.4, λ (e : rows ≡ []). absurd (cc (e, is.3)))

list_deeper : (n column above : ℕ) (rows : List Row) (t : Shape) (ts : Shapes) → above < column → IsSequence n column rows (more t ts) → (begins_deeper above rows ≡ true) × (rows ≢ [])
list_deeper n column above rows t ts lt is =
    let r = is.0 in
    let at : r.column ≡ column = dash_column column r is.4 in
    (ap (begins_deeper above) is.3 ∙ lt-ltb above r.column (omega arith), λ (e : rows ≡ []). absurd (cc (e, is.3)))

-- ---- rows that go on
own_key_is : (column : ℕ) (r : Row) (x : List ℕ × List ℕ) → r.column ≡ column → is_outside r ≡ false → key Block r.text ≡ Some x → own_key column r ≡ Some x
unfolding own_key
own_key_is column r x at inside is = rw (eq-eqb r.column column at, inside, is) refl

own_dash_is : (column : ℕ) (r : Row) → r.column ≡ column → is_outside r ≡ false → is_dash r.text ≡ true → own_dash column r ≡ true
unfolding own_dash
own_dash_is column r at inside is = rw (eq-eqb r.column column at, inside, is) refl

pub gap_behind : (t : Shape) → at_gap (behind t) ≡ true
gap_behind nothing = refl
gap_behind (truth b) = refl
gap_behind (whole z) = refl
gap_behind (text s) = refl
gap_behind (list no_shapes) = refl
gap_behind (list (more t ts)) = refl
gap_behind (mapping no_pairs) = refl
gap_behind (mapping (pair k t ps)) = refl

-- a value on its line
abbrev OnItsLine : ℕ → Shape → Type 0
OnItsLine n t = entry_on_line n (behind t) ≡ Ok (Some t)

line_of_scalar : (m : ℕ) (x : List ℕ) (t : Shape) → Shown x t → entry_on_line (suc m) (32 ∷ x) ≡ Ok (Some t)
line_of_scalar m x t s = shown_line m x t s

one_level : (t : Shape) → 1 ≤ levels t
one_level nothing = omega arith
one_level (truth b) = omega arith
one_level (whole z) = omega arith
one_level (text s) = omega arith
one_level (list ts) = omega arith
one_level (mapping ps) = omega arith

-- what a value needs, and the pairs and the items
record Good (t : Shape) : Type 0 where
  pub distinct : is_distinct t ≡ true
  pub fit : integers_fit t ≡ true

record GoodPairs (ps : Pairs) : Type 0 where
  pub distinct : pairs_are_distinct ps ≡ true
  pub fit : pairs_fit ps ≡ true

record GoodItems (ts : Shapes) : Type 0 where
  pub distinct : shapes_are_distinct ts ≡ true
  pub fit : items_fit ts ≡ true

good_pair : (k : List ℕ) (t : Shape) (ps : Pairs) → GoodPairs (pair k t ps) → (lacks k ps ≡ true) × Good t × GoodPairs ps
good_pair k t ps good =
    let d = and_parts (lacks k ps && is_distinct t) (pairs_are_distinct ps) good.distinct in
    let e = and_parts (lacks k ps) (is_distinct t) d.0 in
    let f = and_parts (integers_fit t) (pairs_fit ps) good.fit in
    (e.0, record { distinct = e.1; fit = f.0 }, record { distinct = d.1; fit = f.1 })

good_item : (t : Shape) (ts : Shapes) → GoodItems (more t ts) → Good t × GoodItems ts
good_item t ts good =
    let d = and_parts (is_distinct t) (shapes_are_distinct ts) good.distinct in
    let f = and_parts (integers_fit t) (items_fit ts) good.fit in
    (record { distinct = d.0; fit = f.0 }, record { distinct = d.1; fit = f.1 })

-- ---- the rows of a pair's line
abbrev pair_line : ℕ → List ℕ → Shape → List ℕ
pair_line column k t = spaces column ++ (printed k ++ (58 ∷ behind t))

no_dash : (c b : ℕ) (bs : List ℕ) → eqb b 45 ≡ false → begins 45 (spaces c ++ (b ∷ bs)) ≡ false
no_dash zero b bs is = is
no_dash (suc c) b bs is = refl

pub row_of_pair : (num column : ℕ) (k : List ℕ) (t : Shape)
    → (r : Row) × (rows_of_line num (pair_line column k t) ≡ r ∷ []) × (own_key column r ≡ Some (k, behind t)) × (begins 45 r.line ≡ false)
row_of_pair num column k t =
    let first = printed_first k in
    let at : printed k ++ (58 ∷ behind t) ≡ first.first ∷ (first.others ++ (58 ∷ behind t)) = ap (λ (x : List ℕ). x ++ (58 ∷ behind t)) first.is in
    let r = row_at num column (first.first ∷ (first.others ++ (58 ∷ behind t))) (spaces column ++ (first.first ∷ (first.others ++ (58 ∷ behind t)))) in (
      r,
      ap (λ (x : List ℕ). rows_of_line num (spaces column ++ x)) at ∙ key_row num column first.first (first.others ++ (58 ∷ behind t)) first.start,
      own_key_is column r (k, behind t) refl (key_inside num column column first.first (first.others ++ (58 ∷ behind t)) r.text first.start) (ap (key Block) (sym at) ∙ printed_key k (behind t) (gap_behind t)),
      no_dash column first.first (first.others ++ (58 ∷ behind t)) (apart starts_key first.first 45 first.start refl),
    )

-- the same behind a dash
abbrev compact_line : ℕ → List ℕ → Shape → List ℕ
compact_line column k t = (spaces column ++ (45 ∷ 32 ∷ [])) ++ (printed k ++ (58 ∷ behind t))

rows_of_compact : (num column : ℕ) (k : List ℕ) (t : Shape)
    → (lone : Row) × (r : Row) × (rows_of_line num (compact_line column k t) ≡ lone ∷ r ∷ []) × (own_dash column lone ≡ true) × (own_key (column + 2) r ≡ Some (k, behind t)) × (lone.text ≡ 45 ∷ [])
rows_of_compact num column k t =
    let first = printed_first k in
    let rest = first.others ++ (58 ∷ behind t) in
    let at : printed k ++ (58 ∷ behind t) ≡ first.first ∷ rest = ap (λ (x : List ℕ). x ++ (58 ∷ behind t)) first.is in
    let is : key Block (first.first ∷ rest) ≡ Some (k, behind t) = ap (key Block) (sym at) ∙ printed_key k (behind t) (gap_behind t) in
    let line = spaces column ++ (45 ∷ 32 ∷ first.first ∷ rest) in
    let same : compact_line column k t ≡ line = append_assoc (spaces column) (45 ∷ 32 ∷ []) (printed k ++ (58 ∷ behind t)) ∙ ap (λ (x : List ℕ). spaces column ++ (45 ∷ 32 ∷ x)) at in
    let lone = row_at num column (45 ∷ []) line in
    let r = row_at num (column + 2) (first.first ∷ rest) line in (
      lone,
      r,
      ap (rows_of_line num) same ∙ compact_rows num column first.first rest (k, behind t) first.start is,
      own_dash_is column lone refl (dash_inside num column column (32 ∷ first.first ∷ rest) (45 ∷ []) refl) refl,
      own_key_is (column + 2) r (k, behind t) refl (dash_inside num column (column + 2) (32 ∷ first.first ∷ rest) (first.first ∷ rest) refl) is,
      refl,
    )

-- an item's rows: its first, and those of its value
abbrev ItemStands : ℕ → ℕ → ℕ → Shape → Type 0
ItemStands n num column t =
    (r : Row) × (body : List Row) × (rows_from num (item_lines column t) ≡ r ∷ body) × (own_dash column r ≡ true)
    × HasValue n (tail r.text) (begins_deeper column body) body t (IsNode n body t)

scalar_item : (n num column : ℕ) (t : Shape) → item_lines column t ≡ (spaces column ++ (45 ∷ behind t)) ∷ [] → entry_on_line n (behind t) ≡ Ok (Some t) → key Block (skip_spaces (behind t)) ≡ None → ItemStands n num column t
scalar_item n num column t lines value no_key =
    let r = row_at num column (45 ∷ behind t) (spaces column ++ (45 ∷ behind t)) in (
      r,
      [],
      ap (rows_from num) lines ∙ ap (λ (rows : List Row). rows ++ []) (dash_row num column (behind t) no_key),
      own_dash_is column r refl (dash_inside num column column (behind t) (45 ∷ behind t) (gap_behind t)) (gap_behind t),
      inl (value, refl),
    )

-- a scalar stands on its line, where there is a level for it
line_at : (n : ℕ) (x : List ℕ) (t : Shape) → 1 ≤ n → Shown x t → entry_on_line n (32 ∷ x) ≡ Ok (Some t)
line_at zero x t le s = absurd (omega arith)
line_at (suc m) x t le s = shown_line m x t s

-- ---- a pair, from its value and the pairs behind it
pair_from : (n num column : ℕ) (keys : List (List ℕ)) (r : Row) (k : List ℕ) (t : Shape) (ps : Pairs) → own_key column r ≡ Some (k, behind t) → is_among k keys ≡ false
    → HasValue n (behind t) (begins_below_key column (rows_from num (below_key column t))) (rows_from num (below_key column t)) t (IsNode n (rows_from num (below_key column t)) t)
    → IsMapping n column (keys ++ k ∷ []) (rows_from (num + length (below_key column t)) (pairs_lines (spaces column) column ps)) ps
    → IsMapping n column keys (r ∷ rows_from num (below_key column t ++ pairs_lines (spaces column) column ps)) (pair k t ps)
pair_from n num column keys r k t ps is free value rest = (
  r,
  rows_from num (below_key column t),
  rows_from (num + length (below_key column t)) (pairs_lines (spaces column) column ps),
  behind t,
  ap (λ (rows : List Row). r ∷ rows) (rows_append num (below_key column t) (pairs_lines (spaces column) column ps)),
  is,
  free,
  value,
  rest,
)

-- the row behind a dash that begins a map, and what stands with it
compact_row : ℕ → ℕ → Pairs → Row
compact_row num column no_pairs = row_at num column [] []
compact_row num column (pair k t ps) = (rows_of_compact num column k t).1

abbrev FirstRow : ℕ → Row → Pairs → Type 0
FirstRow column r no_pairs = Unit {0}
FirstRow column r (pair k t ps) = own_key column r ≡ Some (k, behind t)

compact_first : (num column : ℕ) (ps : Pairs) → FirstRow (column + 2) (compact_row num column ps) ps
unfolding compact_row
compact_first num column no_pairs = tt
compact_first num column (pair k t ps) = (rows_of_compact num column k t).4

abbrev StandsWith : ℕ → ℕ → ℕ → Row → Pairs → Type 0
StandsWith n num column r no_pairs = Unit {0}
StandsWith n num column r (pair k t ps) = IsMapping n column [] (r ∷ rows_from num (below_key column t ++ pairs_lines (spaces column) column ps)) (pair k t ps)

-- ---- lists and maps as values and as items, from how their entries stand
list_value : (n num column : ℕ) (ts : Shapes) → suc (shapes_levels ts) ≤ n → ((m : ℕ) → shapes_levels ts ≤ m → IsSequence m column (rows_from num (items_lines column ts)) ts)
    → HasValue n (behind (list ts)) (begins_below_key column (rows_from num (items_lines column ts))) (rows_from num (items_lines column ts)) (list ts) (IsNode n (rows_from num (items_lines column ts)) (list ts))
list_value zero num column ts le stand = absurd (omega arith)
list_value (suc m) num column no_shapes le stand = inl (empty_list_line m, refl)
list_value (suc m) num column (more t ts) le stand =
    let s = stand m (omega arith) in
    let below = list_below m column (rows_from num (items_lines column (more t ts))) t ts s in
    inr (inl (no_line m, below.0, (column, m, refl, below.1, s)))

map_value : (n num column : ℕ) (ps : Pairs) → suc (pairs_levels ps) ≤ n → ((m : ℕ) → pairs_levels ps ≤ m → IsMapping m (column + 2) [] (rows_from num (pairs_lines (spaces (column + 2)) (column + 2) ps)) ps)
    → HasValue n (behind (mapping ps)) (begins_below_key column (rows_from num (pairs_lines (spaces (column + 2)) (column + 2) ps))) (rows_from num (pairs_lines (spaces (column + 2)) (column + 2) ps)) (mapping ps) (IsNode n (rows_from num (pairs_lines (spaces (column + 2)) (column + 2) ps)) (mapping ps))
map_value zero num column ps le stand = absurd (omega arith)
map_value (suc m) num column no_pairs le stand = inl (empty_map_line m, refl)
map_value (suc m) num column (pair k t ps) le stand =
    let s = stand m (omega arith) in
    let below = map_below m (column + 2) column [] (rows_from num (pairs_lines (spaces (column + 2)) (column + 2) (pair k t ps))) k t ps (omega arith) s in
    inr (inl (no_line m, below.0, (column + 2, m, refl, below.2, s)))

list_item : (n num column : ℕ) (ts : Shapes) → suc (shapes_levels ts) ≤ n → ((m : ℕ) → shapes_levels ts ≤ m → IsSequence m (column + 2) (rows_from (num + 1) (items_lines (column + 2) ts)) ts) → ItemStands n num column (list ts)
list_item zero num column ts le stand = absurd (omega arith)
list_item (suc m) num column no_shapes le stand = scalar_item (suc m) num column (list no_shapes) refl (empty_list_line m) empty_list_no_key
list_item (suc m) num column (more t ts) le stand =
    let s = stand m (omega arith) in
    let below = list_deeper m (column + 2) column (rows_from (num + 1) (items_lines (column + 2) (more t ts))) t ts (omega arith) s in
    let r = row_at num column (45 ∷ []) (spaces column ++ (45 ∷ [])) in (
      r,
      rows_from (num + 1) (items_lines (column + 2) (more t ts)),
      ap (λ (rows : List Row). rows ++ rows_from (num + 1) (items_lines (column + 2) (more t ts))) (dash_row num column [] nothing_no_key),
      own_dash_is column r refl (dash_inside num column column [] (45 ∷ []) refl) refl,
      inr (inl (no_line m, below.0, (column + 2, m, refl, below.1, s))),
    )

map_item : (n num column : ℕ) (ps : Pairs) → suc (pairs_levels ps) ≤ n → ((m : ℕ) → pairs_levels ps ≤ m → StandsWith m (num + 1) (column + 2) (compact_row num column ps) ps) → ItemStands n num column (mapping ps)
unfolding compact_row
map_item zero num column ps le stand = absurd (omega arith)
map_item (suc m) num column no_pairs le stand = scalar_item (suc m) num column (mapping no_pairs) refl (empty_map_line m) empty_map_no_key
map_item (suc m) num column (pair k t ps) le stand =
    let s = stand m (omega arith) in
    let rows = rows_of_compact num column k t in
    let body = rows.1 ∷ rows_from (num + 1) (below_key (column + 2) t ++ pairs_lines (spaces (column + 2)) (column + 2) ps) in
    let below = map_below m (column + 2) column [] body k t ps (omega arith) s in
    let text : entry_on_line (suc m) (tail rows.0.text) ≡ Ok None = ap (λ (x : List ℕ). entry_on_line (suc m) (tail x)) rows.5 ∙ no_line m in (
      rows.0,
      body,
      ap (λ (front : List Row). front ++ rows_from (num + 1) (below_key (column + 2) t ++ pairs_lines (spaces (column + 2)) (column + 2) ps)) rows.2,
      rows.3,
      inr (inl (text, below.1, (column + 2, m, refl, below.2, s))),
    )

-- ---- all values, pairs and items, whatever the number of the first line
mutual
  value_below : (n num column : ℕ) (t : Shape) → Good t → levels t ≤ n
      → HasValue n (behind t) (begins_below_key column (rows_from num (below_key column t))) (rows_from num (below_key column t)) t (IsNode n (rows_from num (below_key column t)) t)
  value_below n num column nothing good le = inl (line_at n (codes "null") nothing le null_shown, refl)
  value_below n num column (truth b) good le = inl (line_at n (cond b (codes "true") (codes "false")) (truth b) le (truth_shown b), refl)
  value_below n num column (whole z) good le = inl (line_at n (on_line (whole z)) (whole z) le (integer_shown z good.fit), refl)
  value_below n num column (text s) good le = inl (line_at n (printed s) (text s) le (text_shown s), refl)
  value_below n num column (list ts) good le = list_value n num column ts le (λ m less. items_stand m num column ts (record { distinct = good.distinct; fit = good.fit }) less)
  value_below n num column (mapping ps) good le = map_value n num column ps le (λ m less. pairs_stand m num (column + 2) [] ps (record { distinct = good.distinct; fit = good.fit }) (free_none ps) less)

  pairs_stand : (n num column : ℕ) (keys : List (List ℕ)) (ps : Pairs) → GoodPairs ps → Free keys ps → pairs_levels ps ≤ n
      → IsMapping n column keys (rows_from num (pairs_lines (spaces column) column ps)) ps
  pairs_stand n num column keys no_pairs good free le = refl
  pairs_stand n num column keys (pair k t ps) good free le =
      let parts = good_pair k t ps good in
      let row = row_of_pair num column k t in
      subst (λ (rows : List Row). IsMapping n column keys (rows ++ rows_from (num + 1) (below_key column t ++ pairs_lines (spaces column) column ps)) (pair k t ps)) (sym row.1)
      (pair_from n (num + 1) column keys row.0 k t ps row.2 (free_first keys k t ps free) (value_below n (num + 1) column t parts.1 (omega arith))
      (pairs_stand n ((num + 1) + length (below_key column t)) column (keys ++ k ∷ []) ps parts.2 (free_more keys k ps (free_rest keys k t ps free) parts.0) (omega arith)))

  first_stands : (n num column : ℕ) (r : Row) (ps : Pairs) → FirstRow column r ps → GoodPairs ps → pairs_levels ps ≤ n → StandsWith n num column r ps
  first_stands n num column r no_pairs is good le = tt
  first_stands n num column r (pair k t ps) is good le =
      let parts = good_pair k t ps good in
      pair_from n num column [] r k t ps is refl (value_below n num column t parts.1 (omega arith))
      (pairs_stand n (num + length (below_key column t)) column (k ∷ []) ps parts.2 (free_more [] k ps (free_none ps) parts.0) (omega arith))

  items_stand : (n num column : ℕ) (ts : Shapes) → GoodItems ts → shapes_levels ts ≤ n → IsSequence n column (rows_from num (items_lines column ts)) ts
  items_stand n num column no_shapes good le = refl
  items_stand n num column (more t ts) good le =
      let parts = good_item t ts good in
      let item = item_stands n num column t parts.0 (omega arith) in (
        item.0,
        item.1,
        rows_from (num + length (item_lines column t)) (items_lines column ts),
        rows_append num (item_lines column t) (items_lines column ts) ∙ ap (λ (rows : List Row). rows ++ rows_from (num + length (item_lines column t)) (items_lines column ts)) item.2,
        item.3,
        item.4,
        items_stand n (num + length (item_lines column t)) column ts parts.1 (omega arith),
      )

  item_stands : (n num column : ℕ) (t : Shape) → Good t → levels t ≤ n → ItemStands n num column t
  item_stands n num column nothing good le = scalar_item n num column nothing refl (line_at n (codes "null") nothing le null_shown) (shown_no_key (codes "null") nothing null_shown)
  item_stands n num column (truth b) good le =
      let s = truth_shown b in
      scalar_item n num column (truth b) refl (line_at n (cond b (codes "true") (codes "false")) (truth b) le s) (shown_no_key (cond b (codes "true") (codes "false")) (truth b) s)
  item_stands n num column (whole z) good le =
      let s = integer_shown z good.fit in
      scalar_item n num column (whole z) refl (line_at n (on_line (whole z)) (whole z) le s) (shown_no_key (on_line (whole z)) (whole z) s)
  item_stands n num column (text s) good le = scalar_item n num column (text s) refl (line_at n (printed s) (text s) le (text_shown s)) (shown_no_key (printed s) (text s) (text_shown s))
  item_stands n num column (list ts) good le = list_item n num column ts le (λ m less. items_stand m (num + 1) (column + 2) ts (record { distinct = good.distinct; fit = good.fit }) less)
  item_stands n num column (mapping ps) good le =
      map_item n num column ps le (λ m less. first_stands m (num + 1) (column + 2) (compact_row num column ps) ps (compact_first num column ps) (record { distinct = good.distinct; fit = good.fit }) less)

-- a printed map with a pair stands for itself
pub map_stands : (k : List ℕ) (t : Shape) (ps : Pairs) → pairs_are_distinct (pair k t ps) ≡ true → pairs_fit (pair k t ps) ≡ true → levels (mapping (pair k t ps)) ≤ MAX_LEVELS
    → IsNode MAX_LEVELS (rows_from 1 (pairs_lines [] 0 (pair k t ps))) (mapping (pair k t ps))
map_stands k t ps distinct fit le =
    let s = pairs_stand 31 1 0 [] (pair k t ps) (record { distinct = distinct; fit = fit }) (free_none (pair k t ps)) (omega arith) in
    let below = map_some 31 0 [] (rows_from 1 (pairs_lines [] 0 (pair k t ps))) k t ps s in
    (0, 31, refl, below, s)

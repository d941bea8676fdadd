-- What a text is read as is distinct, has no more levels than it may, and short lists.
use Rattle.std.proofs.Common.{◌≡◌, ℕ, zero, suc, ◌+◌, ◌*◌, ◌<◌, ◌≤◌, ◌^◌, Bool, true, false, cond, ltb, List, [], ◌∷◌, ◌++◌, length, Option, Some, None, Result, Ok, Err, refl, ap, subst, arith, length-append}
use Rattle.std.specs.Str.Lines.{lines}
use Rattle.std.specs.Str.Lossy.{utf8_valid_len}
use Rattle.std.proofs.lemmas.Bool.{ltb-false}
use Rattle.doc_tree.specs.Shape.{Shape, nothing, list, mapping, shapes_of, pairs_of}
use Rattle.yaml_read.specs.declared.stop.Why.{Why}
use Rattle.yaml_read.specs.declared.stop.Why.TheVariants.{Repeated}
use Rattle.yaml_read.specs.declared.fault.YamlFault.TheVariants.{TooLarge, NotUtf8}
use Rattle.yaml_plain.specs.Bytes.{tail, is_same}
use Rattle.yaml_read.specs.Keys.{◌>>=◌, is_among}
use Rattle.yaml_read.specs.OnLine.{is_blank, entry_on_line}
use Rattle.yaml_read.specs.Rows.{Row, is_dash, row, begins_compact, rows_of_row, rows_of_line, rows_from, without_start, rows_of}
use Rattle.yaml_read.specs.Faults.{fault_of}
use Rattle.yaml_read.specs.Reading.{at_row, begin_with, is_deeper, is_below_key, first_pair, first_item, below, value_or_below, value_of, pairs_step, pairs, items_step, items, some_pairs, some_items, node, document, all_rows, reading}
use Rattle.yaml_read.proofs.Fronts.{one_more}
use Rattle.yaml_read.proofs.LineLaws.{lines_count}
use Rattle.yaml_read.proofs.Sound.{FirstPair, FirstItem, ok_is, bind_ok, passed, pair_is, item_is, value_sound, node_sound}
use Rattle.yaml_read.proofs.Kept.{Kept, AllKept, PairsKept, Kept-nothing, AllKept-none, AllKept-more, Kept-list, PairsKept-none, PairsKept-more, Kept-map}
use Rattle.yaml_read.proofs.KeptLine.{entry_kept, entry_level}
use Rattle.doc_tree.specs.declared.limits.TheConstants.{MAX_BYTES, MAX_LEVELS}

module _ (n : ℕ) (node_kept : (rows : List Row) (y : Shape × List Row) → 0 < n → length rows + 1 < 2 ^ 31 → node n rows ≡ Ok y → Kept n y.0) where
  below_kept : (b : Bool) (rows : List Row) (y : Shape × List Row) → 0 < n → length rows + 1 < 2 ^ 31 → below n (node n) b rows ≡ Ok y → Kept n y.0
  below_kept true rows y some few e = node_kept rows y some few e
  below_kept false rows y some few e = subst (λ (x : Shape × List Row). Kept n x.0) (ok_is (nothing, rows) y e) (Kept-nothing n some)

  line_kept : (r : Row) (line : List ℕ) (follows : Bool) (rows : List Row) (y : Shape × List Row) → length rows + 1 < 2 ^ 31
      → (o : Result (Option Shape) Why) → entry_on_line n line ≡ o → (at_row r o >>= value_or_below n (node n) follows rows) ≡ Ok y → Kept n y.0
  line_kept r line follows rows y few (Ok (Some t)) at e = subst (λ (x : Shape × List Row). Kept n x.0) (ok_is (t, rows) y e) (entry_kept n line t at)
  line_kept r line follows rows y few (Ok None) at e = below_kept follows rows y (entry_level n line None at) few e
  line_kept r line follows rows y few (Err w) at e = absurd cc

  value_kept : (r : Row) (line : List ℕ) (follows : Bool) (rows : List Row) (y : Shape × List Row) → length rows + 1 < 2 ^ 31 → value_of n (node n) r line follows rows ≡ Ok y → Kept n y.0
  unfolding value_of
  value_kept r line follows rows y few e = line_kept r line follows rows y few (entry_on_line n line) refl e

  shorter : (test : Row → Bool) (r : Row) (line : List ℕ) (rows : List Row) (y : Shape × List Row) → value_of n (node n) r line (begin_with test rows) rows ≡ Ok y → length y.1 ≤ length rows
  shorter test r line rows y e =
      let v = value_sound n (node n) (node_sound n) test r line rows y e in
      omega (arith, ap length v.1, length-append v.0 y.1)

  abbrev PairsRead : Type 0
  PairsRead = List (List ℕ × Shape) × List Row

  pair_kept : (c turns : ℕ) (keys : List (List ℕ)) (rows : List Row) → length rows + 1 < 2 ^ 31
      → ((keys : List (List ℕ)) (rows : List Row) (x : PairsRead) → length rows + 1 < 2 ^ 31 → pairs n (node n) turns c keys rows ≡ Ok x → PairsKept n keys x.0)
      → (x : PairsRead) (o : Option FirstPair) → first_pair c rows ≡ o → pairs_step n (node n) (pairs n (node n) turns c) c keys rows o ≡ Ok x → PairsKept n keys x.0
  pair_kept c turns keys rows few ih x None at e = subst (λ (y : PairsRead). PairsKept n keys y.0) (ok_is ([], rows) x e) (PairsKept-none n keys)
  pair_kept c turns keys rows few ih x (Some f) at e =
      let first = (pair_is c rows f at).0 in
      let behind : length f.2 + 1 < 2 ^ 31 = omega (arith, ap length first) in
      let p = passed (is_among f.0.0 keys) (fault_of Repeated f.1) (value_of n (node n) f.1 f.0.1 (begin_with (is_below_key c) f.2) f.2 >>= (λ v. one_more (f.0.0, v.0) (pairs n (node n) turns c (keys ++ f.0.0 ∷ []) v.1))) x e in
      let v = bind_ok (value_of n (node n) f.1 f.0.1 (begin_with (is_below_key c) f.2) f.2) (λ v. one_more (f.0.0, v.0) (pairs n (node n) turns c (keys ++ f.0.0 ∷ []) v.1)) x p.1 in
      let m = bind_ok (pairs n (node n) turns c (keys ++ f.0.0 ∷ []) v.0.1) (λ more. Ok ((f.0.0, v.0.0) ∷ more.0, more.1)) x v.2 in
      let made : PairsRead = ((f.0.0, v.0.0) ∷ m.0.0, m.0.1) in
      let left = shorter (is_below_key c) f.1 f.0.1 f.2 v.0 v.1 in
      subst (λ (y : PairsRead). PairsKept n keys y.0) (ok_is made x m.2)
      (PairsKept-more n keys f.0.0 v.0.0 m.0.0 p.0 (value_kept f.1 f.0.1 (begin_with (is_below_key c) f.2) f.2 v.0 behind v.1) (ih (keys ++ f.0.0 ∷ []) v.0.1 m.0 (omega (arith, left)) m.1))

  pairs_kept : (turns c : ℕ) (keys : List (List ℕ)) (rows : List Row) (x : PairsRead) → length rows + 1 < 2 ^ 31 → pairs n (node n) turns c keys rows ≡ Ok x → PairsKept n keys x.0
  unfolding pairs
  pairs_kept zero c keys rows x few e = subst (λ (y : PairsRead). PairsKept n keys y.0) (ok_is ([], rows) x e) (PairsKept-none n keys)
  pairs_kept (suc turns) c keys rows x few e = pair_kept c turns keys rows few (pairs_kept turns c) x (first_pair c rows) refl e

  abbrev ItemsRead : Type 0
  ItemsRead = List Shape × List Row

  item_kept : (c turns : ℕ) (rows : List Row) → length rows + 1 < 2 ^ 31
      → ((rows : List Row) (x : ItemsRead) → length rows + 1 < 2 ^ 31 → items n (node n) turns c rows ≡ Ok x → AllKept n turns x.0)
      → (x : ItemsRead) (o : Option FirstItem) → first_item c rows ≡ o → items_step n (node n) (items n (node n) turns c) c rows o ≡ Ok x → AllKept n (suc turns) x.0
  item_kept c turns rows few ih x None at e = subst (λ (y : ItemsRead). AllKept n (suc turns) y.0) (ok_is ([], rows) x e) (AllKept-none n (suc turns))
  item_kept c turns rows few ih x (Some f) at e =
      let first = (item_is c rows f at).0 in
      let behind : length f.1 + 1 < 2 ^ 31 = omega (arith, ap length first) in
      let v = bind_ok (value_of n (node n) f.0 (tail f.0.text) (begin_with (is_deeper c) f.1) f.1) (λ v. one_more v.0 (items n (node n) turns c v.1)) x e in
      let m = bind_ok (items n (node n) turns c v.0.1) (λ more. Ok (v.0.0 ∷ more.0, more.1)) x v.2 in
      let made : ItemsRead = (v.0.0 ∷ m.0.0, m.0.1) in
      let left = shorter (is_deeper c) f.0 (tail f.0.text) f.1 v.0 v.1 in
      subst (λ (y : ItemsRead). AllKept n (suc turns) y.0) (ok_is made x m.2)
      (AllKept-more n turns v.0.0 m.0.0 (value_kept f.0 (tail f.0.text) (begin_with (is_deeper c) f.1) f.1 v.0 behind v.1) (ih v.0.1 m.0 (omega (arith, left)) m.1))

  items_kept : (turns c : ℕ) (rows : List Row) (x : ItemsRead) → length rows + 1 < 2 ^ 31 → items n (node n) turns c rows ≡ Ok x → AllKept n turns x.0
  unfolding items
  items_kept zero c rows x few e = subst (λ (y : ItemsRead). AllKept n zero y.0) (ok_is ([], rows) x e) (AllKept-none n zero)
  items_kept (suc turns) c rows x few e = item_kept c turns rows few (items_kept turns c) x (first_item c rows) refl e

some_pairs_kept : (n : ℕ) (r : Row) (ps : List (List ℕ × Shape)) (rest : List Row) (y : Shape × List Row) → PairsKept n [] ps → some_pairs r ps rest ≡ Ok y → Kept (suc n) y.0
some_pairs_kept n r [] rest y all e = absurd cc
some_pairs_kept n r (p ∷ ps) rest y all e = subst (λ (x : Shape × List Row). Kept (suc n) x.0) (ok_is (mapping (pairs_of (p ∷ ps)), rest) y e) (Kept-map n [] (p ∷ ps) all)

some_items_kept : (n count : ℕ) (r : Row) (ts : List Shape) (rest : List Row) (y : Shape × List Row) → count < 2 ^ 31 → AllKept n count ts → some_items r ts rest ≡ Ok y → Kept (suc n) y.0
some_items_kept n count r [] rest y few all e = absurd cc
some_items_kept n count r (t ∷ ts) rest y few all e = subst (λ (x : Shape × List Row). Kept (suc n) x.0) (ok_is (list (shapes_of (t ∷ ts)), rest) y e) (Kept-list n count (t ∷ ts) few all)

node_cases : (n : ℕ) → ((rows : List Row) (y : Shape × List Row) → 0 < n → length rows + 1 < 2 ^ 31 → node n rows ≡ Ok y → Kept n y.0)
    → (r : Row) (rows : List Row) (y : Shape × List Row) → length (r ∷ rows) + 1 < 2 ^ 31 → (b : Bool)
    → cond b (items n (node n) (length (r ∷ rows) + 1) r.column (r ∷ rows) >>= (λ x. some_items r x.0 x.1))
    (pairs n (node n) (length (r ∷ rows) + 1) r.column [] (r ∷ rows) >>= (λ x. some_pairs r x.0 x.1)) ≡ Ok y → Kept (suc n) y.0
node_cases n kept r rows y few true e =
    let b = bind_ok (items n (node n) (length (r ∷ rows) + 1) r.column (r ∷ rows)) (λ x. some_items r x.0 x.1) y e in
    some_items_kept n (length (r ∷ rows) + 1) r b.0.0 b.0.1 y few (items_kept n kept (length (r ∷ rows) + 1) r.column (r ∷ rows) b.0 few b.1) b.2
node_cases n kept r rows y few false e =
    let b = bind_ok (pairs n (node n) (length (r ∷ rows) + 1) r.column [] (r ∷ rows)) (λ x. some_pairs r x.0 x.1) y e in
    some_pairs_kept n r b.0.0 b.0.1 y (pairs_kept n kept (length (r ∷ rows) + 1) r.column [] (r ∷ rows) b.0 few b.1) b.2

node_kept : (n : ℕ) (rows : List Row) (y : Shape × List Row) → 0 < n → length rows + 1 < 2 ^ 31 → node n rows ≡ Ok y → Kept n y.0
unfolding node
node_kept n [] y some few e = subst (λ (x : Shape × List Row). Kept n x.0) (ok_is (nothing, []) y e) (Kept-nothing n some)
node_kept zero (r ∷ rows) y some few e = absurd (omega arith)
node_kept (suc n) (r ∷ rows) y some few e = node_cases n (node_kept n) r rows y few (is_dash r.text) e

whole_kept : (t : Shape) (rows : List Row) (u : Shape) → Kept MAX_LEVELS t → all_rows t rows ≡ Ok u → Kept MAX_LEVELS u
whole_kept t [] u kept e = subst (Kept MAX_LEVELS) (ok_is t u e) kept
whole_kept t (r ∷ rows) u kept e = absurd cc

pub document_kept : (rows : List Row) (t : Shape) → length rows + 1 < 2 ^ 31 → document rows ≡ Ok t → Kept MAX_LEVELS t
unfolding document
document_kept rows t few e =
    let b = bind_ok (node MAX_LEVELS rows) (λ x. all_rows x.0 x.1) t e in
    whole_kept b.0.0 b.0.1 t (node_kept MAX_LEVELS rows b.0 (omega arith) few b.1) b.2

-- ---- how many rows a text has
row_count : (b : Bool) (d k r : Row) → length (cond {A = List Row} b (d ∷ k ∷ []) (r ∷ [])) ≤ 2
row_count true d k r = omega arith
row_count false d k r = omega arith

blank_count : (b : Bool) (rows : List Row) → length rows ≤ 2 → length (cond {A = List Row} b [] rows) ≤ 2
blank_count true rows le = omega arith
blank_count false rows le = le

line_count : (n : ℕ) (line : List ℕ) → length (rows_of_line n line) ≤ 2
unfolding rows_of_line
line_count n line = blank_count (is_blank line) (rows_of_row (row n line)) (row_count (begins_compact (row n line)) _ _ (row n line))

from_count : (n : ℕ) (ls : List (List ℕ)) → length (rows_from n ls) ≤ 2 * length ls
from_count n [] = omega arith
from_count n (line ∷ ls) = omega (arith, line_count n line, from_count (n + 1) ls, length-append (rows_of_line n line) (rows_from (n + 1) ls))

either_count : (b : Bool) (r : Row) (rows : List Row) → length (cond b rows (r ∷ rows)) ≤ length (r ∷ rows)
either_count true r rows = omega arith
either_count false r rows = omega arith

start_count : (rows : List Row) → length (without_start rows) ≤ length rows
start_count [] = omega arith
start_count (r ∷ rows) = either_count (is_same r.line (45 ∷ 45 ∷ 45 ∷ [])) r rows

rows_count : (bytes : List ℕ) → length (rows_of bytes) ≤ 2 * (length bytes + 1)
unfolding rows_of
rows_count bytes = omega (arith, start_count (rows_from 1 (lines bytes)), from_count 1 (lines bytes), lines_count bytes)

kept_cases : (bytes : List ℕ) (t : Shape) (a b : Bool) (n : ℕ) → ltb MAX_BYTES (length bytes) ≡ a → cond a (Err TooLarge) (cond b (Err (NotUtf8 n)) (document (rows_of bytes))) ≡ Ok t → Kept MAX_LEVELS t
kept_cases bytes t true b n at e = absurd cc
kept_cases bytes t false true n at e = absurd cc
kept_cases bytes t false false n at e = document_kept (rows_of bytes) t (omega (arith, ltb-false MAX_BYTES (length bytes) at, rows_count bytes)) e

pub reading_kept : (bytes : List ℕ) (t : Shape) → reading bytes ≡ Ok t → Kept MAX_LEVELS t
unfolding reading
reading_kept bytes t e = kept_cases bytes t (ltb MAX_BYTES (length bytes)) (ltb (utf8_valid_len bytes) (length bytes)) (utf8_valid_len bytes) refl e

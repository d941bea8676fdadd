-- One turn of the reading of rows.
use Rattle.std.proofs.Common.{◌≡◌, ◌∙◌, ◌++◌, ◌∷◌, ◌-◌, ◌<◌, ◌≤◌, ◌+◌, ℕ, suc, length, get_or, drop, [], List, true, false, Option, Some, None, Ok, Err, refl, sym, ap, arith}
use Rattle.std.proofs.lemmas.List.{length-map}
use Rattle.doc_tree.specs.Shape.{Shape, nothing}
use Rattle.yaml_read.specs.declared.rows.Row as code
use Rattle.yaml_read.specs.declared.stop.Why.TheVariants.{Repeated, Deep}
use Rattle.yaml_read.specs.declared.fault.YamlFault.{YamlFault}
use Rattle.yaml_plain.specs.Bytes.{tail}
use Rattle.yaml_read.specs.Keys.{◌>>=◌, is_among}
use Rattle.yaml_read.specs.Rows.{Row, is_dash}
use Rattle.yaml_read.specs.Faults.{fault_of}
use Rattle.yaml_read.specs.Reading.{Block, begins_deeper, begins_below_key, first_pair, first_item, value_of, pairs_step, pairs, items_step, items, some_pairs, some_items, node}
use Rattle.yaml_read.specs.Seen.{seen, all_seen, Refuses}
use Rattle.yaml_read.proofs.Fronts.{turn, no_turn, behind_front, one_more, Refuses-bind, Refuses-same, refuses_behind, ends_behind, goes_behind}
use Rattle.yaml_read.proofs.Sound.{FirstPair, FirstItem}

module _ (levels : ℕ) (read : List Row → Block Shape) (n i column : ℕ) (lt : i < n) where
  module _ (front : List Shape) (rows : List Row) (total : Block (List Shape)) (so_far : behind_front front (items levels read (n - i) column rows) ≡ total) where
    abbrev item_go : List Row → Block (List Shape)
    item_go = items levels read (n - (i + 1)) column

    item_one : items levels read (n - i) column rows ≡ items_step levels read item_go column rows (first_item column rows)
    unfolding items
    item_one = ap (λ (k : ℕ). items levels read k column rows) (turn n i lt)

    item_step : behind_front front (items_step levels read item_go column rows (first_item column rows)) ≡ total
    item_step = ap (behind_front front) (sym item_one) ∙ so_far

    pub items_end : first_item column rows ≡ None → total ≡ Ok (front, rows)
    items_end is = ends_behind front rows _ total item_step (ap (items_step levels read item_go column rows) is)

    module _ (f : FirstItem) (is : first_item column rows ≡ Some f) where
      abbrev item_value : Block Shape
      item_value = value_of levels read f.0 (tail f.0.text) (begins_deeper column f.1) f.1

      abbrev item_rest : Shape × List Row → Block (List Shape)
      item_rest v = one_more v.0 (item_go v.1)

      item_read : items_step levels read item_go column rows (first_item column rows) ≡ (item_value >>= item_rest)
      item_read = ap (items_step levels read item_go column rows) is

      pub items_fail : (e : YamlFault) → Refuses e item_value → Refuses e total
      items_fail e h = refuses_behind e front _ total item_step (Refuses-same e _ _ (sym item_read) (Refuses-bind e item_value item_rest h))

      pub items_go : (t : Shape) (rest : List Row) → item_value ≡ Ok (t, rest) → behind_front (front ++ t ∷ []) (item_go rest) ≡ total
      items_go t rest valued = goes_behind front t _ (item_go rest) total item_step (item_read ∙ ap (λ (r : Block Shape). r >>= item_rest) valued)

  module _ (front : List (List ℕ × Shape)) (keys : List (List ℕ)) (rows : List Row) (total : Block (List (List ℕ × Shape))) (so_far : behind_front front (pairs levels read (n - i) column keys rows) ≡ total) where
    abbrev pair_go : List (List ℕ) → List Row → Block (List (List ℕ × Shape))
    pair_go = pairs levels read (n - (i + 1)) column

    pair_one : pairs levels read (n - i) column keys rows ≡ pairs_step levels read pair_go column keys rows (first_pair column rows)
    unfolding pairs
    pair_one = ap (λ (k : ℕ). pairs levels read k column keys rows) (turn n i lt)

    pair_step : behind_front front (pairs_step levels read pair_go column keys rows (first_pair column rows)) ≡ total
    pair_step = ap (behind_front front) (sym pair_one) ∙ so_far

    pub pairs_end : first_pair column rows ≡ None → total ≡ Ok (front, rows)
    pairs_end is = ends_behind front rows _ total pair_step (ap (pairs_step levels read pair_go column keys rows) is)

    module _ (f : FirstPair) (is : first_pair column rows ≡ Some f) where
      abbrev pair_value : Block Shape
      pair_value = value_of levels read f.1 f.0.1 (begins_below_key column f.2) f.2

      abbrev pair_rest : Shape × List Row → Block (List (List ℕ × Shape))
      pair_rest v = one_more (f.0.0, v.0) (pair_go (keys ++ f.0.0 ∷ []) v.1)

      pub pairs_repeat : is_among f.0.0 keys ≡ true → total ≡ Err (fault_of Repeated f.1)
      pairs_repeat again = sym item ∙ rw again refl where
        item : behind_front front (pairs_step levels read pair_go column keys rows (Some f)) ≡ total
        item = ap (λ (o : Option FirstPair). behind_front front (pairs_step levels read pair_go column keys rows o)) (sym is) ∙ pair_step

      module _ (fresh : is_among f.0.0 keys ≡ false) where
        pair_read : pairs_step levels read pair_go column keys rows (first_pair column rows) ≡ (pair_value >>= pair_rest)
        pair_read = ap (pairs_step levels read pair_go column keys rows) is ∙ rw fresh refl

        pub pairs_fail : (e : YamlFault) → Refuses e pair_value → Refuses e total
        pairs_fail e h = refuses_behind e front _ total pair_step (Refuses-same e _ _ (sym pair_read) (Refuses-bind e pair_value pair_rest h))

        pub pairs_go : (t : Shape) (rest : List Row) → pair_value ≡ Ok (t, rest) → behind_front (front ++ (f.0.0, t) ∷ []) (pair_go (keys ++ f.0.0 ∷ []) rest) ≡ total
        pairs_go t rest valued = goes_behind front (f.0.0, t) _ (pair_go (keys ++ f.0.0 ∷ []) rest) total pair_step (pair_read ∙ ap (λ (r : Block Shape). r >>= pair_rest) valued)

module _ (levels : ℕ) (read : List Row → Block Shape) (n column : ℕ) where
  pub items_turns : (front : List Shape) (rows : List Row) (total : Block (List Shape)) → behind_front front (items levels read (n - n) column rows) ≡ total → total ≡ Ok (front, rows)
  unfolding items
  items_turns front rows total so_far = ends_behind front rows (items levels read (n - n) column rows) total so_far (ap (λ (k : ℕ). items levels read k column rows) (no_turn n))

  pub pairs_turns : (front : List (List ℕ × Shape)) (keys : List (List ℕ)) (rows : List Row) (total : Block (List (List ℕ × Shape))) → behind_front front (pairs levels read (n - n) column keys rows) ≡ total → total ≡ Ok (front, rows)
  unfolding pairs
  pairs_turns front keys rows total so_far = ends_behind front rows (pairs levels read (n - n) column keys rows) total so_far (ap (λ (k : ℕ). pairs levels read k column keys rows) (no_turn n))

-- ---- a node, by its first row
abbrev pub list_rest : Row → List Shape × List Row → Block Shape
list_rest r y = some_items r y.0 y.1

abbrev pub map_rest : Row → List (List ℕ × Shape) × List Row → Block Shape
map_rest r y = some_pairs r y.0 y.1

pub node_empty : (levels : ℕ) → node levels [] ≡ Ok (nothing, [])
unfolding node
node_empty levels = refl

-- what the first row is
pub rows_cons : (rows : List code.Row) (x : code.Row) → 1 ≤ length rows → x ≡ get_or rows 0 x → all_seen rows ≡ seen x ∷ all_seen (drop 1 rows)
rows_cons [] x le is = absurd (omega arith)
rows_cons (y ∷ ys) x le is = ap (λ (z : code.Row). seen z ∷ all_seen ys) (sym is)

pub rows_nil : (rows : List code.Row) → length rows < 1 → all_seen rows ≡ []
rows_nil [] lt = refl
rows_nil (y ∷ ys) lt = absurd (omega arith)

pub node_nil : (levels : ℕ) (rows : List code.Row) → length rows < 1 → node levels (all_seen rows) ≡ Ok (nothing, all_seen rows)
node_nil levels [] lt = node_empty levels
node_nil levels (y ∷ ys) lt = absurd (omega arith)

module _ (levels : ℕ) (rows : List code.Row) (x : code.Row) (le : 1 ≤ length rows) (is : x ≡ get_or rows 0 x) where
  whole : all_seen rows ≡ seen x ∷ all_seen (drop 1 rows)
  whole = rows_cons rows x le is

  count : length (seen x ∷ all_seen (drop 1 rows)) + 1 ≡ length rows + 1
  count = ap (λ (r : List Row). length r + 1) (sym whole) ∙ ap (λ (k : ℕ). k + 1) (length-map rows seen)

  pub node_deep : levels ≡ 0 → node levels (all_seen rows) ≡ Err (fault_of Deep (seen x))
  unfolding node
  node_deep none = ap (node levels) whole ∙ ap (λ (k : ℕ). node k (seen x ∷ all_seen (drop 1 rows))) none

  module _ (some : 0 < levels) where
    one_less : levels ≡ suc (levels - 1)
    one_less = omega arith

    at_first : node levels (all_seen rows) ≡ node (suc (levels - 1)) (seen x ∷ all_seen (drop 1 rows))
    at_first = ap (node levels) whole ∙ ap (λ (k : ℕ). node k (seen x ∷ all_seen (drop 1 rows))) one_less

    pub node_list : is_dash x.text.items ≡ true → node levels (all_seen rows) ≡ (items (levels - 1) (node (levels - 1)) (length rows + 1) x.column (all_seen rows) >>= list_rest (seen x))
    unfolding node
    node_list dash =
        at_first ∙ (rw dash refl
        ∙ (ap (λ (k : ℕ). items (levels - 1) (node (levels - 1)) k x.column (seen x ∷ all_seen (drop 1 rows)) >>= list_rest (seen x)) count
        ∙ ap (λ (r : List Row). items (levels - 1) (node (levels - 1)) (length rows + 1) x.column r >>= list_rest (seen x)) (sym whole)))

    pub node_map : is_dash x.text.items ≡ false → node levels (all_seen rows) ≡ (pairs (levels - 1) (node (levels - 1)) (length rows + 1) x.column [] (all_seen rows) >>= map_rest (seen x))
    unfolding node
    node_map dash =
        at_first ∙ (rw dash refl
        ∙ (ap (λ (k : ℕ). pairs (levels - 1) (node (levels - 1)) k x.column [] (seen x ∷ all_seen (drop 1 rows)) >>= map_rest (seen x)) count
        ∙ ap (λ (r : List Row). pairs (levels - 1) (node (levels - 1)) (length rows + 1) x.column [] r >>= map_rest (seen x)) (sym whole)))

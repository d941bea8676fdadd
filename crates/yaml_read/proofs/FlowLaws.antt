-- One turn of the reading of flow.
use Rattle.std.proofs.Common.{◌≡◌, ◌∙◌, ◌++◌, ◌∷◌, ◌-◌, ◌<◌, ◌+◌, ℕ, zero, suc, [], List, true, false, Result, Ok, Err, refl, sym, ap, arith}
use Rattle.doc_tree.specs.Shape.{Shape, list, mapping, shapes_of, pairs_of}
use Rattle.yaml_read.specs.declared.stop.Why.{Why}
use Rattle.yaml_read.specs.declared.stop.Why.TheVariants.{Outside, Deep, Unfit}
use Rattle.yaml_read.specs.declared.stop.Stop.{Stop}
use Rattle.yaml_read.specs.declared.stop.Repeats.{Repeats}
use Rattle.yaml_plain.specs.Bytes.{left_bracket, right_bracket, left_brace, right_brace, begins, tail, skip_spaces}
use Rattle.yaml_read.specs.Keys.{Read, ◌>>=◌, begins_other, scalar}
use Rattle.yaml_read.specs.Flow.{behind_entry, begins_node, next_key, items_step, flow_items, flow_value, pairs_step, flow_pairs, flow}
use Rattle.yaml_read.specs.Seen.{Fails}
use Rattle.yaml_read.proofs.Fronts.{turn, no_turn, behind_front, one_more, Fails-bind, Fails-same, fails_behind, ends_behind, goes_behind}
use Rattle.doc_tree.specs.declared.limits.TheConstants.{MAX_BYTES}
use Rattle.yaml_plain.specs.declared.style.Style.TheVariants.{Flow}

module _ (repeats : Repeats) (levels : ℕ) (value : List ℕ → Read Shape) (n i : ℕ) (lt : i < n) where
  module _ (front : List Shape) (text : List ℕ) (total : Read (List Shape)) (so_far : behind_front front (flow_items repeats levels value (n - i) text) ≡ total) where
    abbrev item_go : List ℕ → Read (List Shape)
    item_go = flow_items repeats levels value (n - (i + 1))

    item_one : flow_items repeats levels value (n - i) text ≡ items_step repeats levels value item_go (skip_spaces text)
    unfolding flow_items
    item_one = ap (λ (k : ℕ). flow_items repeats levels value k text) (turn n i lt)

    item_step : behind_front front (items_step repeats levels value item_go (skip_spaces text)) ≡ total
    item_step = ap (behind_front front) (sym item_one) ∙ so_far

    pub items_end : begins right_bracket (skip_spaces text) ≡ true → total ≡ Ok (front, tail (skip_spaces text))
    items_end is = ends_behind front (tail (skip_spaces text)) _ total item_step (rw is refl)

    module _ (more : begins right_bracket (skip_spaces text) ≡ false) where
      abbrev item_rest : Shape × List ℕ → Read (List Shape)
      item_rest v = behind_entry right_bracket v.1 >>= (λ rest. one_more v.0 (item_go rest))

      item_read : items_step repeats levels value item_go (skip_spaces text) ≡ (value (skip_spaces text) >>= item_rest)
      item_read = rw more refl

      pub items_fail : (e : Stop) → Fails e (value (skip_spaces text)) → Fails e total
      items_fail e h = fails_behind e front _ total item_step (Fails-same e _ _ (sym item_read) (Fails-bind e (value (skip_spaces text)) item_rest h))

      module _ (t : Shape) (behind : List ℕ) (is : value (skip_spaces text) ≡ Ok (t, behind)) where
        item_then : items_step repeats levels value item_go (skip_spaces text) ≡ item_rest (t, behind)
        item_then = item_read ∙ ap (λ (r : Read Shape). r >>= item_rest) is

        pub items_unparted : (e : Stop) → Fails e (behind_entry right_bracket behind) → Fails e total
        items_unparted e h = fails_behind e front _ total item_step (Fails-same e _ _ (sym item_then) (Fails-bind e (behind_entry right_bracket behind) (λ rest. one_more t (item_go rest)) h))

        pub items_go : (rest : List ℕ) → behind_entry right_bracket behind ≡ Ok rest → behind_front (front ++ t ∷ []) (item_go rest) ≡ total
        items_go rest parted = goes_behind front t _ (item_go rest) total item_step (item_then ∙ ap (λ (r : Result (List ℕ) Why). r >>= (λ rest. one_more t (item_go rest))) parted)

  module _ (front : List (List ℕ × Shape)) (keys : List (List ℕ)) (text : List ℕ) (total : Read (List (List ℕ × Shape))) (so_far : behind_front front (flow_pairs repeats levels value (n - i) keys text) ≡ total) where
    abbrev pair_go : List (List ℕ) → List ℕ → Read (List (List ℕ × Shape))
    pair_go = flow_pairs repeats levels value (n - (i + 1))

    pair_one : flow_pairs repeats levels value (n - i) keys text ≡ pairs_step repeats levels value pair_go keys (skip_spaces text)
    unfolding flow_pairs
    pair_one = ap (λ (k : ℕ). flow_pairs repeats levels value k keys text) (turn n i lt)

    pair_step : behind_front front (pairs_step repeats levels value pair_go keys (skip_spaces text)) ≡ total
    pair_step = ap (behind_front front) (sym pair_one) ∙ so_far

    pub pairs_end : begins right_brace (skip_spaces text) ≡ true → total ≡ Ok (front, tail (skip_spaces text))
    pairs_end is = ends_behind front (tail (skip_spaces text)) _ total pair_step (rw is refl)

    module _ (more : begins right_brace (skip_spaces text) ≡ false) where
      abbrev parted_rest : List ℕ → Shape → List ℕ → Read (List (List ℕ × Shape))
      parted_rest k t rest = one_more (k, t) (pair_go (keys ++ k ∷ []) rest)

      abbrev valued_rest : List ℕ → Shape × List ℕ → Read (List (List ℕ × Shape))
      valued_rest k v = behind_entry right_brace v.1 >>= parted_rest k v.0

      abbrev keyed_rest : List ℕ × List ℕ → Read (List (List ℕ × Shape))
      keyed_rest k = flow_value repeats levels value k.1 >>= valued_rest k.0

      pair_read : pairs_step repeats levels value pair_go keys (skip_spaces text) ≡ (next_key repeats keys (skip_spaces text) >>= keyed_rest)
      pair_read = rw more refl

      pub keys_fail : (e : Stop) → Fails e (next_key repeats keys (skip_spaces text)) → Fails e total
      keys_fail e h = fails_behind e front _ total pair_step (Fails-same e _ _ (sym pair_read) (Fails-bind e (next_key repeats keys (skip_spaces text)) keyed_rest h))

      module _ (k behind : List ℕ) (is_key : next_key repeats keys (skip_spaces text) ≡ Ok (k, behind)) where
        pair_keyed : pairs_step repeats levels value pair_go keys (skip_spaces text) ≡ keyed_rest (k, behind)
        pair_keyed = pair_read ∙ ap (λ (r : Read (List ℕ)). r >>= keyed_rest) is_key

        pub values_fail : (e : Stop) → Fails e (flow_value repeats levels value behind) → Fails e total
        values_fail e h = fails_behind e front _ total pair_step (Fails-same e _ _ (sym pair_keyed) (Fails-bind e (flow_value repeats levels value behind) (valued_rest k) h))

        module _ (t : Shape) (after : List ℕ) (is : flow_value repeats levels value behind ≡ Ok (t, after)) where
          pair_valued : pairs_step repeats levels value pair_go keys (skip_spaces text) ≡ valued_rest k (t, after)
          pair_valued = pair_keyed ∙ ap (λ (r : Read Shape). r >>= valued_rest k) is

          pub pairs_unparted : (e : Stop) → Fails e (behind_entry right_brace after) → Fails e total
          pairs_unparted e h = fails_behind e front _ total pair_step (Fails-same e _ _ (sym pair_valued) (Fails-bind e (behind_entry right_brace after) (parted_rest k t) h))

          pub pairs_go : (rest : List ℕ) → behind_entry right_brace after ≡ Ok rest → behind_front (front ++ (k, t) ∷ []) (pair_go (keys ++ k ∷ []) rest) ≡ total
          pairs_go rest parted = goes_behind front (k, t) _ (pair_go (keys ++ k ∷ []) rest) total pair_step (pair_valued ∙ ap (λ (r : Result (List ℕ) Why). r >>= parted_rest k t) parted)

module _ (repeats : Repeats) (levels : ℕ) (value : List ℕ → Read Shape) (n : ℕ) where
  pub items_turns : (front : List Shape) (text : List ℕ) (total : Read (List Shape)) → behind_front front (flow_items repeats levels value (n - n) text) ≡ total → total ≡ Err Unfit
  unfolding flow_items
  items_turns front text total so_far = sym so_far ∙ ap (λ (k : ℕ). behind_front front (flow_items repeats levels value k text)) (no_turn n)

  pub pairs_turns : (front : List (List ℕ × Shape)) (keys : List (List ℕ)) (text : List ℕ) (total : Read (List (List ℕ × Shape))) → behind_front front (flow_pairs repeats levels value (n - n) keys text) ≡ total → total ≡ Err Unfit
  unfolding flow_pairs
  pairs_turns front keys text total so_far = sym so_far ∙ ap (λ (k : ℕ). behind_front front (flow_pairs repeats levels value k keys text)) (no_turn n)

-- ---- a node of flow, by what it begins with
abbrev pub list_rest : List Shape × List ℕ → Read Shape
list_rest x = Ok (list (shapes_of x.0), x.1)

abbrev pub map_rest : List (List ℕ × Shape) × List ℕ → Read Shape
map_rest x = Ok (mapping (pairs_of x.0), x.1)

module _ (repeats : Repeats) (levels : ℕ) (bs : List ℕ) where
  pub flow_other : begins_other bs ≡ true → flow repeats levels bs ≡ Err Outside
  unfolding flow
  flow_other is = by_levels levels where
    by_levels : (n : ℕ) → flow repeats n bs ≡ Err Outside
    by_levels zero = rw is refl
    by_levels (suc n) = rw is refl

  module _ (plain : begins_other bs ≡ false) where
    pub flow_deep : levels ≡ 0 → begins_node bs ≡ true → flow repeats levels bs ≡ Err Deep
    unfolding flow
    flow_deep none is = rw (none, plain, is) refl

    pub flow_unfit : levels ≡ 0 → begins_node bs ≡ false → flow repeats levels bs ≡ Err Unfit
    unfolding flow
    flow_unfit none is = rw (none, plain, is) refl

    module _ (some : 0 < levels) where
      one_less : levels ≡ suc (levels - 1)
      one_less = omega arith

      pub flow_list : begins left_bracket bs ≡ true
          → flow repeats levels bs ≡ (flow_items repeats (levels - 1) (flow repeats (levels - 1)) MAX_BYTES (tail bs) >>= list_rest)
      unfolding flow
      flow_list is = ap (λ (k : ℕ). flow repeats k bs) one_less ∙ rw (plain, is) refl

      pub flow_map : begins left_bracket bs ≡ false → begins left_brace bs ≡ true
          → flow repeats levels bs ≡ (flow_pairs repeats (levels - 1) (flow repeats (levels - 1)) MAX_BYTES [] (tail bs) >>= map_rest)
      unfolding flow
      flow_map not_list is = ap (λ (k : ℕ). flow repeats k bs) one_less ∙ rw (plain, not_list, is) refl

      pub flow_scalar : begins left_bracket bs ≡ false → begins left_brace bs ≡ false → flow repeats levels bs ≡ scalar Flow bs
      unfolding flow
      flow_scalar not_list not_map = ap (λ (k : ℕ). flow repeats k bs) one_less ∙ rw (plain, not_list, not_map) refl

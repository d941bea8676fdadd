-- One turn of the reading of flow with the open brackets in hand.
use Rattle.std.proofs.Common.{◌≡◌, ◌∙◌, ◌++◌, ◌∷◌, ◌-◌, ◌<◌, ℕ, suc, [], List, map, true, false, ◌||◌, Bool, Option, Result, Ok, Err, refl, sym, ap, arith}
use Rattle.doc_tree.specs.Shape.{Shape}
use Rattle.doc_tree.specs.declared.tree.Tree.{Tree}
use Rattle.yaml_read.specs.declared.stop.Why.{Why}
use Rattle.yaml_read.specs.declared.stop.Why.TheVariants.{Outside, Repeated, Deep, Unfit}
use Rattle.yaml_read.specs.declared.stop.Stop.{Stop}
use Rattle.yaml_read.specs.declared.stop.Repeats.{Repeats}
use Rattle.yaml_read.specs.declared.brackets.Bracket.{Bracket}
use Rattle.yaml_read.specs.declared.brackets.Bracket.TheVariants.{InList, InMap}
use Rattle.yaml_plain.specs.Bytes.{comma, left_bracket, right_bracket, left_brace, right_brace, begins, tail, skip_spaces}
use Rattle.yaml_read.specs.Keys.{Read, ◌>>=◌, begins_other, scalar}
use Rattle.yaml_read.specs.Flow.{behind_entry, begins_node, next_key, items_step, flow_items, flow_value, pairs_step, flow_pairs, flow}
use Rattle.yaml_read.specs.Brackets.{end_of, without_levels, behind, inside, from_node, from_value, stop_of, is_other_stop, is_repeat_stop}
use Rattle.yaml_read.specs.Faults.{is_other, is_repeat}
use Rattle.yaml_read.specs.Seen.{Fails}
use Rattle.yaml_read.proofs.Fronts.{one_more, Fails-bind, Fails-same}
use Rattle.yaml_read.proofs.FlowLaws.{flow_other, flow_deep, flow_unfit, flow_list, flow_map, flow_scalar, list_rest, map_rest}
use Rattle.doc_tree.specs.declared.limits.TheConstants.{MAX_BYTES}
use Rattle.yaml_plain.specs.declared.style.Style.TheVariants.{Flow}

bind_assoc : {A B C E : Type 0} (r : Result A E) (f : A → Result B E) (g : B → Result C E) → ((r >>= f) >>= g) ≡ (r >>= (λ x. f x >>= g))
bind_assoc (Ok x) f g = refl
bind_assoc (Err e) f g = refl

bind_same : {A B E : Type 0} (r : Result A E) (f g : A → Result B E) → ((x : A) → f x ≡ g x) → (r >>= f) ≡ (r >>= g)
bind_same (Ok x) f g same = same x
bind_same (Err e) f g same = refl

-- an entry in front doesn't change where the rest ends
end_more : {A : Type 0} (a : A) (rest : Read (List A)) → end_of (one_more a rest) ≡ end_of rest
end_more a (Ok x) = refl
end_more a (Err e) = refl

module _ (repeats : Repeats) (levels : ℕ) (bs : List Bracket) where
  -- ---- a node, by what it begins with
  module _ (text : List ℕ) where
    pub node_other : begins_other text ≡ true → from_node repeats levels bs text ≡ Err Outside
    node_other is = ap (λ (r : Read Shape). r >>= (λ v. behind repeats bs v.1)) (flow_other repeats levels text is)

    module _ (plain : begins_other text ≡ false) where
      pub node_none : levels ≡ 0 → from_node repeats levels bs text ≡ Err (without_levels text)
      node_none none = by_node (begins_node text) refl where
        by_node : (b : Bool) → begins_node text ≡ b → from_node repeats levels bs text ≡ Err (without_levels text)
        by_node true is = ap (λ (r : Read Shape). r >>= (λ v. behind repeats bs v.1)) (flow_deep repeats levels text plain none is) ∙ rw is refl
        by_node false is = ap (λ (r : Read Shape). r >>= (λ v. behind repeats bs v.1)) (flow_unfit repeats levels text plain none is) ∙ rw is refl

      module _ (some : 0 < levels) where
        pub node_list : begins left_bracket text ≡ true → from_node repeats levels bs text ≡ inside repeats (InList (levels - 1) MAX_BYTES ∷ bs) (tail text)
        node_list is =
            ap (λ (r : Read Shape). r >>= (λ v. behind repeats bs v.1)) (flow_list repeats levels text plain some is)
            ∙ (bind_assoc (flow_items repeats (levels - 1) (flow repeats (levels - 1)) MAX_BYTES (tail text)) list_rest (λ v. behind repeats bs v.1)
            ∙ sym (bind_assoc (flow_items repeats (levels - 1) (flow repeats (levels - 1)) MAX_BYTES (tail text)) (λ x. Ok x.1) (behind repeats bs)))

        module _ (not_list : begins left_bracket text ≡ false) where
          pub node_map : begins left_brace text ≡ true → from_node repeats levels bs text ≡ inside repeats (InMap (levels - 1) MAX_BYTES [] ∷ bs) (tail text)
          node_map is =
              ap (λ (r : Read Shape). r >>= (λ v. behind repeats bs v.1)) (flow_map repeats levels text plain some not_list is)
              ∙ (bind_assoc (flow_pairs repeats (levels - 1) (flow repeats (levels - 1)) MAX_BYTES [] (tail text)) map_rest (λ v. behind repeats bs v.1)
              ∙ sym (bind_assoc (flow_pairs repeats (levels - 1) (flow repeats (levels - 1)) MAX_BYTES [] (tail text)) (λ x. Ok x.1) (behind repeats bs)))

          pub node_scalar : begins left_brace text ≡ false → from_node repeats levels bs text ≡ (scalar Flow text >>= (λ v. behind repeats bs v.1))
          node_scalar not_map = ap (λ (r : Read Shape). r >>= (λ v. behind repeats bs v.1)) (flow_scalar repeats levels text plain some not_list not_map)

  -- ---- the value of a pair
  module _ (text : List ℕ) where
    pub value_none : levels ≡ 0 → from_value repeats levels bs text ≡ Err Deep
    unfolding flow_value
    value_none none = rw none refl

    value_one : (n : ℕ) → levels ≡ suc n → flow_value repeats levels (flow repeats levels) text ≡ flow_value repeats (suc n) (flow repeats levels) text
    value_one n is = ap (λ (k : ℕ). flow_value repeats k (flow repeats levels) text) is

    module _ (some : 0 < levels) where
      pub value_null : (begins comma (skip_spaces text) || begins right_brace (skip_spaces text)) ≡ true → from_value repeats levels bs text ≡ behind repeats bs (skip_spaces text)
      unfolding flow_value
      value_null is = ap (λ (r : Read Shape). r >>= (λ v. behind repeats bs v.1)) (value_one (levels - 1) (omega arith)) ∙ rw is refl

      pub value_node : (begins comma (skip_spaces text) || begins right_brace (skip_spaces text)) ≡ false → from_value repeats levels bs text ≡ from_node repeats levels bs (skip_spaces text)
      unfolding flow_value
      value_node is = ap (λ (r : Read Shape). r >>= (λ v. behind repeats bs v.1)) (value_one (levels - 1) (omega arith)) ∙ rw is refl

  -- ---- one turn in a list
  module _ (turns : ℕ) (text : List ℕ) where
    abbrev list_value : List ℕ → Read Shape
    list_value = flow repeats levels

    pub list_none : turns ≡ 0 → inside repeats (InList levels turns ∷ bs) text ≡ Err Unfit
    unfolding flow_items
    list_none none = rw none refl

    module _ (some : 0 < turns) where
      abbrev list_go : List ℕ → Read (List Shape)
      list_go = flow_items repeats levels list_value (turns - 1)

      list_one : flow_items repeats levels list_value turns text ≡ items_step repeats levels list_value list_go (skip_spaces text)
      unfolding flow_items
      list_one = ap (λ (k : ℕ). flow_items repeats levels list_value k text) one where
        one : turns ≡ suc (turns - 1)
        one = omega arith

      pub list_ends : begins right_bracket (skip_spaces text) ≡ true → inside repeats (InList levels turns ∷ bs) text ≡ behind repeats bs (tail (skip_spaces text))
      list_ends is = ap (λ (r : Read (List Shape)). end_of r >>= behind repeats bs) list_one ∙ rw is refl

      abbrev list_rest_of : Shape × List ℕ → Read (List Shape)
      list_rest_of v = behind_entry right_bracket v.1 >>= (λ rest. one_more v.0 (list_go rest))

      list_behind : (v : Shape × List ℕ) → (end_of (list_rest_of v) >>= behind repeats bs) ≡ behind repeats (InList levels (turns - 1) ∷ bs) v.1
      list_behind v = by_entry (behind_entry right_bracket v.1) where
        by_entry : (r : Result (List ℕ) Why) → (end_of (r >>= (λ rest. one_more v.0 (list_go rest))) >>= behind repeats bs) ≡ (r >>= (λ rest. end_of (list_go rest) >>= behind repeats bs))
        by_entry (Ok rest) = ap (λ (e : Result (List ℕ) Why). e >>= behind repeats bs) (end_more v.0 (list_go rest))
        by_entry (Err e) = refl

      list_node : (r : Read Shape) → (end_of (r >>= list_rest_of) >>= behind repeats bs) ≡ (r >>= (λ v. behind repeats (InList levels (turns - 1) ∷ bs) v.1))
      list_node (Ok v) = list_behind v
      list_node (Err e) = refl

      pub list_goes : begins right_bracket (skip_spaces text) ≡ false → inside repeats (InList levels turns ∷ bs) text ≡ from_node repeats levels (InList levels (turns - 1) ∷ bs) (skip_spaces text)
      list_goes more = ap (λ (r : Read (List Shape)). end_of r >>= behind repeats bs) (list_one ∙ rw more refl) ∙ list_node (list_value (skip_spaces text))

  -- ---- one turn in a map, behind these pairs
  module _ (turns : ℕ) (entries : List (List ℕ × Tree)) (text : List ℕ) where
    abbrev keys : List (List ℕ)
    keys = map (λ p. p.0) entries

    abbrev map_value : List ℕ → Read Shape
    map_value = flow repeats levels

    pub map_none : turns ≡ 0 → inside repeats (InMap levels turns entries ∷ bs) text ≡ Err Unfit
    unfolding flow_pairs
    map_none none = rw none refl

    module _ (some : 0 < turns) where
      abbrev map_go : List (List ℕ) → List ℕ → Read (List (List ℕ × Shape))
      map_go = flow_pairs repeats levels map_value (turns - 1)

      map_one : flow_pairs repeats levels map_value turns keys text ≡ pairs_step repeats levels map_value map_go keys (skip_spaces text)
      unfolding flow_pairs
      map_one = ap (λ (k : ℕ). flow_pairs repeats levels map_value k keys text) one where
        one : turns ≡ suc (turns - 1)
        one = omega arith

      pub map_ends : begins right_brace (skip_spaces text) ≡ true → inside repeats (InMap levels turns entries ∷ bs) text ≡ behind repeats bs (tail (skip_spaces text))
      map_ends is = ap (λ (r : Read (List (List ℕ × Shape))). end_of r >>= behind repeats bs) map_one ∙ rw is refl

      module _ (more : begins right_brace (skip_spaces text) ≡ false) where
        abbrev parted_rest : List ℕ → Shape → List ℕ → Read (List (List ℕ × Shape))
        parted_rest k t rest = one_more (k, t) (map_go (keys ++ k ∷ []) rest)

        abbrev valued_rest : List ℕ → Shape × List ℕ → Read (List (List ℕ × Shape))
        valued_rest k v = behind_entry right_brace v.1 >>= parted_rest k v.0

        abbrev keyed_rest : List ℕ × List ℕ → Read (List (List ℕ × Shape))
        keyed_rest k = flow_value repeats levels map_value k.1 >>= valued_rest k.0

        map_read : inside repeats (InMap levels turns entries ∷ bs) text ≡ (end_of (next_key repeats keys (skip_spaces text) >>= keyed_rest) >>= behind repeats bs)
        map_read = ap (λ (r : Read (List (List ℕ × Shape))). end_of r >>= behind repeats bs) (map_one ∙ rw more refl)

        pub map_fails : (e : Stop) → Fails e (next_key repeats keys (skip_spaces text)) → Fails e (inside repeats (InMap levels turns entries ∷ bs) text)
        map_fails e h =
            Fails-same e _ _ (sym map_read)
            (Fails-bind e _ (behind repeats bs) (Fails-bind e _ (λ x. Ok x.1) (Fails-bind e (next_key repeats keys (skip_spaces text)) keyed_rest h)))

        module _ (k : List ℕ) (longer : List (List ℕ × Tree)) (pushed : map (λ p. p.0) longer ≡ keys ++ k ∷ []) where
          map_behind : (v : Shape × List ℕ) → (end_of (valued_rest k v) >>= behind repeats bs) ≡ behind repeats (InMap levels (turns - 1) longer ∷ bs) v.1
          map_behind v = by_entry (behind_entry right_brace v.1) where
            by_entry : (r : Result (List ℕ) Why) → (end_of (r >>= parted_rest k v.0) >>= behind repeats bs) ≡ (r >>= (λ rest. end_of (map_go (map (λ p. p.0) longer) rest) >>= behind repeats bs))
            by_entry (Ok rest) =
                ap (λ (e : Result (List ℕ) Why). e >>= behind repeats bs) (end_more (k, v.0) (map_go (keys ++ k ∷ []) rest))
                ∙ ap (λ (ks : List (List ℕ)). end_of (map_go ks rest) >>= behind repeats bs) (sym pushed)
            by_entry (Err e) = refl

          map_node : (r : Read Shape) → (end_of (r >>= valued_rest k) >>= behind repeats bs) ≡ (r >>= (λ v. behind repeats (InMap levels (turns - 1) longer ∷ bs) v.1))
          map_node (Ok v) = map_behind v
          map_node (Err e) = refl

          pub map_goes : (rest : List ℕ) → next_key repeats keys (skip_spaces text) ≡ Ok (k, rest)
              → inside repeats (InMap levels turns entries ∷ bs) text ≡ from_value repeats levels (InMap levels (turns - 1) longer ∷ bs) rest
          map_goes rest is =
              map_read
              ∙ (ap (λ (r : Read (List ℕ)). end_of (r >>= keyed_rest) >>= behind repeats bs) is
              ∙ map_node (flow_value repeats levels map_value rest))

-- ---- why a reading stops
pub other_is : (r : Result (Option Shape) Why) → is_other_stop (stop_of r) ≡ is_other r
other_is (Ok t) = refl
other_is (Err Outside) = refl
other_is (Err Repeated) = refl
other_is (Err Deep) = refl
other_is (Err Unfit) = refl

pub repeat_is : (r : Result (Option Shape) Why) → is_repeat_stop (stop_of r) ≡ is_repeat r
repeat_is (Ok t) = refl
repeat_is (Err Outside) = refl
repeat_is (Err Repeated) = refl
repeat_is (Err Deep) = refl
repeat_is (Err Unfit) = refl

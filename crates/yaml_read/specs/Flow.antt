-- Flow lists and flow maps (YAML 1.2, section 7.4).
use Rattle.std.specs.Prelude.{ℕ, zero, suc, Bool, true, false, ◌&&◌, ◌||◌, if◌then◌else◌, List, [], ◌∷◌, ◌++◌, Result, Ok, Err}
use Rattle.doc_tree.specs.declared.limits.TheConstants.{MAX_BYTES}
use Rattle.doc_tree.specs.Shape.{Shape, nothing, list, mapping, shapes_of, pairs_of}
use Rattle.yaml_read.specs.declared.stop.Why.{Why}
use Rattle.yaml_read.specs.declared.stop.Why.TheVariants.{Outside, Repeated, Deep, Unfit}
use Rattle.yaml_read.specs.declared.stop.Repeats.{Repeats}
use Rattle.yaml_read.specs.declared.stop.Repeats.TheVariants.{Refused, Taken}
use Rattle.yaml_plain.specs.Bytes.{comma, left_bracket, right_bracket, left_brace, right_brace, begins, tail, skip_spaces}
use Rattle.yaml_plain.specs.Plain.{begins_plain}
use Rattle.yaml_read.specs.Quoted.{begins_quoted}
use Rattle.yaml_read.specs.Keys.{Read, ◌>>=◌, or_unfit, begins_other, scalar, key, is_among}
use Rattle.yaml_plain.specs.declared.style.Style.TheVariants.{Flow}

abbrev pub are_refused : Repeats → Bool
are_refused Refused = true
are_refused Taken = false

-- behind an entry: a comma, which goes, or the closing sign, which stays
unfoldable pub behind_entry : ℕ → List ℕ → Result (List ℕ) Why
behind_entry closing text =
    let bs = skip_spaces text in
    if begins comma bs then Ok (tail bs) else if begins closing bs then Ok bs else Err Unfit

-- a list, a map or a scalar begins here
abbrev pub begins_node : List ℕ → Bool
begins_node bs = (begins left_bracket bs || begins left_brace bs) || (begins_quoted bs || begins_plain Flow bs)

-- the key of the next pair, and the text behind its colon, behind pairs with these keys
unfoldable pub next_key : Repeats → List (List ℕ) → List ℕ → Read (List ℕ)
next_key repeats keys bs =
    if begins_other bs then Err Outside
    else or_unfit (key Flow bs) >>= (λ k. if are_refused repeats && is_among k.0 keys then Err Repeated else Ok k)

-- in a list or a map, whose nodes have at most so many levels and are read by value
module _ (repeats : Repeats) (levels : ℕ) (value : List ℕ → Read Shape) where
  abbrev pub items_step : (List ℕ → Read (List Shape)) → List ℕ → Read (List Shape)
  items_step go bs =
      if begins right_bracket bs then Ok ([], tail bs)
      else value bs >>= (λ v. behind_entry right_bracket v.1 >>= (λ rest. go rest >>= (λ more. Ok (v.0 ∷ more.0, more.1))))

  -- The rest of a list. The number bounds the turns, here and below: each takes a byte at least, and no text has more.
  unfoldable pub flow_items : ℕ → List ℕ → Read (List Shape)
  flow_items zero text = Err Unfit
  flow_items (suc n) text = items_step (flow_items n) (skip_spaces text)

  -- what follows the colon of a pair: a value, or nothing before a comma or the end
  abbrev pub value_or_nothing : List ℕ → Read Shape
  value_or_nothing bs = if begins comma bs || begins right_brace bs then Ok (nothing, bs) else value bs

  abbrev pub pair_value_at : ℕ → List ℕ → Read Shape
  pair_value_at zero text = Err Deep
  pair_value_at (suc n) text = value_or_nothing (skip_spaces text)

  unfoldable pub flow_value : List ℕ → Read Shape
  flow_value text = pair_value_at levels text

  abbrev pub pairs_step : (List (List ℕ) → List ℕ → Read (List (List ℕ × Shape))) → List (List ℕ) → List ℕ → Read (List (List ℕ × Shape))
  pairs_step go keys bs =
      if begins right_brace bs then Ok ([], tail bs)
      else next_key repeats keys bs >>= (λ k. flow_value k.1 >>= (λ v. behind_entry right_brace v.1 >>= (λ rest.
      go (keys ++ k.0 ∷ []) rest >>= (λ more. Ok ((k.0, v.0) ∷ more.0, more.1)))))

  -- the rest of a map, behind pairs with these keys
  unfoldable pub flow_pairs : ℕ → List (List ℕ) → List ℕ → Read (List (List ℕ × Shape))
  flow_pairs zero keys text = Err Unfit
  flow_pairs (suc n) keys text = pairs_step (flow_pairs n) keys (skip_spaces text)

-- a node of flow, of at most so many levels
unfoldable pub flow : Repeats → ℕ → List ℕ → Read Shape
flow repeats zero bs = if begins_other bs then Err Outside else if begins_node bs then Err Deep else Err Unfit
flow repeats (suc levels) bs =
    if begins_other bs then Err Outside
    else if begins left_bracket bs then flow_items repeats levels (flow repeats levels) MAX_BYTES (tail bs) >>= (λ x. Ok (list (shapes_of x.0), x.1))
    else if begins left_brace bs then flow_pairs repeats levels (flow repeats levels) MAX_BYTES [] (tail bs) >>= (λ x. Ok (mapping (pairs_of x.0), x.1))
    else scalar Flow bs

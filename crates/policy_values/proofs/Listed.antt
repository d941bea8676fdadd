-- What is done to the items of a list, and to the pairs of a map, is done to the list and the map.
use Rattle.std.proofs.Common.{◌≡◌, ◌∙◌, ◌≤◌, ◌++◌, ℕ, true, false, cond, List, [], ◌∷◌, map, flat_map, filter, take, length, refl, ap}
use Rattle.std.proofs.lemmas.List.{take_all}
use Rattle.doc_tree.specs.Shape.{Shape, more, pair, shape, shapes_of, pair_shape, pairs_of}
use Rattle.doc_tree.specs.declared.Tree.{Tree}
use Rattle.policy_model.specs.Keys.{Text}
use Rattle.policy_model.specs.Places.{filled, filled_among, filled_under}
use Rattle.policy_model.specs.Steps.{matches, kept}
use Rattle.policy_model.specs.declared.Constant.{Constant}
use Rattle.policy_values.specs.Lists.{kept_of, filled_pair}

-- ---- what is kept

pub kept_listed : (v : Constant) (path : List Text) (ts : List Tree) → shapes_of (flat_map (kept_of v path) ts) ≡ kept v path (shapes_of (map shape ts))
kept_listed v path [] = refl
kept_listed v path (t ∷ ts) =
    elim (matches v path (shape t)) as (λ b. shapes_of (cond b (shape t ∷ []) [] ++ flat_map (kept_of v path) ts) ≡ cond b (more (shape t) (kept v path (shapes_of (map shape ts)))) (kept v path (shapes_of (map shape ts)))) [
      | true ↦ ap (more (shape t)) (kept_listed v path ts)
      | false ↦ kept_listed v path ts
    ]

pub kept_done : (v : Constant) (path : List Text) (ts : List Tree) (i : ℕ) (ss : List Shape) → length ts ≤ i → ss ≡ flat_map (kept_of v path) (take i ts) → shapes_of ss ≡ kept v path (shapes_of (map shape ts))
kept_done v path ts i ss le is = ap shapes_of is ∙ ap (λ (us : List Tree). shapes_of (flat_map (kept_of v path) us)) (take_all i ts le) ∙ kept_listed v path ts

-- those that are left where the others are let go
pub kept_filtered : (v : Constant) (path : List Text) (ts : List Tree) → shapes_of (map shape (filter (λ t. matches v path (shape t)) ts)) ≡ kept v path (shapes_of (map shape ts))
kept_filtered v path [] = refl
kept_filtered v path (t ∷ ts) =
    elim (matches v path (shape t)) as (λ b. shapes_of (map shape (cond b (t ∷ filter (λ u. matches v path (shape u)) ts) (filter (λ u. matches v path (shape u)) ts)))
    ≡ cond b (more (shape t) (kept v path (shapes_of (map shape ts)))) (kept v path (shapes_of (map shape ts)))) [
      | true ↦ ap (more (shape t)) (kept_filtered v path ts)
      | false ↦ kept_filtered v path ts
    ]

-- ---- what is filled

pub filled_listed : (value : Text → Shape) (ts : List Tree) → shapes_of (map (λ t. filled value (shape t)) ts) ≡ filled_among value (shapes_of (map shape ts))
filled_listed value [] = refl
filled_listed value (t ∷ ts) = ap (more (filled value (shape t))) (filled_listed value ts)

pub filled_paired : (value : Text → Shape) (ps : List (List ℕ × Tree)) → pairs_of (map (filled_pair value) ps) ≡ filled_under value (pairs_of (map pair_shape ps))
filled_paired value [] = refl
filled_paired value (p ∷ ps) = ap (pair p.0 (filled value (shape p.1))) (filled_paired value ps)

pub filled_done : (value : Text → Shape) (ts : List Tree) (i : ℕ) (ss : List Shape) → length ts ≤ i → ss ≡ map (λ t. filled value (shape t)) (take i ts) → shapes_of ss ≡ filled_among value (shapes_of (map shape ts))
filled_done value ts i ss le is = ap shapes_of is ∙ ap (λ (us : List Tree). shapes_of (map (λ t. filled value (shape t)) us)) (take_all i ts le) ∙ filled_listed value ts

pub filled_pairs_done : (value : Text → Shape) (ps : List (List ℕ × Tree)) (i : ℕ) (ss : List (List ℕ × Shape)) → length ps ≤ i → ss ≡ map (filled_pair value) (take i ps) → pairs_of ss ≡ filled_under value (pairs_of (map pair_shape ps))
filled_pairs_done value ps i ss le is = ap pairs_of is ∙ ap (λ (qs : List (List ℕ × Tree)). pairs_of (map (filled_pair value) qs)) (take_all i ps le) ∙ filled_paired value ps

-- What is set in place: in each item of a list, and in the first pair of a key.
use Rattle.std.proofs.Common.{◌≡◌, ◌∙◌, ◌<◌, ◌≤◌, ◌+◌, ◌++◌, ℕ, suc, true, false, cond, List, [], ◌∷◌, map, take, drop, set, length, get_or, Option, Some, None, option_map, refl, sym, ap, subst, arith}
use Rattle.std.specs.Str.{bytes_eq}
use Rattle.std.proofs.lemmas.List.{drop_more, at_drop_all, take_all, take_more_set, drop-set-lt, get_or-set_same, set-set, map-set}
use Rattle.std.proofs.lemmas.Option.{same_Some}
use Rattle.doc_tree.specs.Shape.{Shape, Shapes, no_shapes, more, Pairs, no_pairs, pair, shape, shapes_of, pair_shape, pairs_of}
use Rattle.doc_tree.specs.Lookup.{find}
use Rattle.doc_tree.specs.declared.Tree.{Tree}
use Rattle.policy_model.specs.Keys.{Text}
use Rattle.policy_model.specs.Steps.{tree_of, and_shape, with_shape, added, set_each, set_under}
use Rattle.policy_model.specs.Steps as steps
use Rattle.policy_model.specs.declared.Constant.{Constant}
use Rattle.policy_lang.specs.Parting.{onto, pairs_onto}
use Rattle.policy_values.specs.Lists.{place_of}

-- ---- the place of a key

-- a place in what is left of a list behind so many
abbrev pub moved : ℕ → Option ℕ → Option ℕ
moved n found = option_map (λ k. n + k) found

moved_on : (n : ℕ) (found : Option ℕ) → moved n (option_map suc found) ≡ moved (n + 1) found
moved_on n None = refl
moved_on n (Some k) = ap (λ (m : ℕ). Some m) (omega arith)

-- ---- each item

-- the first of what is left
here : {X : Type 0} (xs : List X) (i : ℕ) (x : X) → i < length xs → x ≡ get_or xs i x → drop i xs ≡ x ∷ drop (i + 1) xs
here xs i x lt is = drop_more xs i x lt ∙ ap (λ y. y ∷ drop (i + 1) xs) (sym is)

item_onto : (ss : List Shape) (s : Shape) (rest : Shapes) → onto (ss ++ s ∷ []) rest ≡ onto ss (more s rest)
item_onto [] s rest = refl
item_onto (t ∷ ss) s rest = ap (more t) (item_onto ss s rest)

onto_no_more : (ss : List Shape) → onto ss no_shapes ≡ shapes_of ss
onto_no_more [] = refl
onto_no_more (s ∷ ss) = ap (more s) (onto_no_more ss)

item_passed : (front : List Shape) (s : Shape) (rest : Option Shapes) → option_map (onto (front ++ s ∷ [])) rest ≡ option_map (onto front) (and_shape (Some s) rest)
item_passed front s None = refl
item_passed front s (Some ss) = ap (λ (us : Shapes). Some us) (item_onto front s ss)

shaped_push : (ts : List Tree) (t : Tree) → map shape (ts ++ t ∷ []) ≡ map shape ts ++ shape t ∷ []
shaped_push [] t = refl
shaped_push (u ∷ ts) t = ap (λ ss. shape u ∷ ss) (shaped_push ts t)

module _ (v : Constant) (path : List Text) where
  -- so many are set, and the others are to be
  abbrev pub half_set : List Tree → ℕ → Option Shapes
  half_set ts i = option_map (onto (map shape (take i ts))) (set_each v path (shapes_of (map shape (drop i ts))))

  module _ (ts : List Tree) (i : ℕ) (all : Option Shapes) (h : half_set ts i ≡ all) where
    -- one more: it is taken out, and what it becomes is put in its place
    pub each_on : (item gone tree : Tree) → i < length ts → item ≡ get_or ts i item → Some (shape tree) ≡ steps.set v path (shape item) → half_set (set (set ts i gone) i tree) (i + 1) ≡ all
    each_on item gone tree lt is to =
        ap (λ (us : List Tree). half_set us (i + 1)) (set-set ts i gone tree)
        ∙ ap (λ (us : List Tree). option_map (onto (map shape us)) (set_each v path (shapes_of (map shape (drop (i + 1) (set ts i tree)))))) (take_more_set ts i tree lt)
        ∙ ap (λ (us : List Tree). option_map (onto (map shape (take i ts ++ tree ∷ []))) (set_each v path (shapes_of (map shape us)))) (drop-set-lt (i + 1) ts i tree (omega arith))
        ∙ ap (λ (ss : List Shape). option_map (onto ss) (set_each v path (shapes_of (map shape (drop (i + 1) ts))))) (shaped_push (take i ts) tree)
        ∙ item_passed (map shape (take i ts)) (shape tree) (set_each v path (shapes_of (map shape (drop (i + 1) ts))))
        ∙ ap (λ (o : Option Shape). option_map (onto (map shape (take i ts))) (and_shape o (set_each v path (shapes_of (map shape (drop (i + 1) ts)))))) to
        ∙ ap (λ (us : List Tree). option_map (onto (map shape (take i ts))) (set_each v path (shapes_of (map shape us)))) (sym (here ts i item lt is))
        ∙ h

    pub each_done : length ts ≤ i → Some (shapes_of (map shape ts)) ≡ all
    each_done le =
        ap (λ (us : List Tree). Some (shapes_of (map shape us))) (sym (take_all i ts le))
        ∙ ap (λ (ss : Shapes). Some ss) (sym (onto_no_more (map shape (take i ts))))
        ∙ sym (at_drop_all (λ (us : List Tree). option_map (onto (map shape (take i ts))) (set_each v path (shapes_of (map shape us)))) ts i le)
        ∙ h

-- ---- the first pair of a key

nothing_before : (rest : Option Pairs) → rest ≡ option_map (pairs_onto []) rest
nothing_before None = refl
nothing_before (Some ps) = refl

pair_before : (l : Text) (s : Shape) (front : List (Text × Shape)) (rest : Option Pairs) → option_map (pair l s) (option_map (pairs_onto front) rest) ≡ option_map (pairs_onto ((l, s) ∷ front)) rest
pair_before l s front None = refl
pair_before l s front (Some ps) = refl

first_is_set : (l : Text) (o : Option Shape) (rest : Pairs) → with_shape l o rest ≡ option_map (λ t. pair l t rest) o
first_is_set l None rest = refl
first_is_set l (Some t) rest = refl

later_is_set : (l : Text) (s : Shape) (qs : List (Text × Shape)) (i : ℕ) (m : Text) (o : Option Shape)
    → option_map (pair l s) (option_map (λ t. pairs_of (set qs i (m, t))) o) ≡ option_map (λ t. pairs_of (set ((l, s) ∷ qs) (suc i) (m, t))) o
later_is_set l s qs i m None = refl
later_is_set l s qs i m (Some t) = refl

not_later : (found : Option ℕ) → option_map suc found ≡ None → found ≡ None
not_later None e = refl
not_later (Some i) e = absurd cc

later : (found : Option ℕ) (i : ℕ) → option_map suc found ≡ Some i → (j : ℕ) × (found ≡ Some j) × (suc j ≡ i)
later None i e = absurd cc
later (Some j) i e = (j, refl, same_Some (suc j) i e)

-- ---- what stands under a key

module _ (k : Text) where
  pub found_nowhere : (ps : List (Text × Tree)) → place_of k ps ≡ None → None ≡ find k (pairs_of (map pair_shape ps))
  found_nowhere [] e = refl
  found_nowhere (p ∷ ps) e =
      elim (bytes_eq p.0 k) as (λ b. cond b (Some 0) (option_map suc (place_of k ps)) ≡ None → None ≡ cond b (Some (shape p.1)) (find k (pairs_of (map pair_shape ps)))) [
        | true ↦ λ e. absurd cc
        | false ↦ λ e. found_nowhere ps (not_later (place_of k ps) e)
      ] e

  pub found_at : (ps : List (Text × Tree)) (i : ℕ) (p : Text × Tree) → place_of k ps ≡ Some i → p ≡ get_or ps i p → Some (shape p.1) ≡ find k (pairs_of (map pair_shape ps))
  found_at [] i p e is = absurd cc
  found_at (q ∷ ps) i p e is =
      elim (bytes_eq q.0 k) as (λ b. cond b (Some 0) (option_map suc (place_of k ps)) ≡ Some i → Some (shape p.1) ≡ cond b (Some (shape q.1)) (find k (pairs_of (map pair_shape ps)))) [
        | true ↦ λ e. subst (λ (n : ℕ). p ≡ get_or (q ∷ ps) n p → Some (shape p.1) ≡ Some (shape q.1)) (same_Some 0 i e) (λ same. ap (λ (r : Text × Tree). Some (shape r.1)) same) is
        | false ↦ λ e.
            let on = later (place_of k ps) i e in
            subst (λ (n : ℕ). p ≡ get_or (q ∷ ps) n p → Some (shape p.1) ≡ find k (pairs_of (map pair_shape ps))) on.2 (λ same. found_at ps on.0 p on.1 same) is
      ] e

-- ---- what is set under a key

module _ (v : Constant) (k : Text) (ks : List Text) where
  -- a key that no pair has is added
  pub set_missing : (ps : List (Text × Tree)) → place_of k ps ≡ None → set_under v k ks (pairs_of (map pair_shape ps)) ≡ option_map (pairs_onto (map pair_shape ps)) (added v k ks)
  set_missing [] e = nothing_before (added v k ks)
  set_missing (p ∷ ps) e =
      elim (bytes_eq p.0 k) as (λ b. cond b (Some 0) (option_map suc (place_of k ps)) ≡ None
      → cond b (with_shape p.0 (steps.set v ks (shape p.1)) (pairs_of (map pair_shape ps))) (option_map (pair p.0 (shape p.1)) (set_under v k ks (pairs_of (map pair_shape ps))))
      ≡ option_map (pairs_onto (pair_shape p ∷ map pair_shape ps)) (added v k ks)) [
        | true ↦ λ e. absurd cc
        | false ↦ λ e. ap (option_map (pair p.0 (shape p.1))) (set_missing ps (not_later (place_of k ps) e)) ∙ pair_before p.0 (shape p.1) (map pair_shape ps) (added v k ks)
      ] e

  -- the first pair of the key is set
  set_at : (ps : List (Text × Tree)) (i : ℕ) (p : Text × Tree) → place_of k ps ≡ Some i → p ≡ get_or ps i p
      → set_under v k ks (pairs_of (map pair_shape ps)) ≡ option_map (λ t. pairs_of (set (map pair_shape ps) i (p.0, t))) (steps.set v ks (shape p.1))
  set_at [] i p e is = absurd cc
  set_at (q ∷ ps) i p e is =
      let rest = pairs_of (map pair_shape ps) in
      elim (bytes_eq q.0 k) as (λ b. cond b (Some 0) (option_map suc (place_of k ps)) ≡ Some i
      → cond b (with_shape q.0 (steps.set v ks (shape q.1)) rest) (option_map (pair q.0 (shape q.1)) (set_under v k ks rest))
      ≡ option_map (λ t. pairs_of (set (pair_shape q ∷ map pair_shape ps) i (p.0, t))) (steps.set v ks (shape p.1))) [
        | true ↦ λ e.
            subst (λ (n : ℕ). p ≡ get_or (q ∷ ps) n p
            → with_shape q.0 (steps.set v ks (shape q.1)) rest ≡ option_map (λ t. pairs_of (set (pair_shape q ∷ map pair_shape ps) n (p.0, t))) (steps.set v ks (shape p.1))) (same_Some 0 i e)
            (λ same. subst (λ (r : Text × Tree). with_shape q.0 (steps.set v ks (shape q.1)) rest ≡ option_map (λ t. pair r.0 t rest) (steps.set v ks (shape r.1))) (sym same)
            (first_is_set q.0 (steps.set v ks (shape q.1)) rest)) is
        | false ↦ λ e.
            let on = later (place_of k ps) i e in
            subst (λ (n : ℕ). p ≡ get_or (q ∷ ps) n p
            → option_map (pair q.0 (shape q.1)) (set_under v k ks rest) ≡ option_map (λ t. pairs_of (set (pair_shape q ∷ map pair_shape ps) n (p.0, t))) (steps.set v ks (shape p.1))) on.2
            (λ same. ap (option_map (pair q.0 (shape q.1))) (set_at ps on.0 p on.1 same) ∙ later_is_set q.0 (shape q.1) (map pair_shape ps) on.0 p.0 (steps.set v ks (shape p.1))) is
      ] e

  module _ (ps : List (Text × Tree)) (i : ℕ) (p : Text × Tree) (e : place_of k ps ≡ Some i) (is : p ≡ get_or ps i p) where
    pub set_nowhere : None ≡ steps.set v ks (shape p.1) → None ≡ set_under v k ks (pairs_of (map pair_shape ps))
    set_nowhere to = ap (option_map (λ t. pairs_of (set (map pair_shape ps) i (p.0, t)))) to ∙ sym (set_at ps i p e is)

    -- the pair's tree is taken out, and what it becomes is put in its place
    pub set_done : (q : Text × Tree) (gone tree : Tree) → i < length ps → q ≡ get_or (set ps i (p.0, gone)) i q → Some (shape tree) ≡ steps.set v ks (shape p.1)
        → Some (pairs_of (map pair_shape (set (set ps i (p.0, gone)) i (q.0, tree)))) ≡ set_under v k ks (pairs_of (map pair_shape ps))
    set_done q gone tree lt at to =
        let same : q ≡ (p.0, gone) = at ∙ get_or-set_same ps i (p.0, gone) q lt in
        ap (λ (qs : List (Text × Tree)). Some (pairs_of (map pair_shape qs))) (set-set ps i (p.0, gone) (q.0, tree))
        ∙ ap (λ (qs : List (Text × Shape)). Some (pairs_of qs)) (map-set pair_shape ps i (q.0, tree))
        ∙ ap (λ (r : Text × Tree). Some (pairs_of (set (map pair_shape ps) i (r.0, shape tree)))) same
        ∙ ap (option_map (λ t. pairs_of (set (map pair_shape ps) i (p.0, t)))) to
        ∙ sym (set_at ps i p e is)

-- ---- a key that is added

onto_push : (ps : List (Text × Shape)) (k : Text) (s : Shape) (rest : Pairs) → pairs_onto (ps ++ (k, s) ∷ []) rest ≡ pairs_onto ps (pair k s rest)
onto_push [] k s rest = refl
onto_push (p ∷ ps) k s rest = ap (pair p.0 p.1) (onto_push ps k s rest)

onto_none : (ps : List (Text × Shape)) → pairs_onto ps no_pairs ≡ pairs_of ps
onto_none [] = refl
onto_none (p ∷ ps) = ap (pair p.0 p.1) (onto_none ps)

pushed : (ps : List (Text × Tree)) (p : Text × Tree) → map pair_shape (ps ++ p ∷ []) ≡ map pair_shape ps ++ pair_shape p ∷ []
pushed [] p = refl
pushed (q ∷ ps) p = ap (λ qs. pair_shape q ∷ qs) (pushed ps p)

-- a pair at the end
pub pairs_added : (found : List (Text × Tree)) (name : Text) (tree : Tree) (k : Text) (t : Shape) → name ≡ k → shape tree ≡ t → pairs_of (map pair_shape (found ++ (name, tree) ∷ [])) ≡ pairs_onto (map pair_shape found) (pair k t no_pairs)
pairs_added found name tree k t same shaped =
    ap pairs_of (pushed found (name, tree))
    ∙ sym (onto_none (map pair_shape found ++ (name, shape tree) ∷ []))
    ∙ onto_push (map pair_shape found) name (shape tree) no_pairs
    ∙ ap (λ (l : Text). pairs_onto (map pair_shape found) (pair l (shape tree) no_pairs)) same
    ∙ ap (λ (u : Shape). pairs_onto (map pair_shape found) (pair k u no_pairs)) shaped

-- the last key
pub last_added : (v : Constant) (k : Text) (ks : List Text) → length ks ≡ 0 → Some (pair k (tree_of v) no_pairs) ≡ added v k ks
last_added v k [] none = refl
last_added v k (l ∷ ls) none = absurd (omega arith)

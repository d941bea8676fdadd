use Rattle.std.proofs.Common.{◌≡◌, ◌∙◌, ◌<◌, ◌≤◌, ◌≢◌, ℕ, List, arith, rules, length, set, get_or, map, None, Some, option_map, ap, sym, subst, Vec, Global}
use denote.Param.Weighed.{most, at_most}
use Rattle.std.proofs.lemmas.List.{length-set, get_or-set_other}
use Rattle.std.proofs.lemmas.Result.{IfOk-weaker}
use Rattle.doc_tree.specs.Shape.{shape, shapes_of, pair_shape, pairs_of}
use Rattle.base_model.specs.declared.Str.{Str}
use Rattle.doc_tree.specs.declared.Tree.{Tree}
use Rattle.doc_tree.proofs.lemmas.Trees.{the_size, shape-Map}
use Rattle.policy_model.specs.Steps.{set_each}
use Rattle.policy_model.specs.Steps as steps
use Rattle.policy_values.specs.Lists.{place_of}
use Rattle.policy_values.proofs.InPlace.{each_on, each_done, set_missing, set_nowhere, set_done}
use Rattle.policy_values.proofs.Below.{rest, set_in_map}
use Rattle.policy_values.proofs.setting.+setting.Goals as goal

-- the item is one of those that the list began with
pub set_each-set-requires : goal.set_each-set-requires
set_each-set-requires t c =
    let trees = c.args.trees.items in
    let i = c.loop-i.i in
    let lt : i < length trees = omega (arith, c.loop-i-test.true) in
    let is : get_or trees i c.index_mut.result.now ≡ c.replace-tree.result = sym (c.replace-tree.ensures.value ∙ c.index_mut.ensures.value ∙ c.loop-i.invariant.ahead i c.index_mut.result.now (omega arith)) in
    let low : the_size c.replace-tree.result ≤ most the_size trees = subst (λ (x : Tree). the_size x ≤ most the_size trees) is (at_most the_size trees i c.index_mut.result.now lt) in
    search rules

pub set_each-loop-i-preserved : goal.set_each-loop-i-preserved
set_each-loop-i-preserved t c =
    let v = c.args.value.now in
    let path = c.args.path.now in
    let trees = c.loop-i.trees.items in
    let i = c.loop-i.i in
    record {
      whole = length-set (set trees i c.replace-tree.new.dest) i c.in-Some.tree ∙ length-set trees i c.replace-tree.new.dest ∙ c.loop-i.invariant.whole;
      ahead = λ k d le.
          let other : k ≢ i = omega arith in
          get_or-set_other (set trees i c.replace-tree.new.dest) i k c.in-Some.tree d other ∙ get_or-set_other trees i k c.replace-tree.new.dest d other ∙ c.loop-i.invariant.ahead k d (omega arith);
      made = each_on v path trees i (set_each v path (shapes_of (map shape c.args.trees.items))) c.loop-i.invariant.made c.index_mut.result.now c.replace-tree.new.dest c.in-Some.tree (omega arith) c.index_mut.ensures.value
          (sym (ap (option_map shape) c.in-Some.is) ∙ c.in_ok-tree.ensures ∙ ap (λ (x : Tree). steps.set v path (shape x)) c.replace-tree.ensures.value);
    }

pub set_each-returns : goal.set_each-returns
set_each-returns t c =
    let v = c.args.value.now in
    let path = c.args.path.now in
    each_done v path c.loop-i.trees.items c.loop-i.i (set_each v path (shapes_of (map shape c.args.trees.items))) c.loop-i.invariant.made (omega arith)

pub set_under-returns-in_default : goal.set_under-returns-in_default
set_under-returns-in_default t c =
    let v = c.args.value.now in
    let k = c.args.key.now in
    let ks = c.args.keys.now in
    let ps = c.args.pairs.items in
    IfOk-weaker c.added.result _ _ (λ x p. p ∙ sym (set_missing v k ks ps (sym (c.in_default.ensures.place ∙ ap (λ (qs : List (List ℕ × Tree)). place_of k qs) c.as_slice.ensures.value)))) c.added.ensures

pub set_under-returns-in_default-2 : goal.set_under-returns-in_default-2
set_under-returns-in_default-2 t c =
    let v = c.args.value.now in
    let k = c.args.key.now in
    let ks = c.args.keys.now in
    let ps = c.args.pairs.items in
    set_nowhere v k ks ps c.in-Some.i c.index_mut.result.now (sym (c.in-Some.ensures.place ∙ ap (λ (qs : List (List ℕ × Tree)). place_of k qs) c.as_slice.ensures.value)) c.index_mut.ensures.value
    (sym (ap (option_map shape) c.in_default-2.is) ∙ c.in_ok-tree.ensures ∙ ap (λ (x : Tree). steps.set v ks (shape x)) c.replace-tree.ensures.value)

pub set_under-returns : goal.set_under-returns
set_under-returns t c =
    let v = c.args.value.now in
    let k = c.args.key.now in
    let ks = c.args.keys.now in
    let ps = c.args.pairs.items in
    set_done v k ks ps c.in-Some.i c.index_mut.result.now (sym (c.in-Some.ensures.place ∙ ap (λ (qs : List (List ℕ × Tree)). place_of k qs) c.as_slice.ensures.value)) c.index_mut.ensures.value
    c.index_mut-2.result.now c.replace-tree.new.dest c.in-Some-2.tree (omega (arith, c.in-Some.ensures.inside, ap (λ (qs : List (List ℕ × Tree)). length qs) c.as_slice.ensures.value)) c.index_mut-2.ensures.value
    (sym (ap (option_map shape) c.in-Some-2.is) ∙ c.in_ok-tree.ensures ∙ ap (λ (x : Tree). steps.set v ks (shape x)) c.replace-tree.ensures.value)

pub set-returns-in-Some-2 : goal.set-returns-in-Some-2
set-returns-in-Some-2 t c =
    let v = c.args.value.now in
    let path = c.args.path.now in
    ap Some (shape-Map c.in-Some-2.pairs) ∙ set_in_map v path c.key-item.result (shape c.args.tree) (pairs_of (map pair_shape c.in-Map.pairs.items)) (Some (pairs_of (map pair_shape c.in-Some-2.pairs.items)))
    (ap shape c.in-Map.is ∙ shape-Map c.in-Map.pairs) c.in-len1-up.len_at_least c.key-item.is
    (sym (ap (option_map (λ (ps : Vec (Str × Tree) Global). pairs_of (map pair_shape ps.items))) c.in-Some-2.is) ∙ c.in_ok-pairs-in-Map.ensures
    ∙ ap (λ (ps : Vec (Str × Tree) Global). steps.set_under v c.key-item.result (rest path) (pairs_of (map pair_shape ps.items))) (c.replace-pairs.ensures.value ∙ c.in-Map.pairs-is))

pub set-returns-in-Map : goal.set-returns-in-Map
set-returns-in-Map t c =
    let v = c.args.value.now in
    let path = c.args.path.now in
    set_in_map v path c.key-item.result (shape c.args.tree) (pairs_of (map pair_shape c.in-Map.pairs.items)) None
    (ap shape c.in-Map.is ∙ shape-Map c.in-Map.pairs) c.in-len1-up.len_at_least c.key-item.is
    (sym (ap (option_map (λ (ps : Vec (Str × Tree) Global). pairs_of (map pair_shape ps.items))) c.in-None-2.is) ∙ c.in_ok-pairs-in-Map.ensures
    ∙ ap (λ (ps : Vec (Str × Tree) Global). steps.set_under v c.key-item.result (rest path) (pairs_of (map pair_shape ps.items))) (c.replace-pairs.ensures.value ∙ c.in-Map.pairs-is))

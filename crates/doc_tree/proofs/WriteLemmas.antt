-- The loops that make the values of a list's trees and of a map's pairs.
use Rattle.std.proofs.Common.{◌≡◌, ◌∙◌, ◌<◌, ◌≤◌, ◌+◌, ◌++◌, ◌∷◌, [], ℕ, suc, List, length, get_or, map, drop, refl, sym, ap, ap₂, arith, false, Vec, BTreeMap, String, drop-cons}
use Rattle.std.specs.Prelude.{Ok, Err}
use Rattle.std.proofs.lemmas.List.{drop_all}
use Rattle.std.specs.declared.alloc.Global.{Global}
use Rattle.serde_json.specs.View.{view, items_view, members_view}
use Rattle.serde_json.specs.Data.{Data, array, object, Items, no_items, item, Members, no_members, put}
use Rattle.serde_json.proofs.Views.{view-Array, view-Object}
use Rattle.serde_json.specs.declared.value.Value as Value
use Rattle.serde_json.specs.declared.value.Value.{Value}
use Rattle.doc_tree.specs.Shape.{shape, list, mapping, shapes_of, pair_shape, pairs_of}
use Rattle.doc_tree.specs.JsonText.{shapes_fit, pairs_fit}
use Rattle.doc_tree.specs.Writing.{value_of, values_of, members_put, MakesValue}
use Rattle.doc_tree.specs.declared.tree.Tree.{Tree}
use Rattle.doc_tree.specs.declared.write.TextFault.{TextFault}
use Rattle.doc_tree.specs.declared.write.TextFault.TheVariants.{WideInt, OutOfMemory}

abbrev pub tree_data : Tree → Data
tree_data t = value_of (shape t)

-- values, and behind them the rest of a list
abbrev followed : List Value → Items → Items
followed [] rest = rest
followed (v ∷ vs) rest = item (view v) (followed vs rest)

followed-last : (vs : List Value) (v : Value) (rest : Items) → followed (vs ++ v ∷ []) rest ≡ followed vs (item (view v) rest)
followed-last [] v rest = refl
followed-last (w ∷ vs) v rest = ap (item (view w)) (followed-last vs v rest)

followed-none : (vs : List Value) → followed vs no_items ≡ items_view vs
followed-none [] = refl
followed-none (v ∷ vs) = ap (item (view v)) (followed-none vs)

pub record ListMade (i : ℕ) (trees : List Tree) (values : List Value) : Type 0 where
  pub fit : shapes_fit (shapes_of (map shape (drop i trees))) ≡ shapes_fit (shapes_of (map shape trees))
  pub made : followed values (values_of (shapes_of (map shape (drop i trees)))) ≡ values_of (shapes_of (map shape trees))

pub record MapMade (i : ℕ) (pairs : List (List ℕ × Tree)) (members : Members) : Type 0 where
  pub fit : pairs_fit (pairs_of (map pair_shape (drop i pairs))) ≡ pairs_fit (pairs_of (map pair_shape pairs))
  pub made : members_put (pairs_of (map pair_shape (drop i pairs))) members ≡ members_put (pairs_of (map pair_shape pairs)) no_members

next_left : {A : Type 0} (i : ℕ) (xs : List A) (x : A) → i < length xs → x ≡ get_or xs i x → drop i xs ≡ x ∷ drop (i + 1) xs
next_left {A = A} i xs x h e = drop-cons xs i x h ∙ ap₂ (λ (y : A) (ys : List A). y ∷ ys) (sym e) (ap (λ (k : ℕ). drop k xs) (let s : suc i ≡ i + 1 = omega arith in s))

-- ---- the loop over the pairs of a map

module _ (i : ℕ) (pairs : List (List ℕ × Tree)) (members : Members) (so_far : MapMade i pairs members) where
  pub map_on : (next : Members) (p : List ℕ × Tree) (v : Value) → i < length pairs → p ≡ get_or pairs i p → MakesValue (shape p.1) (Ok v) → next ≡ put p.0 (view v) members → MapMade (i + 1) pairs next
  map_on next p v h is_p one inserted =
      let left = next_left i pairs p h is_p in
      let put_here : next ≡ put p.0 (tree_data p.1) members = inserted ∙ ap (λ (d : Data). put p.0 d members) one.1 in
      record {
        fit =
            let one : pairs_fit (pairs_of (map pair_shape (p ∷ drop (i + 1) pairs))) ≡ pairs_fit (pairs_of (map pair_shape (drop (i + 1) pairs))) = rw one.0 refl in
            sym one ∙ (ap (λ xs. pairs_fit (pairs_of (map pair_shape xs))) (sym left) ∙ so_far.fit);
        made =
            ap (members_put (pairs_of (map pair_shape (drop (i + 1) pairs)))) put_here
            ∙ (ap (λ xs. members_put (pairs_of (map pair_shape xs)) members) (sym left) ∙ so_far.made);
      }

  pub map_end : (m : BTreeMap (String Global) Value) → members ≡ members_view m.entries → length pairs ≤ i → MakesValue (mapping (pairs_of (map pair_shape pairs))) (Ok (Value.Object m))
  map_end m is past =
      let none : drop i pairs ≡ [] = drop_all i pairs past in
      let made : members ≡ members_put (pairs_of (map pair_shape pairs)) no_members = sym (ap (λ ps. members_put (pairs_of (map pair_shape ps)) members) none) ∙ so_far.made in
      (sym so_far.fit ∙ ap (λ ps. pairs_fit (pairs_of (map pair_shape ps))) none, view-Object m ∙ ap object (sym is ∙ made))

  pub map_stop : (p : List ℕ × Tree) (f : TextFault) → i < length pairs → p ≡ get_or pairs i p → MakesValue (shape p.1) (Err f) → MakesValue (mapping (pairs_of (map pair_shape pairs))) (Err f)
  map_stop p WideInt h is_p found =
      let here : pairs_fit (pairs_of (map pair_shape (p ∷ drop (i + 1) pairs))) ≡ false = rw found refl in
      sym so_far.fit ∙ (ap (λ xs. pairs_fit (pairs_of (map pair_shape xs))) (next_left i pairs p h is_p) ∙ here)
  map_stop p OutOfMemory h is_p found = tt

-- ---- the loop over the trees of a list

module _ (i : ℕ) (trees : List Tree) (values : List Value) (so_far : ListMade i trees values) where
  pub list_on : (next : List Value) (t : Tree) (v : Value) → i < length trees → t ≡ get_or trees i t → MakesValue (shape t) (Ok v) → next ≡ values ++ v ∷ [] → ListMade (i + 1) trees next
  list_on next t v h is_t one pushed =
      let left = next_left i trees t h is_t in
      record {
        fit =
            let skip : shapes_fit (shapes_of (map shape (t ∷ drop (i + 1) trees))) ≡ shapes_fit (shapes_of (map shape (drop (i + 1) trees))) = rw one.0 refl in
            sym skip ∙ (ap (λ ts. shapes_fit (shapes_of (map shape ts))) (sym left) ∙ so_far.fit);
        made =
            let skip : values_of (shapes_of (map shape (t ∷ drop (i + 1) trees))) ≡ item (view v) (values_of (shapes_of (map shape (drop (i + 1) trees)))) = ap (λ d. item d (values_of (shapes_of (map shape (drop (i + 1) trees))))) (sym one.1) in
            ap (λ vs. followed vs (values_of (shapes_of (map shape (drop (i + 1) trees))))) pushed
            ∙ (followed-last values v _ ∙ (ap (followed values) (sym skip) ∙ (ap (λ ts. followed values (values_of (shapes_of (map shape ts)))) (sym left) ∙ so_far.made)));
      }

  pub list_end : (v : Vec Value Global) → values ≡ v.items → length trees ≤ i → MakesValue (list (shapes_of (map shape trees))) (Ok (Value.Array v))
  list_end v is past =
      let none : drop i trees ≡ [] = drop_all i trees past in
      let made : items_view values ≡ values_of (shapes_of (map shape trees)) = sym (followed-none values) ∙ (sym (ap (λ ts. followed values (values_of (shapes_of (map shape ts)))) none) ∙ so_far.made) in
      (sym so_far.fit ∙ ap (λ ts. shapes_fit (shapes_of (map shape ts))) none, view-Array v ∙ ap array (ap items_view (sym is) ∙ made))

  pub list_stop : (t : Tree) (f : TextFault) → i < length trees → t ≡ get_or trees i t → MakesValue (shape t) (Err f) → MakesValue (list (shapes_of (map shape trees))) (Err f)
  list_stop t WideInt h is_t found =
      let here : shapes_fit (shapes_of (map shape (t ∷ drop (i + 1) trees))) ≡ false = rw found refl in
      sym so_far.fit ∙ (ap (λ ts. shapes_fit (shapes_of (map shape ts))) (next_left i trees t h is_t) ∙ here)
  list_stop t OutOfMemory h is_t found = tt

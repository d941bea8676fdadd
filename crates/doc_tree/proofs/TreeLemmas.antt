-- The loops that make the trees of a list's items and of a map's members.
use Rattle.std.proofs.Common.{◌≡◌, ◌∙◌, ◌∷◌, ◌++◌, ℕ, suc, ◌<◌, List, [], Some, None, map, refl, sym, ap, ap₂, string_bytes, arith}
use Rattle.serde_json.specs.View.{view, items_view, members_view}
use Rattle.serde_json.proofs.Views.{Entry, view-Array, view-Object}
use Rattle.serde_json.specs.Data.{Data, Items, Members, array, object}
use Rattle.std.specs.declared.alloc.Global.{Global}
use Rattle.std.proofs.Common.{◌-◌, Vec, BTreeMap, String, subst}
use Rattle.serde_json.specs.declared.value.Value as Value
use Rattle.serde_json.specs.declared.value.Value.{Value}
use Rattle.doc_tree.specs.Shape.{Shape, list, mapping, more, pair, shape, pair_shape, shapes_of, pairs_of}
use Rattle.std.proofs.lemmas.List.{append-nil, map-append}
use Rattle.std.proofs.Common.{append_assoc, length, length-append}
use Rattle.doc_tree.specs.JsonTree.{shape_of, items_shape, members_shape, not_whole, items_not_whole, members_not_whole}
use Rattle.doc_tree.specs.Reading.{within, items_within, members_within, MakesTree, MakesItems, MakesPairs, IsBelow}
use Rattle.std.specs.Prelude.{Result, Ok, Err, reverse, true, false}
use Rattle.base_model.specs.declared.path.PathStep.TheVariants.{Key, At}
use Rattle.doc_tree.specs.declared.read.Stop.{Stop}
use Rattle.doc_tree.specs.declared.read.Stop.TheVariants as stop
use Rattle.doc_tree.specs.declared.tree.Tree as Tree
use Rattle.doc_tree.specs.declared.tree.Tree.{Tree}
use Rattle.doc_tree.proofs.lemmas.Trees.{shape-List, shape-Map}

abbrev pub value_shape : Value → Shape
value_shape v = shape_of (view v)

abbrev pub entry_shape : Entry → List ℕ × Shape
entry_shape e = (string_bytes e.0, value_shape e.1)

-- the items before those that are left are made
pub record ItemsMade (n : ℕ) (items left : List Value) (trees : List Tree) : Type 0 where
  pub deep : items_within n (items_view left) ≡ items_within n (items_view items)
  pub done : List Value
  pub all : items ≡ done ++ left
  pub float : items_not_whole (length trees) (items_view left) ≡ items_not_whole 0 (items_view items)
  pub made : map shape trees ≡ map value_shape done

-- the members before those that are left are made
pub record MembersMade (n : ℕ) (entries left : List Entry) (pairs : List (List ℕ × Tree)) : Type 0 where
  pub deep : members_within n (members_view left) ≡ members_within n (members_view entries)
  pub done : List Entry
  pub all : entries ≡ done ++ left
  pub float : members_not_whole (members_view left) ≡ members_not_whole (members_view entries)
  pub made : map pair_shape pairs ≡ map entry_shape done

pub shapes_of-items : (vs : List Value) → shapes_of (map value_shape vs) ≡ items_shape (items_view vs)
shapes_of-items [] = refl
shapes_of-items (v ∷ vs) = ap (λ ss. more (value_shape v) ss) (shapes_of-items vs)

pub pairs_of-members : (es : List Entry) → pairs_of (map entry_shape es) ≡ members_shape (members_view es)
pairs_of-members [] = refl
pairs_of-members (e ∷ es) = ap (λ ps. pair (string_bytes e.0) (value_shape e.1) ps) (pairs_of-members es)

-- ---- the loops

pub members_on : (n : ℕ) (entries it left : List Entry) (pairs next : List (List ℕ × Tree)) (e : Entry) (name : List ℕ) (tree : Tree) → MembersMade n entries it pairs
    → it ≡ e ∷ left → within n (view e.1) ≡ true → not_whole (view e.1) ≡ None → shape tree ≡ value_shape e.1 → name ≡ string_bytes e.0 → next ≡ pairs ++ (name, tree) ∷ [] → MembersMade n entries left next
members_on n entries it left pairs next e name tree so_far is_next low is_whole shaped named pushed = record {
  deep =
      let skip : members_within n (members_view (e ∷ left)) ≡ members_within n (members_view left) = rw low refl in
      sym skip ∙ (ap (λ es. members_within n (members_view es)) (sym is_next) ∙ so_far.deep);
  done = so_far.done ++ e ∷ [];
  all = so_far.all ∙ (ap (λ es. so_far.done ++ es) is_next ∙ sym (append_assoc so_far.done (e ∷ []) left));
  float =
      let skip : members_not_whole (members_view (e ∷ left)) ≡ members_not_whole (members_view left) = rw is_whole refl in
      sym skip ∙ (ap (λ es. members_not_whole (members_view es)) (sym is_next) ∙ so_far.float);
  made =
      let last : pair_shape (name, tree) ≡ entry_shape e = ap₂ (λ (n : List ℕ) (s : Shape). (n, s)) named shaped in
      rw (pushed, map-append, map-append, so_far.made, last) refl;
}

pub members_end : (n : ℕ) (entries : List Entry) (pairs : List (List ℕ × Tree)) → MembersMade n entries [] pairs
    → (members_within n (members_view entries) ≡ true) × (members_not_whole (members_view entries) ≡ None) × (pairs_of (map pair_shape pairs) ≡ members_shape (members_view entries))
members_end n entries pairs so_far =
    let all : entries ≡ so_far.done = so_far.all ∙ append-nil so_far.done in
    (sym so_far.deep, sym so_far.float, ap pairs_of so_far.made ∙ (pairs_of-members so_far.done ∙ ap (λ es. members_shape (members_view es)) (sym all)))

pub items_begin : (n : ℕ) (items it : List Value) (trees : List Tree) → it ≡ items → trees ≡ [] → ItemsMade n items it trees
items_begin n items it trees is none = record {
  deep = ap (λ vs. items_within n (items_view vs)) is;
  done = [];
  all = sym is;
  float = rw (is, none) refl;
  made = ap (map shape) none;
}

pub items_on : (n : ℕ) (items it left : List Value) (trees next : List Tree) (v : Value) (tree : Tree) → ItemsMade n items it trees → it ≡ v ∷ left → within n (view v) ≡ true → not_whole (view v) ≡ None → shape tree ≡ value_shape v
    → next ≡ trees ++ tree ∷ [] → ItemsMade n items left next
items_on n items it left trees next v tree so_far is_next low is_whole shaped pushed = record {
  deep =
      let skip : items_within n (items_view (v ∷ left)) ≡ items_within n (items_view left) = rw low refl in
      sym skip ∙ (ap (λ vs. items_within n (items_view vs)) (sym is_next) ∙ so_far.deep);
  done = so_far.done ++ v ∷ [];
  all = so_far.all ∙ (ap (λ vs. so_far.done ++ vs) is_next ∙ sym (append_assoc so_far.done (v ∷ []) left));
  float =
      let count : length next ≡ suc (length trees) = omega (arith, ap length pushed, length-append trees (tree ∷ [])) in
      let skip : items_not_whole (length trees) (items_view (v ∷ left)) ≡ items_not_whole (suc (length trees)) (items_view left) = rw is_whole refl in
      ap (λ n. items_not_whole n (items_view left)) count ∙ (sym skip ∙ (ap (λ vs. items_not_whole (length trees) (items_view vs)) (sym is_next) ∙ so_far.float));
  made = rw (pushed, map-append, map-append, so_far.made) (ap (λ s. map value_shape so_far.done ++ s ∷ []) shaped);
}

pub items_end : (n : ℕ) (items it : List Value) (trees : List Tree) → ItemsMade n items it trees → length it ≡ 0
    → (items_within n (items_view items) ≡ true) × (items_not_whole 0 (items_view items) ≡ None) × (shapes_of (map shape trees) ≡ items_shape (items_view items))
items_end n items [] trees so_far none =
    let all : items ≡ so_far.done = so_far.all ∙ append-nil so_far.done in
    (sym so_far.deep, sym so_far.float, ap shapes_of so_far.made ∙ (shapes_of-items so_far.done ∙ ap (λ vs. items_shape (items_view vs)) (sym all)))
items_end n items (v ∷ it) trees so_far none = absurd (cc)

pub members_begin : (n : ℕ) (entries it : List Entry) (pairs : List (List ℕ × Tree)) → it ≡ entries → pairs ≡ [] → MembersMade n entries it pairs
members_begin n entries it pairs is none = record {
  deep = ap (λ es. members_within n (members_view es)) is;
  done = [];
  all = sym is;
  float = ap (λ es. members_not_whole (members_view es)) is;
  made = ap (map pair_shape) none;
}

-- ---- where an item or a member has no tree

module _ (n : ℕ) (items it left : List Value) (trees : List Tree) (v : Value) (so_far : ItemsMade n items it trees) (is_next : it ≡ v ∷ left) where
  pub items_stop : (i : ℕ) → i ≡ length trees → (s above : Stop) → MakesTree n (view v) (Err s) → IsBelow (At i) s above → MakesItems n (items_view items) (Err above)
  items_stop i count (stop.NotWhole old) (stop.NotWhole new) found is =
      let here : items_not_whole (length trees) (items_view (v ∷ left)) ≡ Some (reverse new.items) =
      rw found (ap Some (ap (λ (k : ℕ). At k ∷ reverse old.items) (sym count) ∙ sym is)) in
      sym so_far.float ∙ (ap (λ vs. items_not_whole (length trees) (items_view vs)) is_next ∙ here)
  items_stop i count (stop.NotWhole old) stop.TooDeep found is = absurd is
  items_stop i count stop.TooDeep (stop.NotWhole new) found is = absurd is
  items_stop i count stop.TooDeep stop.TooDeep found is =
      let here : items_within n (items_view (v ∷ left)) ≡ false = rw found refl in
      sym so_far.deep ∙ (ap (λ vs. items_within n (items_view vs)) is_next ∙ here)
  items_stop i count stop.OutOfMemory (stop.NotWhole new) found is = absurd is
  items_stop i count stop.OutOfMemory stop.TooDeep found is = absurd is
  items_stop i count s stop.OutOfMemory found is = tt

module _ (n : ℕ) (entries it left : List Entry) (pairs : List (List ℕ × Tree)) (e : Entry) (so_far : MembersMade n entries it pairs) (is_next : it ≡ e ∷ left) where
  pub members_stop : (s above : Stop) (name : List ℕ) → name ≡ string_bytes e.0 → MakesTree n (view e.1) (Err s) → IsBelow (Key name) s above → MakesPairs n (members_view entries) (Err above)
  members_stop (stop.NotWhole old) (stop.NotWhole new) name named found is =
      let here : members_not_whole (members_view (e ∷ left)) ≡ Some (reverse new.items) = rw (found, is, named) refl in
      sym so_far.float ∙ (ap (λ es. members_not_whole (members_view es)) is_next ∙ here)
  members_stop (stop.NotWhole old) stop.TooDeep name named found is = absurd is
  members_stop stop.TooDeep (stop.NotWhole new) name named found is = absurd is
  members_stop stop.TooDeep stop.TooDeep name named found is =
      let here : members_within n (members_view (e ∷ left)) ≡ false = rw found refl in
      sym so_far.deep ∙ (ap (λ es. members_within n (members_view es)) is_next ∙ here)
  members_stop stop.OutOfMemory (stop.NotWhole new) name named found is = absurd is
  members_stop stop.OutOfMemory stop.TooDeep name named found is = absurd is
  members_stop s stop.OutOfMemory name named found is = tt

-- ---- a value with items or members, from those

pub array_made : (n : ℕ) (ds : Items) (trees : Vec Tree Global) → MakesItems n ds (Ok trees) → MakesTree (suc n) (array ds) (Ok (Tree.List trees))
array_made n ds trees made = (made.0, made.1, shape-List trees ∙ ap list made.2)

pub array_stop : (n : ℕ) (ds : Items) (s : Stop) → MakesItems n ds (Err s) → MakesTree (suc n) (array ds) (Err s)
array_stop n ds (stop.NotWhole steps) found = found
array_stop n ds stop.TooDeep found = found
array_stop n ds stop.OutOfMemory found = tt

pub object_made : (n : ℕ) (ms : Members) (pairs : Vec (List ℕ × Tree) Global) → MakesPairs n ms (Ok pairs) → MakesTree (suc n) (object ms) (Ok (Tree.Map pairs))
object_made n ms pairs made = (made.0, made.1, shape-Map pairs ∙ ap mapping made.2)

pub object_stop : (n : ℕ) (ms : Members) (s : Stop) → MakesPairs n ms (Err s) → MakesTree (suc n) (object ms) (Err s)
object_stop n ms (stop.NotWhole steps) found = found
object_stop n ms stop.TooDeep found = found
object_stop n ms stop.OutOfMemory found = tt

-- what was made of a value's items or members was made of the value
made_of : (n : ℕ) (value : Value) (d : Data) (r : Result Tree Stop) → 0 < n → view value ≡ d → MakesTree (suc (n - 1)) d r → MakesTree n (view value) r
made_of n value d r h is made =
    let count : suc (n - 1) ≡ n = omega (arith, h) in
    subst (λ x. MakesTree n x r) (sym is) (subst (λ k. MakesTree k d r) count made)

pub of_array : (n : ℕ) (value : Value) (items : Vec Value Global) (r : Result Tree Stop) → 0 < n → value ≡ Value.Array items → MakesTree (suc (n - 1)) (array (items_view items.items)) r → MakesTree n (view value) r
of_array n value items r h is made = made_of n value (array (items_view items.items)) r h (ap view is ∙ view-Array items) made

pub of_object : (n : ℕ) (value : Value) (members : BTreeMap (String Global) Value) (r : Result Tree Stop) → 0 < n → value ≡ Value.Object members
    → MakesTree (suc (n - 1)) (object (members_view members.entries)) r → MakesTree n (view value) r
of_object n value members r h is made = made_of n value (object (members_view members.entries)) r h (ap view is ∙ view-Object members) made

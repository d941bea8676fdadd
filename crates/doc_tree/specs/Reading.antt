-- What the parts of the reader answer; its whole answer is in JsonTree.
use Rattle.std.specs.Prelude.{◌≡◌, ◌&&◌, ℕ, zero, suc, ℤ, pos, List, ◌∷◌, Bool, true, false, Option, Some, None, Result, Ok, Err, map, reverse, Vec}
use Rattle.std.specs.declared.alloc.Global.{Global}
use Rattle.serde_json.specs.Data.{Num, unsigned, negative, float, Data, null, boolean, number, string, array, object, Items, no_items, item, Members, no_members, member}
use Rattle.serde_json.specs.View.{view}
use Rattle.serde_json.specs.declared.value.Value.{Value}
use Rattle.base_model.specs.declared.path.PathStep.{PathStep}
use Rattle.doc_tree.specs.Shape.{shape, pair_shape, shapes_of, pairs_of}
use Rattle.doc_tree.specs.JsonTree.{shape_of, items_shape, members_shape, not_whole, items_not_whole, members_not_whole, json_of, tree_of_value, Gives}
use Rattle.doc_tree.specs.declared.tree.Tree.{Tree}
use Rattle.doc_tree.specs.declared.read.Stop.{Stop}
use Rattle.doc_tree.specs.declared.read.Stop.TheVariants as stop
use Rattle.doc_tree.specs.declared.read.JsonFault.{JsonFault}
use Rattle.doc_tree.specs.declared.read.JsonFault.TheVariants.{NotJson, OutOfMemory}

-- a value has at most so many levels, of which it is itself the first
abbrev mutual
  pub within : ℕ → Data → Bool
  within zero d = false
  within (suc n) (array ds) = items_within n ds
  within (suc n) (object ms) = members_within n ms
  within (suc n) null = true
  within (suc n) (boolean b) = true
  within (suc n) (number x) = true
  within (suc n) (string s) = true

  pub items_within : ℕ → Items → Bool
  items_within n no_items = true
  items_within n (item d ds) = within n d && items_within n ds

  pub members_within : ℕ → Members → Bool
  members_within n no_members = true
  members_within n (member k d ms) = within n d && members_within n ms

abbrev pub integer_of : Num → Option ℤ
integer_of (unsigned n) = Some (pos n)
integer_of (negative z) = Some z
integer_of (float x) = None

-- the tree of a value of at most n levels; a number that isn't whole may be found before a node that is too deep
abbrev pub MakesTree : ℕ → Data → Result Tree Stop → Type 0
MakesTree n d (Ok t) = (within n d ≡ true) × (not_whole d ≡ None) × (shape t ≡ shape_of d)
MakesTree n d (Err (stop.NotWhole steps)) = not_whole d ≡ Some (reverse steps.items)
MakesTree n d (Err stop.TooDeep) = within n d ≡ false
MakesTree n d (Err stop.OutOfMemory) = Unit {0}

abbrev pub MakesItems : ℕ → Items → Result (Vec Tree Global) Stop → Type 0
MakesItems n ds (Ok v) = (items_within n ds ≡ true) × (items_not_whole 0 ds ≡ None) × (shapes_of (map shape v.items) ≡ items_shape ds)
MakesItems n ds (Err (stop.NotWhole steps)) = items_not_whole 0 ds ≡ Some (reverse steps.items)
MakesItems n ds (Err stop.TooDeep) = items_within n ds ≡ false
MakesItems n ds (Err stop.OutOfMemory) = Unit {0}

abbrev pub MakesPairs : ℕ → Members → Result (Vec (List ℕ × Tree) Global) Stop → Type 0
MakesPairs n ms (Ok v) = (members_within n ms ≡ true) × (members_not_whole ms ≡ None) × (pairs_of (map pair_shape v.items) ≡ members_shape ms)
MakesPairs n ms (Err (stop.NotWhole steps)) = members_not_whole ms ≡ Some (reverse steps.items)
MakesPairs n ms (Err stop.TooDeep) = members_within n ms ≡ false
MakesPairs n ms (Err stop.OutOfMemory) = Unit {0}

-- the stop, seen from one step above
abbrev pub IsBelow : PathStep → Stop → Stop → Type 0
IsBelow step (stop.NotWhole old) (stop.NotWhole new) = reverse new.items ≡ step ∷ reverse old.items
IsBelow step (stop.NotWhole old) stop.TooDeep = ⊥
IsBelow step stop.TooDeep (stop.NotWhole new) = ⊥
IsBelow step stop.TooDeep stop.TooDeep = Unit {0}
IsBelow step stop.OutOfMemory (stop.NotWhole new) = ⊥
IsBelow step stop.OutOfMemory stop.TooDeep = ⊥
IsBelow step s stop.OutOfMemory = Unit {0}

-- the fault of a text whose value has its first number that isn't whole at this path
abbrev pub IsFaultAt : List ℕ → List PathStep → JsonFault → Type 0
IsFaultAt bytes path fault = (d : Data) → json_of bytes ≡ Some d → not_whole d ≡ Some path → Gives (tree_of_value (Some d)) (Err fault)

abbrev pub ReadsValue : List ℕ → Result Value JsonFault → Type 0
ReadsValue bytes (Ok v) = json_of bytes ≡ Some (view v)
ReadsValue bytes (Err NotJson) = json_of bytes ≡ None
ReadsValue bytes (Err OutOfMemory) = Unit {0}
ReadsValue bytes (Err _) = ⊥

-- What the parts of the writer answer; its whole answer is in JsonText.
use Rattle.std.specs.Prelude.{◌≡◌, true, false, Result, Ok, Err, unwrap_or}
use Rattle.serde_json.specs.Data.{Data, null, boolean, string, array, object, Items, no_items, item, Members, no_members, put}
use Rattle.serde_json.specs.View.{view}
use Rattle.serde_json.specs.declared.value.Value.{Value}
use Rattle.doc_tree.specs.Shape.{Shape, nothing, truth, whole, text, list, mapping, Shapes, no_shapes, more, Pairs, no_pairs, pair}
use Rattle.doc_tree.specs.JsonText.{number_of, fits}
use Rattle.doc_tree.specs.declared.write.TextFault.{TextFault}
use Rattle.doc_tree.specs.declared.write.TextFault.TheVariants.{WideInt, OutOfMemory}

-- the value of a tree, whose members went in one after another
abbrev mutual
  pub value_of : Shape → Data
  value_of nothing = null
  value_of (truth b) = boolean b
  value_of (whole z) = unwrap_or (number_of z) null
  value_of (text s) = string s
  value_of (list ss) = array (values_of ss)
  value_of (mapping ps) = object (members_put ps no_members)

  pub values_of : Shapes → Items
  values_of no_shapes = no_items
  values_of (more s ss) = item (value_of s) (values_of ss)

  pub members_put : Pairs → Members → Members
  members_put no_pairs found = found
  members_put (pair k s ps) found = members_put ps (put k (value_of s) found)

abbrev pub MakesValue : Shape → Result Value TextFault → Type 0
MakesValue s (Ok v) = (fits s ≡ true) × (view v ≡ value_of s)
MakesValue s (Err WideInt) = fits s ≡ false
MakesValue s (Err OutOfMemory) = Unit {0}

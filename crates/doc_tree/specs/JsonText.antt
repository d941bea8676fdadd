-- The JSON text of a tree: the compact text of `serde_json` for it, with each map's pairs in the order of their keys' bytes.
use Rattle.std.specs.Prelude.{◌≡◌, ◌^◌, ◌&&◌, ℕ, ℤ, pos, negsuc, List, Bool, true, false, Option, Some, None, Result, Ok, Err, nat_lt, if◌then◌else◌, is_some, unwrap_or, Vec}
use Rattle.std.specs.declared.alloc.Global.{Global}
use Rattle.serde_json.specs.Data.{Data, null, boolean, number, string, array, object, unsigned, negative, Items, no_items, item, Members, no_members, member}
use Rattle.serde_json.specs.Written.{compact_text}
use Rattle.doc_tree.specs.Shape.{Shape, nothing, truth, whole, text, list, mapping, Shapes, no_shapes, more, Pairs, no_pairs, pair}
use Rattle.doc_tree.specs.Order.{in_order}
use Rattle.doc_tree.specs.declared.write.TextFault.{TextFault}
use Rattle.doc_tree.specs.declared.write.TextFault.TheVariants.{WideInt, OutOfMemory}

-- the number, where it fits u64 or i64
abbrev pub number_of : ℤ → Option Data
number_of (pos n) = if nat_lt n (2 ^ 64) then Some (number (unsigned n)) else None
number_of (negsuc n) = if nat_lt n (2 ^ 63) then Some (number (negative (negsuc n))) else None

-- each whole number fits
abbrev mutual
  pub fits : Shape → Bool
  fits nothing = true
  fits (truth b) = true
  fits (whole z) = is_some (number_of z)
  fits (text s) = true
  fits (list ss) = shapes_fit ss
  fits (mapping ps) = pairs_fit ps

  pub shapes_fit : Shapes → Bool
  shapes_fit no_shapes = true
  shapes_fit (more s ss) = fits s && shapes_fit ss

  pub pairs_fit : Pairs → Bool
  pairs_fit no_pairs = true
  pairs_fit (pair k s ps) = fits s && pairs_fit ps

-- the value of a tree whose numbers fit, with the members as the pairs stand
abbrev mutual
  pub data_of : Shape → Data
  data_of nothing = null
  data_of (truth b) = boolean b
  data_of (whole z) = unwrap_or (number_of z) null
  data_of (text s) = string s
  data_of (list ss) = array (items_of ss)
  data_of (mapping ps) = object (members_of ps)

  pub items_of : Shapes → Items
  items_of no_shapes = no_items
  items_of (more s ss) = item (data_of s) (items_of ss)

  pub members_of : Pairs → Members
  members_of no_pairs = no_members
  members_of (pair k s ps) = member k (data_of s) (members_of ps)

abbrev pub json_text : Shape → List ℕ
json_text s = compact_text (data_of (in_order s))

-- the answer is the text, or that a number is too wide, or out of memory
abbrev pub WritesText : Shape → Result (Vec ℕ Global) TextFault → Type 0
WritesText s (Ok v) = (fits s ≡ true) × (v.items ≡ json_text s)
WritesText s (Err WideInt) = fits s ≡ false
WritesText s (Err OutOfMemory) = Unit {0}

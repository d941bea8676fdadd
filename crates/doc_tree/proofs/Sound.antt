-- What is true of each tree that a JSON text gives.
use Rattle.std.proofs.Common.{◌≡◌, ◌∙◌, ◌≤◌, ℕ, List, length, Bool, true, false, Option, Some, None, refl, sym, ap, arith}
use Rattle.std.specs.Prelude.{nat_lt, nat_le, Result, Ok, Err, IfOk, if◌then◌else◌}
use Rattle.std.specs.Str.{is_utf8}
use Rattle.std.proofs.lemmas.Bool.{ltb-false, leb-true}
use Rattle.serde_json.specs.Data.{Data}
use Rattle.serde_json.specs.Read.{read}
use Rattle.doc_tree.specs.Shape.{Shape, shape, is_distinct, levels, has_short_lists}
use Rattle.doc_tree.specs.Order.{is_in_order}
use Rattle.doc_tree.specs.JsonTree.{Steps, Gives, shape_of, not_whole, unless_found, whole_tree, tree_of_value, json_of, json_tree}
use Rattle.doc_tree.specs.declared.tree.Tree.{Tree}
use Rattle.doc_tree.specs.declared.read.JsonFault.{JsonFault}
use Rattle.doc_tree.specs.declared.read.JsonFault.TheVariants.{TooLarge, TooDeep}
use Rattle.doc_tree.proofs.Sorted.{distinct-from_order}
use Rattle.doc_tree.proofs.Fair.{read-IsOfText}
use Rattle.doc_tree.specs.declared.limits.TheConstants.{MAX_BYTES, MAX_LEVELS}

pub record IsSound (s : Shape) : Type 0 where
  pub order : is_in_order s ≡ true
  pub distinct : is_distinct s ≡ true
  pub depth : levels s ≤ MAX_LEVELS
  pub short : has_short_lists s ≡ true

json_of-read : (bytes : List ℕ) (d : Data) → json_of bytes ≡ Some d → read bytes ≡ Some d
unfolding json_of
json_of-read bytes d e = go (is_utf8 bytes) e where
  go : (b : Bool) → (if b then read bytes else None) ≡ Some d → read bytes ≡ Some d
  go true h = h
  go false h = absurd (cc)

pub json_of-short : (bytes : List ℕ) (d : Data) → nat_lt MAX_BYTES (length bytes) ≡ false → json_of bytes ≡ Some d → (is_in_order (shape_of d) ≡ true) × (has_short_lists (shape_of d) ≡ true)
json_of-short bytes d small e =
    let at_most : length bytes ≤ MAX_BYTES = ltb-false MAX_BYTES (length bytes) small in
    read-IsOfText bytes d (json_of-read bytes d e) (omega arith)

found_none : (o : Option Steps) (t s : Shape) → unless_found o t ≡ Ok s → t ≡ s
found_none None t s e = cc
found_none (Some steps) t s e = absurd (cc)

of_tree : (bytes : List ℕ) (s : Shape) → json_tree bytes ≡ Ok s → IsSound s
unfolding json_tree
of_tree bytes s e = size (nat_lt MAX_BYTES (length bytes)) refl e where
  value : (d : Data) → json_of bytes ≡ Some d → nat_lt MAX_BYTES (length bytes) ≡ false → (b : Bool) → nat_le (levels (shape_of d)) MAX_LEVELS ≡ b → (if b then whole_tree d else Err TooDeep) ≡ Ok s → IsSound s
  value d is small true fits h =
      let same : shape_of d ≡ s = found_none (not_whole d) (shape_of d) s h in
      let fair = json_of-short bytes d small is in
      let order : is_in_order s ≡ true = ap is_in_order (sym same) ∙ fair.0 in
      let depth : levels (shape_of d) ≤ MAX_LEVELS = leb-true (levels (shape_of d)) MAX_LEVELS fits in
      record { order = order; distinct = distinct-from_order s order; depth = omega (arith, ap levels same, depth); short = ap has_short_lists (sym same) ∙ fair.1 }
  value d is small false fits h = absurd (cc)

  text : (o : Option Data) → json_of bytes ≡ o → nat_lt MAX_BYTES (length bytes) ≡ false → tree_of_value o ≡ Ok s → IsSound s
  text None is small h = absurd (cc)
  text (Some d) is small h = value d is small (nat_le (levels (shape_of d)) MAX_LEVELS) refl h

  size : (b : Bool) → nat_lt MAX_BYTES (length bytes) ≡ b → (if b then Err TooLarge else tree_of_value (json_of bytes)) ≡ Ok s → IsSound s
  size true is h = absurd (cc)
  size false is h = text (json_of bytes) refl is h

pub sound : (bytes : List ℕ) (r : Result Tree JsonFault) (P : Tree → Type 0) → ((t : Tree) → IsSound (shape t) → P t) → Gives (json_tree bytes) r → IfOk r P
sound bytes (Ok t) P h g = h t (of_tree bytes (shape t) g)
sound bytes (Err f) P h g = tt

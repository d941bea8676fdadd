-- The defined answer for a text, case by case.
use Rattle.std.proofs.Common.{◌≡◌, ◌∙◌, ℕ, List, length, true, false, Some, None, refl, ap, sym}
use Rattle.std.specs.Prelude.{nat_lt, nat_le, Ok, Err}
use Rattle.serde_json.specs.Data.{Data}
use Rattle.doc_tree.specs.Shape.{Shape, levels}
use Rattle.doc_tree.specs.Reading.{within}
use Rattle.doc_tree.specs.JsonTree.{Steps, shape_of, not_whole, json_of, json_tree, tree_of_value}
use Rattle.doc_tree.specs.declared.read.JsonFault.TheVariants.{NotWhole, TooDeep, TooLarge}
use Rattle.doc_tree.proofs.Levels.{within-levels}
use Rattle.doc_tree.specs.declared.limits.TheConstants.{MAX_BYTES, MAX_LEVELS}

pub too_large : (bytes : List ℕ) → nat_lt MAX_BYTES (length bytes) ≡ true → json_tree bytes ≡ Err TooLarge
unfolding json_tree
too_large bytes h = rw h refl

pub in_limit : (bytes : List ℕ) → nat_lt MAX_BYTES (length bytes) ≡ false → json_tree bytes ≡ tree_of_value (json_of bytes)
unfolding json_tree
in_limit bytes h = rw h refl

pub too_deep : (d : Data) → within MAX_LEVELS d ≡ false → tree_of_value (Some d) ≡ Err TooDeep
too_deep d h = let past : nat_le (levels (shape_of d)) MAX_LEVELS ≡ false = sym (within-levels MAX_LEVELS d) ∙ h in rw past refl

pub first_found : (d : Data) (steps : Steps) → within MAX_LEVELS d ≡ true → not_whole d ≡ Some steps → tree_of_value (Some d) ≡ Err (NotWhole (record { steps = steps }))
first_found d steps h found = let low : nat_le (levels (shape_of d)) MAX_LEVELS ≡ true = sym (within-levels MAX_LEVELS d) ∙ h in rw (low, found) refl

pub whole : (d : Data) (s : Shape) → within MAX_LEVELS d ≡ true → not_whole d ≡ None → s ≡ shape_of d → tree_of_value (Some d) ≡ Ok s
whole d s h none is = let low : nat_le (levels (shape_of d)) MAX_LEVELS ≡ true = sym (within-levels MAX_LEVELS d) ∙ h in rw (low, none) (ap Ok (sym is))

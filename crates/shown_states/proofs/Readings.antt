-- What holds of each item of a list that is read.
use Rattle.std.proofs.Common.{◌≡◌, ℕ, suc, Bool, true, Option, refl}
use Rattle.std.specs.List.{list_all, cons_option}
use Rattle.base_model.specs.declared.PathStep.TheVariants.{At}
use Rattle.document_model.specs.Entries.{passes}
use Rattle.doc_tree.specs.Shape.{Shape, nothing, truth, whole, text, list, mapping, Shapes, no_shapes, more}
use Rattle.tree_schema.specs.Reading.{Reading, below, with_value, read_items, read_list}
use Rattle.tree_schema.proofs.lemmas.OnValues.{OnValue, on_below, on_next, on_with}
use Rattle.shown_states.proofs.Tests.{all_cons}

module _ {X : Type 0} (p : X → Bool) (read : Shape → Reading (Option X)) (each : (s : Shape) → OnValue (λ o. passes p o ≡ true) (read s)) where
  items_pass : (i : ℕ) (ss : Shapes) → OnValue (λ xs. list_all p xs ≡ true) (read_items read i ss)
  items_pass i no_shapes = refl
  items_pass i (more s ss) =
      on_next (λ o. passes p o ≡ true) (λ xs. list_all p xs ≡ true) (below (At i) (read s)) (λ o. with_value (cons_option o) (read_items read (suc i) ss))
      (on_below (λ o. passes p o ≡ true) (At i) (read s) (each s))
      (λ o h. on_with (λ xs. list_all p xs ≡ true) (λ xs. list_all p xs ≡ true) (cons_option o) (read_items read (suc i) ss) (items_pass (suc i) ss) (λ xs k. all_cons p o xs h k))

  -- each item that is read passes
  pub list_passes : (s : Shape) → OnValue (λ xs. list_all p xs ≡ true) (read_list read s)
  list_passes (list ss) = items_pass 0 ss
  list_passes nothing = tt
  list_passes (truth b) = tt
  list_passes (whole z) = tt
  list_passes (text t) = tt
  list_passes (mapping ps) = tt

-- Lists whose items differ in the order of their keys alone.
use Rattle.std.proofs.Common.{◌≡◌, ℕ, suc, Some, refl, ap}
use Rattle.std.specs.Prelude.{Option}
use Rattle.std.specs.List.{cons_option}
use Rattle.base_model.specs.declared.PathStep.TheVariants.{At}
use Rattle.doc_tree.specs.Shape.{Shape, Shapes, no_shapes, item_count}
use Rattle.tree_schema.specs.Reading.{Reading, at_once, below, with_value, read_items, read_list, item}
use Rattle.tree_schema.specs.Values.{Looked}
use Rattle.order_laws.specs.Alike.{AreAlike}
use Rattle.order_laws.specs.Reordered.{same, lists, maps, AreReordered, no_items, items}
use Rattle.order_laws.proofs.Readings.{alike_same, alike_equal, alike_below, alike_value, alike_then}
use Rattle.order_laws.proofs.Tables.{ReadsAlike, IsPlain, looked_alike}

items_alike : {X : Type 0} (read : Shape → Reading (Option X)) → ReadsAlike read → (i : ℕ) (ss ts : Shapes) → AreReordered ss ts → AreAlike (read_items read i ss) (read_items read i ts)
items_alike read alike i ss ts no_items = alike_same (read_items read i no_shapes)
items_alike read alike i ss ts (items s t rest others here there) =
    alike_then (below (At i) (read s)) (below (At i) (read t)) (λ x. with_value (cons_option x) (read_items read (suc i) rest)) (λ x. with_value (cons_option x) (read_items read (suc i) others))
    (alike_below (At i) (read s) (read t) (alike s t here))
    (λ x. alike_value (cons_option x) (read_items read (suc i) rest) (read_items read (suc i) others) (items_alike read alike (suc i) rest others there))

pub list_alike : {X : Type 0} (read : Shape → Reading (Option X)) → ReadsAlike read → ReadsAlike (λ s. read_list read s)
list_alike read alike s t (same u) = alike_same (read_list read u)
list_alike read alike s t (lists ss ts r) = items_alike read alike 0 ss ts r
list_alike read alike s t (maps ps qs r) = tt

-- an item that is looked at as a whole
pub item_alike : {X : Type 0} (look : Shape → Looked X) → IsPlain look → ReadsAlike (λ s. item look s)
item_alike look plain s t r = alike_equal (item look s) (item look t) (ap (λ v. with_value Some (at_once v)) (looked_alike look plain s t r))

-- as many items
pub same_count : (ss ts : Shapes) → AreReordered ss ts → item_count ss ≡ item_count ts
same_count ss ts no_items = refl
same_count ss ts (items s t rest others here there) = ap suc (same_count rest others there)

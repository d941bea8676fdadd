-- Generated workloads, as they are read again where they are printed.
use Rattle.std.specs.Prelude.{◌≡◌, ◌≤◌, Bool, true, ◌&&◌}
use Rattle.doc_tree.specs.Shape.{Shape, is_distinct, levels}
use Rattle.doc_tree.specs.declared.limits.TheConstants.{MAX_LEVELS}
use Rattle.document_model.specs.Entries.{is_document, has_short_doc}
use Rattle.yaml_text.specs.Layout.{is_filled_map}
use Rattle.top_model.specs.Orders.{Order, generating}
use Rattle.order_reading.specs.declared.workload.Workload.{Workload}

-- what the writer asks of a tree, so that its text is read again
pub record IsPrinted (tree : Shape) : Type 0 where
  pub distinct : is_distinct tree ≡ true
  pub depth : levels tree ≤ MAX_LEVELS
  pub filled : is_filled_map tree ≡ true

abbrev pub order_for : Workload → Order
order_for w = generating w.devices w.first w.second

-- what holds of each document that was read
abbrev pub has_right_workload : Workload → Bool
has_right_workload w = is_document w.first && has_short_doc w.first && is_document w.second && has_short_doc w.second

use Rattle.std.proofs.Common.{◌≡◌, true}
use Rattle.std.specs.Prelude.{◌≤◌}
use Rattle.doc_tree.specs.Shape.{shape, is_distinct, levels, has_short_lists}
use Rattle.doc_tree.specs.Order.{is_in_order}
use Rattle.doc_tree.proofs.Sound.{sound}
use Rattle.doc_tree.proofs.read.tree_of_json.Goals as goal
use Rattle.doc_tree.specs.declared.limits.TheConstants.{MAX_LEVELS}

pub returns-clause-order : goal.returns-clause-order
returns-clause-order c = sound c.args.bytes.now c.read_tree.result (λ t. is_in_order (shape t) ≡ true) (λ t s. s.order) c.read_tree.ensures

pub returns-clause-distinct : goal.returns-clause-distinct
returns-clause-distinct c = sound c.args.bytes.now c.read_tree.result (λ t. is_distinct (shape t) ≡ true) (λ t s. s.distinct) c.read_tree.ensures

pub returns-clause-depth : goal.returns-clause-depth
returns-clause-depth c = sound c.args.bytes.now c.read_tree.result (λ t. levels (shape t) ≤ MAX_LEVELS) (λ t s. s.depth) c.read_tree.ensures

pub returns-clause-short : goal.returns-clause-short
returns-clause-short c = sound c.args.bytes.now c.read_tree.result (λ t. has_short_lists (shape t) ≡ true) (λ t s. s.short) c.read_tree.ensures

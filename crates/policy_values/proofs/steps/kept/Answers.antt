use Rattle.std.proofs.Common.{◌∙◌, List, map, ap}
use Rattle.doc_tree.specs.Shape.{shape, shapes_of}
use Rattle.doc_tree.specs.declared.Tree.{Tree}
use Rattle.policy_model.specs.Steps.{kept}
use Rattle.policy_values.specs.Lists.{kept_of}
use Rattle.policy_values.proofs.Listed.{kept_done}
use Rattle.policy_values.proofs.Walks.{gathered_on}
use Rattle.policy_values.proofs.steps.kept.Goals as goal

pub loop-tree-preserved : goal.loop-tree-preserved
loop-tree-preserved c =
    gathered_on (kept_of c.args.value.now c.args.path.now) c.deref-tree-items.result.now c.loop-tree.tree-index (map shape c.loop-tree.found.items) _ c.tree-item.result c.loop-tree.invariant
    c.loop-tree-test.true c.tree-item.is c.in_ok-push_kept.ensures

pub returns : goal.returns
returns c =
    kept_done c.args.value.now c.args.path.now c.deref-tree-items.result.now c.loop-tree.tree-index _ c.loop-tree-test.false c.loop-tree.invariant
    ∙ ap (λ (ts : List Tree). kept c.args.value.now c.args.path.now (shapes_of (map shape ts))) c.deref-tree-items.ensures.value

use Rattle.std.proofs.Common.{◌∙◌, subst, Result}
use Rattle.doc_tree.specs.Shape.{Shape, shape}
use Rattle.top_model.specs.declared.Cause.{Cause}
use Rattle.order_reading.specs.Reading.{Answers}
use Rattle.order_reading.proofs.Workloads.{reprints}
use Rattle.order_reading.proofs.workload.reread.Goals as goal

pub returns : goal.returns
returns c =
    let text = c.in_ok-text.ensures in
    let bytes = c.as_slice.ensures.value in
    subst (λ (defined : Result Shape Cause). Answers shape defined c.yaml_tree.result)
    (reprints c.as_slice.result.now (shape c.args.tree.now) (bytes ∙ text.text) (λ fits. rw bytes (text.reads c.requires.filled (rw bytes at fits))))
    c.yaml_tree.ensures.read

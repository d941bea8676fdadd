use Rattle.std.proofs.Common.{◌∙◌, Bool, ap}
use Rattle.doc_tree.specs.Shape.{truth}
use Rattle.show_core.proofs.pairs.Pairs.put_bool.Goals as goal

pub returns : goal.returns
returns c held value h is = c.put.ensures held (truth value) h (c.bool_tree.ensures ∙ ap (λ (b : Bool). truth b) is)

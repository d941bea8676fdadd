use Rattle.std.proofs.Common.{◌∙◌, None, Option, option_map, ap}
use Rattle.std.proofs.lemmas.List.{map_push}
use Rattle.doc_tree.specs.Shape.{Shape, shape}
use Rattle.policy_values.specs.Tables.{seen}
use Rattle.policy_values.proofs.Walks.{same_on}
use Rattle.policy_values.proofs.values.unknown.Goals as goal

pub loop-capture-preserved : goal.loop-capture-preserved
loop-capture-preserved c =
    same_on {B = Option Shape} None c.args.captures.now c.loop-capture._capture-index (seen c.loop-capture.values.items) _ c.loop-capture.invariant c.loop-capture-test.true
    (ap seen c.in_ok-push.ensures.items ∙ map_push (option_map shape) c.loop-capture.values.items None)

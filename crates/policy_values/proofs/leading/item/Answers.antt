use Rattle.policy_values.proofs.Items.{item_got}
use Rattle.policy_values.proofs.leading.item.Goals as goal

pub returns : goal.returns
returns c = item_got c.args.trees.now c.args.position c.get.result c.get.ensures.lookup

use Rattle.std.proofs.Common.{◌∙◌}
use Rattle.net_lists.proofs.lemmas.Counting.{gone_apart}
use Rattle.net_edits.proofs.address_edits.count_without.Goals as goal

pub loop-name-init : goal.loop-name-init
loop-name-init c = c.requires.count ∙ gone_apart c.args.links.now c.args.goes.now c.requires.in_order c.requires.names

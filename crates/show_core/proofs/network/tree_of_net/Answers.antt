-- What a caller may write, by the laws of the network.
use Rattle.std.specs.Prelude.{None, Some}
use Rattle.show_core.proofs.Returned.{returned_distinct, returned_short, returned_depth}
use Rattle.show_core.proofs.network.tree_of_net.Goals as goal

pub returns-in-None-clause-distinct : goal.returns-in-None-clause-distinct
returns-in-None-clause-distinct c = returned_distinct c.args.net.now c.laws.ensures.facts None c.whole_tree.result c.whole_tree.ensures

pub returns-in-None-clause-short : goal.returns-in-None-clause-short
returns-in-None-clause-short c = returned_short c.args.net.now c.laws.ensures.facts None c.whole_tree.result c.whole_tree.ensures

pub returns-in-None-clause-depth : goal.returns-in-None-clause-depth
returns-in-None-clause-depth c = returned_depth c.args.net.now c.laws.ensures.facts None c.whole_tree.result c.whole_tree.ensures

pub returns-in-Some-clause-distinct : goal.returns-in-Some-clause-distinct
returns-in-Some-clause-distinct c = returned_distinct c.args.net.now c.laws.ensures.facts (Some c.in-Some.name.now) c.named_tree.result c.named_tree.ensures

pub returns-in-Some-clause-short : goal.returns-in-Some-clause-short
returns-in-Some-clause-short c = returned_short c.args.net.now c.laws.ensures.facts (Some c.in-Some.name.now) c.named_tree.result c.named_tree.ensures

pub returns-in-Some-clause-depth : goal.returns-in-Some-clause-depth
returns-in-Some-clause-depth c = returned_depth c.args.net.now c.laws.ensures.facts (Some c.in-Some.name.now) c.named_tree.result c.named_tree.ensures

use Rattle.std.proofs.Common.{sym, subst, ◌∙◌}
use Rattle.reach.specs.Reach.{IsGraph}
use Rattle.merge_model.specs.Members.{goes_with, is_dropped}
use Rattle.link_order.proofs.lemmas.Marked.{all_marked, rows_graph}
use Rattle.link_order.proofs.ranking.reached.Goals as goal

pub closure-requires-clause-graph : goal.closure-requires-clause-graph
closure-requires-clause-graph c =
    subst IsGraph (sym (c.deref.ensures.value ∙ c.in_ok-arrows.ensures)) (rows_graph (goes_with c.args.entries.now) (is_dropped c.args.net.now.links c.args.entries.now) c.args.net.now.links)

pub returns : goal.returns
returns c =
    all_marked (goes_with c.args.entries.now) (is_dropped c.args.net.now.links c.args.entries.now) c.args.net.now.links c.deref.result.now c.args.starts.now c.in_ok-marks.marks.items
    (c.deref.ensures.value ∙ c.in_ok-arrows.ensures) c.requires c.in_ok-marks.ensures

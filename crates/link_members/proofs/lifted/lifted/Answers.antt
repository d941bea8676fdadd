use Rattle.std.proofs.Common.{sym, subst, ◌∙◌}
use Rattle.reach.specs.Reach.{IsGraph}
use Rattle.link_members.proofs.Raised.{all_lifted, lifts_graph}
use Rattle.link_members.proofs.lifted.lifted.Goals as goal

pub closure-requires-clause-graph : goal.closure-requires-clause-graph
closure-requires-clause-graph c = subst IsGraph (sym (c.deref.ensures.value ∙ c.in_ok-arrows.ensures)) (lifts_graph c.args.members.now)

pub returns : goal.returns
returns c =
    all_lifted c.args.members.now c.deref.result.now c.deref-2.result.now c.in_ok-marks.marks.items c.requires
    (c.deref.ensures.value ∙ c.in_ok-arrows.ensures) (c.deref-2.ensures.value ∙ c.in_ok-starts.ensures) c.in_ok-marks.ensures

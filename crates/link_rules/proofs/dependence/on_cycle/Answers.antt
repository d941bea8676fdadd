use Rattle.std.proofs.Common.{length, sym, ap, ◌∙◌, subst, false, arith}
use Rattle.reach.specs.Reach.{is_reached, IsGraph}
use Rattle.reach.proofs.lemmas.Marks.{any_default}
use Rattle.net_model.specs.Links.{is_named}
use Rattle.net_model.specs.Dependence.{depends_on, on_cycle}
use Rattle.link_rules.proofs.Below.{below_graph, marked_below}
use Rattle.link_rules.proofs.dependence.on_cycle.Goals as goal

pub closure-requires-clause-graph : goal.closure-requires-clause-graph
closure-requires-clause-graph c = subst IsGraph (sym c.requires.arrows) (below_graph c.args.links.now)

pub returns : goal.returns
returns c = λ d.
    let links = c.args.links.now in
    let here = c.index-links-at.result in
    let marks = c.in_ok-reached.reached.items in
    let marked = marked_below links (is_named here.name) here c.args.arrows.now c.deref.result.now marks c.requires.arrows (c.deref.ensures.value ∙ c.in_ok-starts.ensures) c.in_ok-reached.ensures c.args.at c.requires.inside in
    c.index.ensures
    ∙ any_default marks c.args.at c.index.result.now false (omega (arith, marked.1, c.requires.inside))
    ∙ marked.0
    ∙ ap (is_reached depends_on (is_named here.name) links (length links)) (sym c.index-links-at.is)
    ∙ ap (on_cycle links) (c.index-links-at.is ∙ any_default links c.args.at here d c.requires.inside)

use Rattle.std.proofs.Common.{◌≡◌, true, length, Some, sym, ap, subst, ◌∙◌}
use Rattle.net_model.specs.Dependence.{on_cycle}
use Rattle.net_model.specs.declared.Link.{Link}
use Rattle.link_rules.specs.Candidates.{Excludes}
use Rattle.link_rules.proofs.Candidates.{least_first}
use Rattle.link_rules.proofs.dependence.least_of_some.Goals as goal

pub returns-then-branch : goal.returns-then-branch
returns-then-branch c =
    let links = c.args.links.now in
    let here = c.index-links-at.result in
    let on : on_cycle links here ≡ true = ap (on_cycle links) c.index-links-at.is ∙ sym (c.in_ok-on_cycle.ensures here) ∙ c.if-branch.true in
    ap (λ (l : Link). Some l.name) (sym c.index-links-at.is)
    ∙ least_first links c.args.arrows.now c.deref.result.now c.in-Some.at here c.requires.names c.requires.arrows
    (subst (Excludes c.args.arrows.now (length c.args.arrows.now)) (sym c.deref.ensures.value) c.in_ok-may.ensures) c.in-Some.ensures c.index-links-at.is on

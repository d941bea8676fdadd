use Rattle.std.proofs.Common.{◌≡◌, true, get_or, subst, ◌∙◌, rules}
use Rattle.std.specs.Ordering.{is_lt}
use Rattle.reach.proofs.lemmas.Marks.{any_default}
use Rattle.net_model.specs.Order.{name_cmp, link_cmp}
use Rattle.link_rules.proofs.Candidates.{marked_less}
use Rattle.link_rules.proofs.dependence.lesser_of.Goals as goal

pub returns-then-lt : goal.returns-then-lt
returns-then-lt c =
    let links = c.args.links.now in
    let a = c.index-links-at.result in
    let b = c.index-links-before.result in
    let less : is_lt (name_cmp a.name b.name) ≡ true = search rules in
    marked_less links c.args.may.now c.args.at c.args.before c.requires.inside c.requires.least (λ d.
    subst (λ x. is_lt (link_cmp x (get_or links c.args.before d)) ≡ true) (c.index-links-at.is ∙ any_default links c.args.at a d c.requires.inside)
    (subst (λ y. is_lt (link_cmp a y) ≡ true) (c.index-links-before.is ∙ any_default links c.args.before b d c.requires.least.inside) less))

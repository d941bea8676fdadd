use Rattle.std.proofs.Common.{arith, ◌∙◌, ◌<◌, ◌++◌, ◌∷◌, [], ℕ, List, length, take, ap, sym}
use Rattle.net_model.specs.declared.link.Link.{Link}
use Rattle.net_model.specs.Dependence.{has_base}
use Rattle.net_model.specs.OfName.{over}
use Rattle.net_model.proofs.lemmas.Listing.{keys_more}
use Rattle.net_index.proofs.build.add_bases.Goals as goal

pub loop-at-preserved : goal.loop-at-preserved
loop-at-preserved c = λ k.
    let inside : c.loop-at.at < length c.args.links.now = omega (arith, c.loop-at-test.true, c.loop-at.auto.at-end) in
    let x : Link = c.index-links-at.result in
    c.in_ok-add_base.ensures k ∙ ap (λ (ys : List (List ℕ)). ys ++ over (x ∷ []) k) (c.loop-at.invariant k)
    ∙ ap (λ (y : Link). over (take c.loop-at.at c.args.links.now) k ++ over (y ∷ []) k) c.index-links-at.is
    ∙ sym (keys_more (λ (l : Link). l.name) (λ l. has_base l.kind k) c.args.links.now c.loop-at.at x inside)

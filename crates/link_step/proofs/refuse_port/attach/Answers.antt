use Rattle.std.proofs.Common.{◌≡◌, ◌∙◌, ℕ, Bool, true, false, not, ◌&&◌, List, ◌∷◌, sym, ap, refl, rules}
use Rattle.net_model.specs.Dependence.{no_cycle}
use Rattle.net_model.specs.declared.link.Link.{Link}
use Rattle.kernel_model.specs.Words.{has_link}
use Rattle.net_model.specs.Edits.{edit_link, attached}
use Rattle.kernel_model.specs.Outcome.{first_true}
use Rattle.kernel_model.specs.declared.refusal.TheConstants.{NO_LINK, CYCLE}
use Rattle.link_step.specs.Pairs.{pair_refusals}
use Rattle.link_step.proofs.refuse_port.attach.Goals as goal

-- where the first two don't hold, the others decide
later : (j k : ℕ) (a b : Bool) (tests : List (ℕ × Bool)) → a ≡ false → b ≡ false → first_true ((j, a) ∷ (k, b) ∷ tests) ≡ first_true tests
later j k a b tests h i = rw (h, i) refl

pub returns : goal.returns
returns c =
    let links : List Link = c.args.net.now.links in
    let port : List ℕ = c.args.port.now in
    let controller : List ℕ = c.args.controller.now in
    let there : (has_link port links && has_link controller links) ≡ true = search rules in
    let none : not (no_cycle (edit_link port (attached controller) links)) ≡ false = sym c.in_ok-makes_cycle.ensures ∙ c.if-branch.false in
    c.pair.ensures
    ∙ ap (λ (ls : List Link). first_true (pair_refusals port controller ls)) (c.deref-2.ensures.value ∙ c.links-links.ensures)
    ∙ sym (later NO_LINK CYCLE (not (has_link port links && has_link controller links)) (not (no_cycle (edit_link port (attached controller) links))) (pair_refusals port controller links) (ap not there) none)

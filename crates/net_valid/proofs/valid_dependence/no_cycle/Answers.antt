use Rattle.std.proofs.Common.{ℕ, List, sym, subst}
use Rattle.reach.specs.Reach.{IsGraph}
use Rattle.reach.specs.Cycle.{Decides}
use Rattle.net_model.proofs.lemmas.Cycles.{decided_links}
use Rattle.net_model.proofs.lemmas.Drawn.{drawn-IsGraph}
use Rattle.net_valid.proofs.valid_dependence.no_cycle.Goals as goal

pub has_cycle-requires : goal.has_cycle-requires
has_cycle-requires c = subst IsGraph (sym c.deref.ensures.value) (drawn-IsGraph c.args.links.now c.in_ok-arrows.arrows.items c.in_ok-arrows.ensures)

pub returns : goal.returns
returns c =
    let decides = subst (λ (a : List (List ℕ)). Decides c.in_ok-has_cycle.field-0 a) c.deref.ensures.value c.in_ok-has_cycle.ensures in
    decided_links c.args.links.now c.requires c.in_ok-has_cycle.field-0 c.in_ok-arrows.arrows.items c.in_ok-arrows.ensures decides

use Rattle.std.proofs.Common.{◌≡◌, ◌∙◌, ℕ, List, [], sym, ap}
use Rattle.net_model.specs.Words.{is_among}
use Rattle.net_model.specs.Edits.{without}
use Rattle.link_step.proofs.Names.{none_long}
use Rattle.link_step.proofs.Agree.{without_none}
use Rattle.link_step.proofs.made.remove.Goals as goal

pub returns-else-not-is_empty : goal.returns-else-not-is_empty
returns-else-not-is_empty c =
    let none : c.args.goes.now ≡ [] = none_long c.args.goes.now (sym c.is_empty.ensures ∙ c.if-not-is_empty.false) in
    sym (ap (λ (ns : List (List ℕ)). without (is_among ns) c.args.parts.now) none ∙ without_none c.args.parts.now)

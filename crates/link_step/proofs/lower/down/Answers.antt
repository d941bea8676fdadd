use Rattle.std.proofs.Common.{◌≡◌, ◌∙◌, ℕ, List, ap}
use Rattle.net_model.specs.Words.{is_among}
use Rattle.net_model.specs.Lists.{NetData}
use Rattle.kernel_model.specs.UpDown.{fallen}
use Rattle.link_step.specs.declared.hanging.Affected.TheVariants.{Up}
use Rattle.link_step.specs.Hanging.{affected_on}
use Rattle.link_step.proofs.Falling.{fallen_up}
use Rattle.link_step.proofs.lower.down.Goals as goal

pub returns-clause-ok : goal.returns-clause-ok
returns-clause-ok c =
    let net : NetData = c.args.parts.now in
    let root : List ℕ = c.args.name.now in
    let names : c.deref.result.now ≡ affected_on Up net.links root = c.deref.ensures.value ∙ c.in_ok-falls.ensures.names in
    c.lower_all.ensures ∙ ap (λ (ns : List (List ℕ)). fallen (is_among ns) net) names ∙ fallen_up net c.requires root

use Rattle.std.proofs.Common.{◌≡◌, ◌∙◌, ◌++◌, ℕ, List, [], ◌∷◌, map, ap}
use Rattle.net_model.specs.Lists.{NetData}
use Rattle.net_model.specs.declared.link.Link.{Link}
use Rattle.link_step.specs.declared.hanging.Affected.TheVariants.{Above}
use Rattle.link_step.specs.Hanging.{affected_on}
use Rattle.link_step.specs.Clamped.{clamped}
use Rattle.link_step.proofs.Clamping.{clamped_all}
use Rattle.link_step.proofs.mtu.set_mtu.Goals as goal

pub returns-clause-ok : goal.returns-clause-ok
returns-clause-ok c =
    let net : NetData = c.args.parts.now in
    let root : List ℕ = c.args.name.now in
    let mtu : ℕ = c.args.mtu in
    let names : c.deref.result.now ≡ affected_on (Above mtu) net.links root ++ root ∷ [] =
    c.deref.ensures.value ∙ c.in_ok-push.ensures.items ∙ ap (λ (ns : List (List ℕ)). ns ++ root ∷ []) c.in_ok-over.ensures.names in
    c.clamp_all.ensures
    ∙ ap (λ (ls : List Link). let n : NetData = record net { links = ls } in n) (ap (λ (ns : List (List ℕ)). map (clamped root mtu ns) net.links) names ∙ clamped_all net c.requires root mtu)

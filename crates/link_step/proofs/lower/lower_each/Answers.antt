use Rattle.std.proofs.Common.{◌∙◌, ◌++◌, ℕ, [], ◌∷◌, List, map, take, refl, sym, ap}
use Rattle.std.proofs.lemmas.List.{take_more}
use Rattle.net_model.specs.Words.{rises}
use Rattle.net_model.specs.Order.{link_cmp}
use Rattle.net_model.specs.Edits.{edit_link}
use Rattle.net_model.specs.Lists.{NetData}
use Rattle.net_model.specs.declared.link.Link.{Link}
use Rattle.link_step.proofs.Writing.{written_on, down_link, down_twice, written_none, written_more, rises_written}
use Rattle.link_step.proofs.lower.lower_each.Goals as goal

-- the network with these links
abbrev with_links : NetData → List Link → NetData
with_links net ls = record net { links = ls }

pub loop-name-init : goal.loop-name-init
loop-name-init c = ap (with_links c.args.parts.now) (written_none down_link c.args.parts.now.links)

pub lower-requires : goal.lower-requires
lower-requires c =
    ap (λ (n : NetData). rises link_cmp n.links) c.loop-name.invariant
    ∙ rises_written down_link (λ l. refl) down_twice (take c.loop-name.name-index c.args.falls.now) c.args.parts.now.links c.requires

pub loop-name-preserved : goal.loop-name-preserved
loop-name-preserved c =
    let net : NetData = c.args.parts.now in
    let falls : List (List ℕ) = c.args.falls.now in
    let names : List (List ℕ) = take c.loop-name.name-index falls in
    c.lower.ensures
    ∙ ap (λ (n : NetData). with_links n (edit_link c.name-item.result down_link n.links)) c.loop-name.invariant
    ∙ ap (with_links net) (written_more down_link (λ l. refl) down_twice names c.name-item.result net.links
    ∙ ap (λ (ns : List (List ℕ)). map (written_on down_link ns) net.links)
    (ap (λ (n : List ℕ). names ++ n ∷ []) c.name-item.is ∙ sym (take_more falls c.loop-name.name-index c.name-item.result c.loop-name-test.true)))

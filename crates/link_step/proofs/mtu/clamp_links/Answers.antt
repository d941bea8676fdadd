use Rattle.std.proofs.Common.{◌≡◌, ◌∙◌, ◌++◌, ℕ, [], ◌∷◌, true, List, map, take, refl, sym, ap, subst}
use Rattle.std.proofs.lemmas.List.{take_more}
use Rattle.net_model.specs.Words.{rises}
use Rattle.net_model.specs.Order.{link_cmp}
use Rattle.net_model.specs.Edits.{edit_link}
use Rattle.net_model.specs.declared.link.Link.{Link}
use Rattle.kernel_model.specs.Settings.{with_mtu}
use Rattle.link_step.proofs.Writing.{written_on, mtu_twice, written_none, written_more, rises_written}
use Rattle.link_step.proofs.mtu.clamp_links.Goals as goal

pub loop-link-init : goal.loop-link-init
loop-link-init c = written_none (with_mtu c.args.name.now c.args.mtu true) c.args.links.now

pub clamp_named-requires : goal.clamp_named-requires
clamp_named-requires c =
    subst (λ (ls : List Link). rises link_cmp ls ≡ true) (sym c.loop-link.invariant) (rises_written (with_mtu c.args.name.now c.args.mtu true) (λ l. refl) (mtu_twice c.args.name.now c.args.mtu) (take c.loop-link.link-index c.args.over.now) c.args.links.now c.requires)

pub loop-link-preserved : goal.loop-link-preserved
loop-link-preserved c =
    let over : List (List ℕ) = c.args.over.now in
    let names : List (List ℕ) = take c.loop-link.link-index over in
    c.clamp_named.ensures
    ∙ ap (edit_link c.link-item.result (with_mtu c.args.name.now c.args.mtu true)) c.loop-link.invariant
    ∙ written_more (with_mtu c.args.name.now c.args.mtu true) (λ l. refl) (mtu_twice c.args.name.now c.args.mtu) names c.link-item.result c.args.links.now
    ∙ ap (λ (ns : List (List ℕ)). map (written_on (with_mtu c.args.name.now c.args.mtu true) ns) c.args.links.now)
    (ap (λ (n : List ℕ). names ++ n ∷ []) c.link-item.is ∙ sym (take_more over c.loop-link.link-index c.link-item.result c.loop-link-test.true))

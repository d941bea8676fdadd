use Rattle.std.proofs.Common.{ℕ, List, true, refl, sym, subst}
use Rattle.net_model.specs.declared.Link.{Link}
use Rattle.net_index.specs.Indexed.{IsIndexed}
use Rattle.net_index.proofs.lemmas.LinkIndexes.{kept_all}
use Rattle.kernel_model.specs.Settings.{with_mtu}
use Rattle.link_step.specs.Clamped.{clamped}
use Rattle.link_step.proofs.Writing.{written_keeps}
use Rattle.link_step.proofs.mtu.clamp_all.Goals as goal

pub invariant_of-parts : goal.invariant_of-parts
invariant_of-parts c =
    let g : Link → Link = with_mtu c.args.name.now c.args.mtu true in
    let over : List (List ℕ) = c.args.over.now in
    subst (λ (ls : List Link). IsIndexed ls c.parts.inside.routes.items c.parts.inside.indexes c.parts.inside.addresses) (sym c.clamp_each.ensures)
    (kept_all (clamped c.args.name.now c.args.mtu over) (written_keeps (λ l. l.name) g (λ l. refl) over) (written_keeps (λ l. l.kind) g (λ l. refl) over) (written_keeps (λ l. l.controller) g (λ l. refl) over) (written_keeps (λ l. l.addrs) g (λ l. refl) over)
    c.parts.inside.links.items c.parts.inside.routes.items c.parts.inside.indexes c.parts.inside.addresses c.parts.invariant)

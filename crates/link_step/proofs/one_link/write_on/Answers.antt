use Rattle.std.proofs.Common.{List, sym, subst}
use Rattle.net_model.specs.declared.Link.{Link}
use Rattle.net_index.specs.Indexed.{IsIndexed}
use Rattle.net_index.proofs.lemmas.LinkIndexes.{kept_one}
use Rattle.link_step.specs.OneLink.{written}
use Rattle.link_step.proofs.Kept.{written_name, written_kind, written_controller, written_addrs}
use Rattle.link_step.proofs.one_link.write_on.Goals as goal

pub invariant_of-parts : goal.invariant_of-parts
invariant_of-parts c =
    subst (λ (ls : List Link). IsIndexed ls c.parts.inside.routes.items c.parts.inside.indexes c.parts.inside.addresses) (sym c.write_each.ensures)
    (kept_one c.args.name.now (written c.args.call.now) (written_name c.args.call.now) (written_kind c.args.call.now) (written_controller c.args.call.now) (written_addrs c.args.call.now) c.parts.inside.links.items c.parts.inside.routes.items c.parts.inside.indexes c.parts.inside.addresses c.parts.invariant)

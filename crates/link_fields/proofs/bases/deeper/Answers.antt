use Rattle.std.proofs.Common.{get_or, sym, subst}
use Rattle.link_fields.specs.Bases.{SuitsWithin}
use Rattle.link_fields.proofs.Settled.{one_further}
use Rattle.link_fields.proofs.bases.deeper.Goals as goal

pub returns : goal.returns
returns c =
    let ms = c.args.members.now in
    let m = c.args.member.now in
    let f = c.fields_at-fields.result in
    let b = get_or ms c.in-Some.base m in
    one_further ms c.args.steps m b f _ (c.in-Some.ensures.1 m)
    (subst (SuitsWithin ms c.args.steps b) (sym c.fields_at-fields.ensures) (c.requires.right c.in-Some.base c.in-Some.ensures.0 m f))
    c.up_over.ensures c.mtu_over.ensures c.mac_over.ensures

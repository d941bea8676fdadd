use Rattle.std.proofs.Common.{◌<◌, length, refl, rules}
use Rattle.link_fields.proofs.Settled.{holds_over}
use Rattle.link_fields.proofs.bases.over_base.Goals as goal

pub returns : goal.returns
returns c =
    let lt : c.args.below.bases < length c.args.members.now = search rules in
    holds_over c.args.members.now c.args.member.now c.args.base.now c.args.below _ c.requires.base c.requires.below lt c.up_over.ensures c.mtu_over.ensures c.mac_over.ensures refl

use Rattle.std.proofs.Common.{◌<◌, ◌-◌, length, get_or, arith}
use Rattle.link_fields.proofs.Settled.{one_known}
use Rattle.link_fields.proofs.bases.note_all.Goals as goal

pub loop-left-preserved : goal.loop-left-preserved
loop-left-preserved c =
    let ms = c.args.members.now in
    let inside : get_or c.args.places.now (c.loop-left.left - 1) 0 < length ms = c.requires.inside (c.loop-left.left - 1) (omega (arith, c.loop-left-test.true, c.loop-left.invariant.0)) in (
      omega (arith, c.loop-left.invariant.0),
      one_known ms c.loop-left.known (get_or c.args.places.now (c.loop-left.left - 1) 0) c.found.result c.loop-left.invariant.1 inside c.found.ensures,
    )

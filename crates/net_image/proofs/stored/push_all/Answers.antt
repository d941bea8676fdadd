use Rattle.net_image.proofs.Loops.{written_more, passed_more}
use Rattle.net_image.proofs.stored.push_all.Goals as goal

pub loop-item-preserved : goal.loop-item-preserved
loop-item-preserved g c = record {
  bytes = written_more g.T.PushTo.form.write _ _ _ c.args.items.now c.loop-item.item-index c.item-item.result c.loop-item-test.true c.item-item.is c.loop-item.invariant.bytes c.in_ok-push_to.ensures.bytes;
  fits = passed_more g.T.PushTo.form.fits c.args.items.now c.loop-item.item-index c.item-item.result c.loop-item-test.true c.item-item.is c.loop-item.invariant.fits c.in_ok-push_to.ensures.fits;
}

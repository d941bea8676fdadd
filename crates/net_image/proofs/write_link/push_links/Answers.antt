use Rattle.std.proofs.Common.{ap, ◌∙◌}
use Rattle.net_image.specs.Links.{link, is_writable}
use Rattle.net_image.proofs.Loops.{written_more, passed_more}
use Rattle.net_image.proofs.lemmas.Fitting.{each_passes}
use Rattle.net_image.proofs.write_link.push_links.Goals as goal

pub push_link-requires : goal.push_link-requires
push_link-requires c = ap is_writable c.of-item.is ∙ each_passes is_writable c.args.links.now c.loop-of.of-index c.of-item.result c.loop-of-test.true c.requires

pub loop-of-preserved : goal.loop-of-preserved
loop-of-preserved c = record {
  bytes = written_more link.write _ _ _ c.args.links.now c.loop-of.of-index c.of-item.result c.loop-of-test.true c.of-item.is c.loop-of.invariant.bytes c.in_ok-push_link.ensures.bytes;
  fits = passed_more link.fits c.args.links.now c.loop-of.of-index c.of-item.result c.loop-of-test.true c.of-item.is c.loop-of.invariant.fits c.in_ok-push_link.ensures.fits;
}

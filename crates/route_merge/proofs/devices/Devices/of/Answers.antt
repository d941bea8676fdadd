use Rattle.std.proofs.Common.{◌-◌, get_or, sym, ap, arith}
use Rattle.net_model.specs.declared.Link.{Link}
use Rattle.route_merge.proofs.ByName.{one_place_more}
use Rattle.route_merge.proofs.devices.Devices.of.Goals as goal

pub loop-at-preserved : goal.loop-at-preserved
loop-at-preserved c =
    one_place_more c.args.links.now c.loop-at.at c.index-links-at.result (get_or c.args.links.now (c.loop-at.at - 1) c.index-links-at.result).name c.loop-at.places c.insert.new.self
    (omega (arith, c.loop-at-test.true)) c.loop-at.invariant.0 c.index-links-at.is (ap (λ (l : Link). l.name) (sym c.index-links-at.is)) c.in_ok-insert.ensures.updates c.loop-at.invariant.1

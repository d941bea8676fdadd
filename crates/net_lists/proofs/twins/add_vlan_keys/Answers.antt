use Rattle.std.proofs.Common.{arith, ◌<◌, length}
use Rattle.net_model.proofs.lemmas.Vlans.{vlans_more}
use Rattle.net_lists.proofs.twins.add_vlan_keys.Goals as goal

pub loop-at-preserved : goal.loop-at-preserved
loop-at-preserved c =
    let inside : c.loop-at.at < length c.args.links.now = omega (arith, c.loop-at-test.true, c.loop-at.auto.at-end) in
    vlans_more c.args.links.now c.loop-at.at c.index-links-at.result inside c.index-links-at.is c.loop-at.seen c.is_first_vlan.new.seen c.loop-at.invariant c.in_ok-is_first_vlan.ensures.seen

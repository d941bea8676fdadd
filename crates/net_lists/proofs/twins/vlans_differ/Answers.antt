use Rattle.std.proofs.Common.{arith}
use Rattle.net_model.proofs.lemmas.Vlans.{twin_seen, new_differs, has_more}
use Rattle.net_lists.proofs.twins.vlans_differ.Goals as goal

pub returns-then-not-first : goal.returns-then-not-first
returns-then-not-first c = twin_seen c.args.links.now c.loop-i.i c.index-links-i.result (omega (arith, c.loop-i-test.true)) c.index-links-i.is c.loop-i.seen c.is_first_vlan.new.seen c.loop-i.invariant.seen c.in_ok-first.first c.in_ok-first.ensures.first c.if-not-first.true

pub loop-i-preserved : goal.loop-i-preserved
loop-i-preserved c =
    record {
      seen = has_more c.args.links.now c.loop-i.i c.index-links-i.result (omega (arith, c.loop-i-test.true)) c.index-links-i.is c.loop-i.seen c.is_first_vlan.new.seen c.loop-i.invariant.seen c.in_ok-first.first c.in_ok-first.ensures.first c.in_ok-first.ensures.seen;
      differ = new_differs c.args.links.now c.loop-i.i c.index-links-i.result (omega (arith, c.loop-i-test.true)) c.index-links-i.is c.loop-i.seen c.is_first_vlan.new.seen c.loop-i.invariant.seen c.in_ok-first.first c.in_ok-first.ensures.first c.if-not-first.false c.loop-i.invariant.differ;
    }

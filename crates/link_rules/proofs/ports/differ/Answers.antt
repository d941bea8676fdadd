use Rattle.std.proofs.Common.{arith}
use Rattle.std.specs.BTreeSet.{contains}
use Rattle.net_model.specs.Order.{name_cmp}
use Rattle.link_rules.proofs.Differ.{again, further, seen_more}
use Rattle.link_rules.proofs.ports.differ.Goals as goal

pub returns-then-not-new : goal.returns-then-not-new
returns-then-not-new c =
    again c.args.names.now c.loop-at.at c.index-names-at.result (omega (arith, c.loop-at-test.true)) c.index-names-at.is
    (contains name_cmp c.loop-at.seen c.index-names-at.result) c.in_ok-new.new (c.loop-at.invariant.0 c.index-names-at.result) c.in_ok-new.ensures.added c.if-not-new.true c.loop-at.invariant.1

pub loop-at-preserved : goal.loop-at-preserved
loop-at-preserved c = (
  λ q.
      seen_more c.args.names.now c.loop-at.at c.index-names-at.result (omega (arith, c.loop-at-test.true)) c.index-names-at.is q
      (contains name_cmp c.loop-at.seen q) (contains name_cmp c.insert.new.self q) (c.loop-at.invariant.0 q) (c.in_ok-new.ensures.updates.0 q),
  further c.args.names.now c.loop-at.at c.index-names-at.result (omega (arith, c.loop-at-test.true)) c.index-names-at.is
      (contains name_cmp c.loop-at.seen c.index-names-at.result) c.in_ok-new.new (c.loop-at.invariant.0 c.index-names-at.result) c.in_ok-new.ensures.added c.if-not-new.false c.loop-at.invariant.1,
)

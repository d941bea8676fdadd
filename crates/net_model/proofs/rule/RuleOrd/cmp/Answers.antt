use Rattle.std.proofs.Common.{refl}
use Rattle.net_model.proofs.rule.RuleOrd.cmp.Goals as goal

pub returns : goal.returns
returns c =
    rw (
      ← c.self.view_is,
      ← c.other.view_is,
      c.then-7.ensures,
      c.then-6.ensures,
      c.then-5.ensures,
      c.then-4.ensures,
      c.then-3.ensures,
      c.then-2.ensures,
      c.then.ensures,
      c.order_targets.ensures,
      c.cmp-7.ensures,
      c.cmp-6.ensures,
      c.cmp-5.ensures,
      c.cmp-4.ensures,
      c.cmp-3.ensures,
      c.cmp-2.ensures,
      c.cmp.ensures,
    )
    refl

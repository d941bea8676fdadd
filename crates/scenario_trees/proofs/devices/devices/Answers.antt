use Rattle.std.proofs.Common.{◌≡◌, ◌∙◌, ◌*◌, sym, ap}
use Rattle.scenario_model.specs.Draws.{next_draw, draw}
use Rattle.scenario_trees.proofs.Draws.{even_draw, pushed}
use Rattle.scenario_trees.proofs.devices.devices.Goals as goal

pub loop-before-preserved : goal.loop-before-preserved
loop-before-preserved c =
    let seed = c.args.seed in
    let i = c.loop-before.before in
    let drawn : c.next_draw-drawn.result ≡ next_draw (draw seed (2 * i)) = c.next_draw-drawn.ensures.next ∙ ap next_draw c.loop-before.invariant.1 in
    let last = c.next_draw-last.ensures.next in (
      pushed seed i c.next_draw-drawn.result c.next_draw-last.result c.loop-before.made.items c.push.new.self.items c.loop-before.invariant.0 drawn last c.in_ok-push.ensures.items,
      last ∙ ap next_draw drawn ∙ sym (even_draw seed i),
    )

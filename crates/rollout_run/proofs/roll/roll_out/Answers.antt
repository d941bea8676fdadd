use Rattle.std.proofs.Common.{refl}
use Rattle.rollout_run.proofs.Rolling.{so_far_none, so_far_more, rolled}
use Rattle.rollout_run.proofs.roll.roll_out.Goals as goal

pub steps-init : goal.steps-init
steps-init g c = so_far_none g.H.Host g.C.Clock g.W.Sink c.args.doc.now c.args.timeout c.args.core.now.limit c.args.hosts.now.items c.args.clock.now c.args.printed c.args.out.now c.args.core.now _ c.requires.new refl

pub steps-preserved : goal.steps-preserved
steps-preserved g c = so_far_more g.H.Host g.C.Clock g.W.Sink c.args.doc.now c.args.timeout c.args.core.now.limit c.args.hosts.now.items c.args.clock.now c.args.printed c.args.out.now
    c.steps.hosts.items c.advance.new.hosts.items c.steps.clock c.advance.new.clock c.steps.out c.advance.new.out c.steps.core c.advance.new.core c.steps.ended c.advance.new.ended
    c.steps.invariant c.if-not-advance.ensures

pub steps-smaller : goal.steps-smaller
steps-smaller g c = (c.if-not-advance.ensures).less

pub returns : goal.returns
returns g c = rolled g.H.Host g.C.Clock g.W.Sink c.args.doc.now c.args.timeout c.args.core.now.limit c.args.hosts.now.items c.args.clock.now c.args.printed c.args.out.now
    c.holding_laws.ensures.begins c.holding_laws.ensures.goes_on c.holding_laws.ensures.promises c.holding_laws.ensures.commits_all c.rollout_laws.ensures.safe c.rollout_laws.ensures.ends
    c.steps.hosts.items c.advance.new.hosts.items c.steps.clock c.advance.new.clock c.steps.out c.advance.new.out c.print_summary-ended.new.out c.steps.core c.advance.new.core c.steps.ended c.advance.new.ended _
    c.steps.invariant c.if-not-advance.ensures c.print_summary-ended.ensures refl

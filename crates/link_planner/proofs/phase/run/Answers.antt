use Rattle.std.proofs.Common.{arith}
use Rattle.link_planner.proofs.Phasing.{along_none, along_due, along_more, along_all}
use Rattle.link_planner.proofs.phase.run.Goals as goal

pub loop-name-init : goal.loop-name-init
loop-name-init g c = along_none c.args.phase c.args.names.now c.args.draft.now c.requires.stands c.requires.order

pub serve-requires : goal.serve-requires
serve-requires g c = along_due c.args.phase c.args.names.now c.args.draft.now c.requires.stands c.requires.order c.loop-name.name-index c.loop-name.draft c.name-item.result (omega arith) c.name-item.is c.loop-name.invariant

pub loop-name-preserved : goal.loop-name-preserved
loop-name-preserved g c = along_more c.args.phase c.args.names.now c.args.draft.now c.requires.stands c.requires.order c.loop-name.name-index c.loop-name.draft c.serve.new.draft c.name-item.result (omega arith) c.name-item.is c.loop-name.invariant c.in_ok-serve.ensures

pub returns : goal.returns
returns g c = along_all c.args.phase c.args.names.now c.args.draft.now c.requires.stands c.requires.order c.loop-name.name-index c.loop-name.draft c.loop-name-test.false c.loop-name.invariant

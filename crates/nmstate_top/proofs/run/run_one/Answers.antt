use Rattle.std.proofs.Common.{subst, List}
use Rattle.std.specs.Prelude.{String}
use Rattle.std.specs.declared.alloc.Global.{Global}
use Rattle.top_model.specs.Answered.{Answered}
use Rattle.top_model.specs.Promises.{StandsApart}
use Rattle.top_model.specs.Runs.{run_of}
use Rattle.nmstate_top.proofs.Hardware.{read_right}
use Rattle.nmstate_top.proofs.run.run_one.Goals as goal

pub answer_read-requires-clause-hardware : goal.answer_read-requires-clause-hardware
answer_read-requires-clause-hardware g c = read_right c.args.in_script c.as_slice.result.now g.S.Source.tells (g.S.Source.told c.args.src.now) (g.S.Source.told c.read_order-read.new.src) c.read_order-read.result c.read_order-read.ensures.order

pub returns-clause-answered : goal.returns-clause-answered
returns-clause-answered g c =
    subst (λ (words : List (String Global)). Answered (run_of g.H.Host g.S.Source g.W.Sink words c.args.in_script c.args.now c.args.host.now c.answer_read.new.host c.args.src.now c.read_order-read.new.src c.args.out.now c.answer_read.new.out c.args.err.now c.answer_read.new.err c.answer_read.result)) c.as_slice.ensures.value
    (c.answer_read.ensures.answered c.as_slice.result.now c.args.in_script c.args.src.now c.read_order-read.new.src (record { order = c.read_order-read.ensures.order; source = c.read_order-read.ensures.source; taken = c.read_order-read.ensures.taken; fault = c.read_order-read.ensures.fault; memory = c.read_order-read.ensures.memory }))

pub returns-clause-apart : goal.returns-clause-apart
returns-clause-apart g c =
    subst (λ (words : List (String Global)). StandsApart (run_of g.H.Host g.S.Source g.W.Sink words c.args.in_script c.args.now c.args.host.now c.answer_read.new.host c.args.src.now c.read_order-read.new.src c.args.out.now c.answer_read.new.out c.args.err.now c.answer_read.new.err c.answer_read.result)) c.as_slice.ensures.value
    (c.answer_read.ensures.apart c.as_slice.result.now c.args.in_script c.args.src.now c.read_order-read.new.src (record { order = c.read_order-read.ensures.order; source = c.read_order-read.ensures.source; taken = c.read_order-read.ensures.taken; fault = c.read_order-read.ensures.fault; memory = c.read_order-read.ensures.memory }))

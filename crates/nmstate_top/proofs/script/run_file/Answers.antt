use Rattle.std.proofs.Common.{refl}
use Rattle.std.specs.Prelude.{[], true, false, map, string_bytes}
use Rattle.top_model.specs.Lines.{timed_of}
use Rattle.top_model.specs.Runs.{run_of}
use Rattle.top_model.specs.StepsRun.{world}
use Rattle.top_model.specs.ScriptRuns.{RanFrom}
use Rattle.top_model.proofs.lemmas.Scripted.{folded_read}
use Rattle.command_laws.proofs.lemmas.Files.{run, refused}
use Rattle.nmstate_top.proofs.script.run_file.Goals as goal

pub returns-in-Ok : goal.returns-in-Ok
returns-in-Ok g c = λ words is.
    let e = c.in-Ok.ensures in
    let r = run_of g.H.Host g.S.Source g.W.Sink words false 0 c.args.host.now c.run_script.new.host c.args.src.now c.run_script.new.src c.args.out.now c.run_script.new.out c.args.err.now c.run_script.new.err c.run_script.result in
    let first = world c.args.host.now c.args.src.now c.args.out.now c.args.err.now in
    let last = world c.run_script.new.host c.run_script.new.src c.run_script.new.out c.run_script.new.err in
    run r (RanFrom g.H.Host g.S.Source g.W.Sink (map string_bytes words) first last c.run_script.result) c.args.file.now is c.in-Ok.steps e.steps
    (folded_read r [] true 0 r.untouched (g.S.Source.told c.read_script.new.src) e.source.inputs e.source.later (map timed_of c.in-Ok.steps.items) c.run_script.ensures.folded) c.run_script.ensures.ends
    (record { file = c.args.file.now; is_file = is; source = c.read_script.new.src; takes = e.taken; inputs = e.source.inputs; later = e.source.later; ran = c.run_script.ensures.steps })

pub returns-in-Err : goal.returns-in-Err
returns-in-Err g c = λ words is.
    let r = run_of g.H.Host g.S.Source g.W.Sink words false 0 c.args.host.now c.args.host.now c.args.src.now c.read_script.new.src c.args.out.now c.tell_refused.new.out c.args.err.now c.tell_refused.new.err c.tell_refused.result in
    let first = world c.args.host.now c.args.src.now c.args.out.now c.args.err.now in
    let last = world c.args.host.now c.read_script.new.src c.tell_refused.new.out c.tell_refused.new.err in
    refused r (RanFrom g.H.Host g.S.Source g.W.Sink (map string_bytes words) first last c.tell_refused.result) c.args.file.now is refl c.in-Err.refusal c.in-Err.ensures.steps c.in-Err.ensures.taken c.tell_refused.ensures.told

use Rattle.std.proofs.Common.{rules, ◌≡◌, refl, sym, subst, ◌<◌, ◌≤◌, ◌+◌, List, [], map, take, drop, length, get_or}
use Rattle.std.proofs.lemmas.List.{take-append-drop}
use Rattle.top_model.specs.Lines.{Timed, timed_of}
use Rattle.top_model.specs.Told.{report_of}
use Rattle.top_model.specs.StepsDone.{SoFar}
use Rattle.top_model.specs.StepsRun.{world, Went, cut, unlined, ran_out}
use Rattle.top_model.specs.declared.report.Cause.TheVariants.{Done, WriteFault}
use Rattle.top_model.proofs.lemmas.Chaining.{way, so_far_on, script_ended, script_done}
use Rattle.top_model.proofs.lemmas.ScriptRan.{went_more, ended_run, whole_run}
use Rattle.top_model.proofs.lemmas.Placed.{one_more, all_steps, all_taken}
use Rattle.nmstate_top.proofs.script.run_script.Goals as goal

pub returns-then-status-eq-OUT_OF_MEMORY-clause-folded : goal.returns-then-status-eq-OUT_OF_MEMORY-clause-folded
returns-then-status-eq-OUT_OF_MEMORY-clause-folded g c =
    let items = c.args.steps.now.items in
    let i = c.loop-step.step-index in
    let x = c.step-item.result in
    let within : i < length items = search rules in
    let is : x ≡ get_or items i x = search rules in
    let eight : c.run_one-report.result.status ≡ 8 = search rules in
    script_ended (Unit {0}) (c.run_one-report.new.host ≡ c.loop-step.host) (c.run_one-report.new.host ≡ c.args.host.now) g.H.Host.honest g.H.Host.tells g.S.Source.tells g.W.Sink.tells
    (g.H.Host.told c.args.host.now) (g.H.Host.told c.loop-step.host) (g.H.Host.told c.run_one-report.new.host)
    (g.S.Source.told c.args.src.now) (g.S.Source.told c.loop-step.src) (g.S.Source.told c.run_one-report.new.src)
    (g.W.Sink.told c.args.out.now) (g.W.Sink.told c.loop-step.out) (g.W.Sink.told c.run_one-report.new.out) (g.W.Sink.told c.write_status.new.out)
    (g.W.Sink.told c.args.err.now) (g.W.Sink.told c.loop-step.err) (g.W.Sink.told c.run_one-report.new.err)
    c.run_one-report.result (report_of Done) c.run_one-report.result (timed_of x) (map timed_of (take i items))
    (map timed_of items) (map timed_of (drop (i + 1) items)) (all_steps timed_of items i x within is (take-append-drop i items)) refl eight
    c.loop-step.invariant.so_far c.run_one-report.ensures.answered c.if-not-write_status.ensures

pub loop-step-preserved : goal.loop-step-preserved
loop-step-preserved g c =
    let items = c.args.steps.now.items in
    let i = c.loop-step.step-index in
    let x = c.step-item.result in
    let within : i < length items = search rules in
    let is : x ≡ get_or items i x = search rules in
    record {
      so_far =
          subst (λ (d : List Timed). SoFar d (way (Unit {0}) g.H.Host.honest g.H.Host.tells g.S.Source.tells g.W.Sink.tells (g.H.Host.told c.args.host.now) (g.H.Host.told c.run_one-report.new.host)
          (g.S.Source.told c.args.src.now) (g.S.Source.told c.run_one-report.new.src) (g.W.Sink.told c.args.out.now) (g.W.Sink.told c.write_status.new.out)
          (g.W.Sink.told c.args.err.now) (g.W.Sink.told c.run_one-report.new.err) [] 0 (report_of Done)))
          (sym (one_more timed_of items i x within is))
          (so_far_on (Unit {0}) (c.run_one-report.new.host ≡ c.loop-step.host) (Unit {0}) g.H.Host.honest g.H.Host.tells g.S.Source.tells g.W.Sink.tells
          (g.H.Host.told c.args.host.now) (g.H.Host.told c.loop-step.host) (g.H.Host.told c.run_one-report.new.host)
          (g.S.Source.told c.args.src.now) (g.S.Source.told c.loop-step.src) (g.S.Source.told c.run_one-report.new.src)
          (g.W.Sink.told c.args.out.now) (g.W.Sink.told c.loop-step.out) (g.W.Sink.told c.run_one-report.new.out) (g.W.Sink.told c.write_status.new.out)
          (g.W.Sink.told c.args.err.now) (g.W.Sink.told c.loop-step.err) (g.W.Sink.told c.run_one-report.new.err)
          c.run_one-report.result (report_of Done) (report_of Done) (timed_of x) (map timed_of (take i items))
          c.loop-step.invariant.so_far c.run_one-report.ensures.answered c.if-not-write_status.ensures c.if-status-eq-OUT_OF_MEMORY.false);
      went = subst (λ (d : List Timed). Went g.H.Host g.S.Source g.W.Sink d (world c.args.host.now c.args.src.now c.args.out.now c.args.err.now) (world c.run_one-report.new.host c.run_one-report.new.src c.write_status.new.out c.run_one-report.new.err))
          (sym (one_more timed_of items i x within is))
          (went_more g.H.Host g.S.Source g.W.Sink (timed_of x) (map timed_of (take i items)) (world c.args.host.now c.args.src.now c.args.out.now c.args.err.now) (world c.loop-step.host c.loop-step.src c.loop-step.out c.loop-step.err)
          (world c.run_one-report.new.host c.run_one-report.new.src c.run_one-report.new.out c.run_one-report.new.err) c.write_status.new.out c.loop-step.invariant.went
          (record { report = c.run_one-report.result; answered = c.run_one-report.ensures.answered; line = c.if-not-write_status.ensures; not_cut = c.if-status-eq-WRITE_FAULT.false; not_out = c.if-status-eq-OUT_OF_MEMORY.false }));
    }

pub returns-clause-folded : goal.returns-clause-folded
returns-clause-folded g c =
    let items = c.args.steps.now.items in
    let i = c.loop-step.step-index in
    let past : length items ≤ i = search rules in
    script_done (Unit {0}) (c.loop-step.host ≡ c.args.host.now) g.H.Host.honest g.H.Host.tells g.S.Source.tells g.W.Sink.tells (g.H.Host.told c.args.host.now) (g.H.Host.told c.loop-step.host)
    (g.S.Source.told c.args.src.now) (g.S.Source.told c.loop-step.src) (g.W.Sink.told c.args.out.now) (g.W.Sink.told c.loop-step.out) (g.W.Sink.told c.args.err.now) (g.W.Sink.told c.loop-step.err)
    (report_of Done) (report_of Done) (map timed_of items) refl
    (subst (λ (d : List Timed). SoFar d (way (Unit {0}) g.H.Host.honest g.H.Host.tells g.S.Source.tells g.W.Sink.tells (g.H.Host.told c.args.host.now) (g.H.Host.told c.loop-step.host)
    (g.S.Source.told c.args.src.now) (g.S.Source.told c.loop-step.src) (g.W.Sink.told c.args.out.now) (g.W.Sink.told c.loop-step.out) (g.W.Sink.told c.args.err.now) (g.W.Sink.told c.loop-step.err) [] 0 (report_of Done)))
    (all_taken timed_of items i past) c.loop-step.invariant.so_far)

pub returns-then-status-eq-WRITE_FAULT-clause-steps : goal.returns-then-status-eq-WRITE_FAULT-clause-steps
returns-then-status-eq-WRITE_FAULT-clause-steps g c =
    let items = c.args.steps.now.items in
    let i = c.loop-step.step-index in
    let x = c.step-item.result in
    let within : i < length items = search rules in
    let is : x ≡ get_or items i x = search rules in
    let first = world c.args.host.now c.args.src.now c.args.out.now c.args.err.now in
    let mid = world c.loop-step.host c.loop-step.src c.loop-step.out c.loop-step.err in
    let told = world c.run_one-report.new.host c.run_one-report.new.src c.run_one-report.new.out c.run_one-report.new.err in
    ended_run g.H.Host g.S.Source g.W.Sink g.met.H.Host.lawful g.met.H.Host.honest_tells (map timed_of items) (map timed_of (take i items)) (map timed_of (drop (i + 1) items)) (timed_of x)
    (all_steps timed_of items i x within is (take-append-drop i items)) first mid told c.run_one-report.result c.loop-step.invariant.went
    (record { told = told; ended = c.run_one-report.result; answered = c.run_one-report.ensures.answered; ending = cut (search rules) refl refl })

pub returns-then-not-write_status-clause-steps : goal.returns-then-not-write_status-clause-steps
returns-then-not-write_status-clause-steps g c =
    let items = c.args.steps.now.items in
    let i = c.loop-step.step-index in
    let x = c.step-item.result in
    let within : i < length items = search rules in
    let is : x ≡ get_or items i x = search rules in
    let first = world c.args.host.now c.args.src.now c.args.out.now c.args.err.now in
    let mid = world c.loop-step.host c.loop-step.src c.loop-step.out c.loop-step.err in
    let told = world c.run_one-report.new.host c.run_one-report.new.src c.run_one-report.new.out c.run_one-report.new.err in
    ended_run g.H.Host g.S.Source g.W.Sink g.met.H.Host.lawful g.met.H.Host.honest_tells (map timed_of items) (map timed_of (take i items)) (map timed_of (drop (i + 1) items)) (timed_of x)
    (all_steps timed_of items i x within is (take-append-drop i items)) first mid (world c.run_one-report.new.host c.run_one-report.new.src c.write_status.new.out c.run_one-report.new.err) (report_of (WriteFault c.run_one-report.result.status)) c.loop-step.invariant.went
    (record { told = told; ended = c.run_one-report.result; answered = c.run_one-report.ensures.answered; ending = unlined c.write_status.new.out refl c.if-not-write_status.ensures refl })

pub returns-then-status-eq-OUT_OF_MEMORY-clause-steps : goal.returns-then-status-eq-OUT_OF_MEMORY-clause-steps
returns-then-status-eq-OUT_OF_MEMORY-clause-steps g c =
    let items = c.args.steps.now.items in
    let i = c.loop-step.step-index in
    let x = c.step-item.result in
    let within : i < length items = search rules in
    let is : x ≡ get_or items i x = search rules in
    let first = world c.args.host.now c.args.src.now c.args.out.now c.args.err.now in
    let mid = world c.loop-step.host c.loop-step.src c.loop-step.out c.loop-step.err in
    let told = world c.run_one-report.new.host c.run_one-report.new.src c.run_one-report.new.out c.run_one-report.new.err in
    ended_run g.H.Host g.S.Source g.W.Sink g.met.H.Host.lawful g.met.H.Host.honest_tells (map timed_of items) (map timed_of (take i items)) (map timed_of (drop (i + 1) items)) (timed_of x)
    (all_steps timed_of items i x within is (take-append-drop i items)) first mid (world c.run_one-report.new.host c.run_one-report.new.src c.write_status.new.out c.run_one-report.new.err) c.run_one-report.result c.loop-step.invariant.went
    (record { told = told; ended = c.run_one-report.result; answered = c.run_one-report.ensures.answered; ending = ran_out c.write_status.new.out refl c.if-not-write_status.ensures (search rules) refl })

pub returns-clause-steps : goal.returns-clause-steps
returns-clause-steps g c =
    let items = c.args.steps.now.items in
    let i = c.loop-step.step-index in
    let past : length items ≤ i = search rules in
    let first = world c.args.host.now c.args.src.now c.args.out.now c.args.err.now in
    let last = world c.loop-step.host c.loop-step.src c.loop-step.out c.loop-step.err in
    whole_run g.H.Host g.S.Source g.W.Sink g.met.H.Host.lawful g.met.H.Host.honest_tells (map timed_of items) first last (report_of Done)
    (subst (λ (d : List Timed). Went g.H.Host g.S.Source g.W.Sink d first last) (all_taken timed_of items i past) c.loop-step.invariant.went) refl

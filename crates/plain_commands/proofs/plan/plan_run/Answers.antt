use Rattle.std.proofs.Common.{◌≡◌, ◌∙◌, inl, refl, ap, List, []}
use Rattle.std.specs.Prelude.{Ok, Err}
use Rattle.base_model.specs.declared.Path.{Path}
use Rattle.merge_model.specs.MergedNet.{merge}
use Rattle.top_model.specs.Machine.{plan_to}
use Rattle.top_model.specs.Orders.{planning}
use Rattle.top_model.specs.Texts.{note_lines}
use Rattle.top_model.proofs.lemmas.Taken.{takes_only}
use Rattle.top_model.specs.Runs.{run_of}
use Rattle.top_model.specs.declared.report.Cause.TheVariants.{OutOfMemory}
use Rattle.answer_text.proofs.lemmas.Told.{told_refused}
use Rattle.command_laws.proofs.lemmas.Looks.{unchanged, told_text, told_refusal, not_unread, plan_answered}
use Rattle.plain_commands.proofs.plan.plan_run.Goals as goal

notes_are : (notes items own : List Path) → notes ≡ items → items ≡ own → note_lines notes ≡ note_lines own
notes_are notes items own one two = ap note_lines (one ∙ two)

pub returns-in-Err : goal.returns-in-Err
returns-in-Err g c = λ now words in_script src src_after asked.
    let r = run_of g.H.Host g.S.Source g.W.Sink words in_script now c.args.host.now c.args.host.now src src_after c.args.out.now c.tell_refused.new.out c.args.err.now c.tell_refused.new.err c.tell_refused.result in
    let still = unchanged r.host_tells r.host in
    plan_answered r c.args.doc.now c.args.batch still (Err OutOfMemory) tt (record {
      inputs = asked.inputs;
      may_read = asked.may_read;
      is = asked.is;
      told = told_refused r (Ok (planning c.args.doc.now c.args.batch)) OutOfMemory [] (inl refl) c.tell_refused.ensures.told;
      goes_on = record { host = still.later; source = asked.later; out = c.tell_refused.ensures.out; err = c.tell_refused.ensures.err; inputs = asked.same; takes = takes_only r _ asked.takes; lawful = g.met.H.Host.lawful c.args.host.now; tells = g.met.H.Host.honest_tells };
    })

pub returns-in-Ok-planned : goal.returns-in-Ok-planned
returns-in-Ok-planned g c = λ now words in_script src src_after asked.
    let r = run_of g.H.Host g.S.Source g.W.Sink words in_script now c.args.host.now c.planned.new.host src src_after c.args.out.now c.tell_done.new.out c.args.err.now c.tell_done.new.err c.tell_done.result in
    let l = c.in-Ok-planned.ensures.text in
    plan_answered r c.args.doc.now c.args.batch c.in-Ok-planned.ensures.looks l.answer l.looked (record {
      inputs = asked.inputs;
      may_read = asked.may_read;
      is = asked.is;
      told = told_text r (planning c.args.doc.now c.args.batch) (λ c t e. e) c.as_slice.result.now (c.as_slice.ensures.value ∙ c.in-Ok.ensures ∙ notes_are _ _ _ c.deref.ensures.value c.items.ensures) l.answer c.in-Ok-planned.text c.as_slice-in-Ok-planned.result.now c.as_slice-in-Ok-planned.ensures.value l.text c.tell_done.ensures.told;
      goes_on = record { host = c.in-Ok-planned.ensures.looks.later; source = asked.later; out = c.tell_done.ensures.out; err = c.tell_done.ensures.err; inputs = asked.same; takes = takes_only r _ asked.takes; lawful = g.met.H.Host.lawful c.args.host.now; tells = g.met.H.Host.honest_tells };
    })

pub returns : goal.returns
returns g c = λ now words in_script src src_after asked.
    let r = run_of g.H.Host g.S.Source g.W.Sink words in_script now c.args.host.now c.planned.new.host src src_after c.args.out.now c.tell_refused-in-Err-planned.new.out c.args.err.now c.tell_refused-in-Err-planned.new.err c.tell_refused-in-Err-planned.result in
    let l = c.in-Err-planned.ensures.text in
    plan_answered r c.args.doc.now c.args.batch c.in-Err-planned.ensures.looks l.answer l.looked (record {
      inputs = asked.inputs;
      may_read = asked.may_read;
      is = asked.is;
      told = told_refusal r (planning c.args.doc.now c.args.batch) (λ c t e. e) c.as_slice-in-Err-planned.result.now (c.as_slice-in-Err-planned.ensures.value ∙ c.in-Ok.ensures ∙ notes_are _ _ _ c.deref.ensures.value c.items.ensures) l.answer c.in-Err-planned.cause l.text
          (not_unread r.host_tells r.honest (λ net. plan_to c.args.batch net (merge net c.args.doc.now)) r.host r.host_after l.answer c.in-Err-planned.cause l.looked l.text) c.tell_refused-in-Err-planned.ensures.told;
      goes_on = record { host = c.in-Err-planned.ensures.looks.later; source = asked.later; out = c.tell_refused-in-Err-planned.ensures.out; err = c.tell_refused-in-Err-planned.ensures.err; inputs = asked.same; takes = takes_only r _ asked.takes; lawful = g.met.H.Host.lawful c.args.host.now; tells = g.met.H.Host.honest_tells };
    })

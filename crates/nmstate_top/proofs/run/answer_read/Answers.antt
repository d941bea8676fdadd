use Rattle.std.proofs.Common.{◌≡◌, refl, sym, ap, subst, arith, true}
use Rattle.std.specs.Prelude.{String, map, string_bytes, IfOk, Option, Some, Result, Ok, Err}
use Rattle.std.specs.declared.alloc.Global.{Global}
use Rattle.command_words.specs.Words.{command_of}
use Rattle.command_words.specs.declared.Command.TheVariants.{Generate}
use Rattle.order_reading.specs.AsDefined.{TakesFile, has_right_document}
use Rattle.order_reading.specs.declared.order.Order.{Order}
use Rattle.top_model.specs.Orders.{Text}
use Rattle.top_model.specs.Taking.{file_read}
use Rattle.top_model.specs.Runs.{run_of}
use Rattle.top_model.specs.declared.report.Cause.{Cause}
use Rattle.command_laws.specs.First.{has_hardware}
use Rattle.command_laws.proofs.lemmas.Named.{generate_named, generate_reads_none}
use Rattle.command_laws.proofs.lemmas.Refusals.{refusing}
use Rattle.command_laws.proofs.lemmas.Takes.{takes_asked, takes_refused, told_of}
use Rattle.nmstate_top.specs.Read.{WasRead}
use Rattle.nmstate_top.proofs.run.answer_read.Goals as goal

abbrev taken : Order → Result Order Cause
taken order = Ok order

abbrev failed : Cause → Result Order Cause
failed cause = Err cause

pub run_order-requires-clause-document : goal.run_order-requires-clause-document
run_order-requires-clause-document g c = subst (λ (r : Result Order Cause). IfOk r (λ order. has_right_document order ≡ true)) c.in-Ok.is c.requires.document

pub run_order-requires-clause-hardware : goal.run_order-requires-clause-hardware
run_order-requires-clause-hardware g c = subst (λ (r : Result Order Cause). IfOk r (λ order. has_hardware order ≡ true)) c.in-Ok.is c.requires.hardware

pub returns-in-Ok-clause-answered : goal.returns-in-Ok-clause-answered
returns-in-Ok-clause-answered g c = λ words in_script src after was.
    let e : WasRead g.S.Source words in_script src after (taken c.in-Ok.order) = subst (λ (r : Result Order Cause). WasRead g.S.Source words in_script src after r) c.in-Ok.is was in
    c.run_order.ensures.carried words in_script src after
    (record { inputs = e.order.0; may_read = e.order.1; is = e.order.2; later = e.source.later; same = e.source.inputs; takes = takes_asked g.S.Source.tells (after ≡ src) (g.S.Source.told src) (g.S.Source.told after) (λ same. ap g.S.Source.told same) _ c.in-Ok.order e.taken })

pub returns-in-Err-clause-answered : goal.returns-in-Err-clause-answered
returns-in-Err-clause-answered g c = λ words in_script src after was.
    let e : WasRead g.S.Source words in_script src after (failed c.in-Err.refusal) = subst (λ (r : Result Order Cause). WasRead g.S.Source words in_script src after r) c.in-Err.is was in
    let t = c.tell_refused.ensures in
    let r = run_of g.H.Host g.S.Source g.W.Sink words in_script c.args.now c.args.host.now c.args.host.now src after c.args.out.now c.tell_refused.new.out c.args.err.now c.tell_refused.new.err c.tell_refused.result in
    refusing r refl (record { host = omega arith; source = e.source.later; out = t.out; err = t.err; inputs = e.source.inputs; takes = takes_refused r (after ≡ src) (λ same. ap g.S.Source.told same) (file_read r.in_script (command_of r.words)) refl c.in-Err.refusal e.taken e.order (told_of _ c.in-Err.refusal _ _ _ _ _ _ c.tell_refused.result t.told); lawful = g.met.H.Host.lawful c.args.host.now; tells = g.met.H.Host.honest_tells })
    c.in-Err.refusal e.order e.fault e.memory t.told

pub returns-in-Ok-clause-apart : goal.returns-in-Ok-clause-apart
returns-in-Ok-clause-apart g c = λ words in_script src after was count seed is.
    let e : WasRead g.S.Source words in_script src after (taken c.in-Ok.order) = subst (λ (r : Result Order Cause). WasRead g.S.Source words in_script src after r) c.in-Ok.is was in (
      c.run_order.ensures.apart (generate_named in_script e.order.0 (map string_bytes words) count seed c.in-Ok.order is e.order.2),
      ap g.S.Source.told (subst (λ (file : Option (Option Text)). TakesFile (after ≡ src) g.S.Source.tells (g.S.Source.told src) (g.S.Source.told after) file (taken c.in-Ok.order)) (generate_reads_none in_script (map string_bytes words) count seed is) e.taken),
    )

pub returns-in-Err-clause-apart : goal.returns-in-Err-clause-apart
returns-in-Err-clause-apart g c = λ words in_script src after was count seed is.
    let e : WasRead g.S.Source words in_script src after (failed c.in-Err.refusal) = subst (λ (r : Result Order Cause). WasRead g.S.Source words in_script src after r) c.in-Err.is was in (
      refl,
      ap g.S.Source.told (subst (λ (file : Option (Option Text)). TakesFile (after ≡ src) g.S.Source.tells (g.S.Source.told src) (g.S.Source.told after) file (failed c.in-Err.refusal)) (generate_reads_none in_script (map string_bytes words) count seed is) e.taken),
    )

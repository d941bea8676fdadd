use Rattle.std.proofs.Common.{◌≡◌, ◌-◌, ℕ, true, List, drop, Option, Some, None, Result, Err, refl, sym, ◌∙◌, arith}
use Rattle.std.proofs.lemmas.Result.{err_from_is_err_and}
use Rattle.net_model.specs.NetData.{NetData}
use Rattle.net_model.specs.declared.call.Call.{Call}
use Rattle.kernel_model.specs.Kernel.{step}
use Rattle.kernel_model.specs.declared.fault.StepFault.{StepFault}
use Rattle.kernel_model.specs.declared.fault.StepFault.TheVariants.{Refused, OutOfMemory as NoStepMemory}
use Rattle.net_image.specs.Laws.{AreBytes}
use Rattle.call_journal.specs.FaultOf.{replay_fault_of, step_fault_of}
use Rattle.call_journal.specs.Reading.{FailsAt}
use Rattle.call_journal.specs.Records.{open_record, is_open}
use Rattle.call_journal.specs.Replay.{replayed}
use Rattle.call_journal.specs.declared.fault.RecordFault.{RecordFault}
use Rattle.call_journal.specs.declared.fault.RecordFault.TheVariants.{Bad as BadRecord, OutOfMemory as NoRecordMemory}
use Rattle.call_journal.specs.declared.fault.ReplayFault.{ReplayFault}
use Rattle.call_journal.specs.declared.fault.ReplayFault.TheVariants.{Bad as BadReplay}
use Rattle.call_journal.specs.Weight.{journal_weight}
use Rattle.call_journal.proofs.lemmas.Replaying.{shifted}
use Rattle.call_journal.proofs.lemmas.Weighing.{weighed_on, weighed_all}
use Rattle.call_journal.proofs.Turns.{led_on, carried_on, refused_now, broken_now, ends_now}
use Rattle.call_journal.proofs.replaying.replay.Goals as goal

no_record_there : (bytes : List ℕ) (at : ℕ) (mid : NetData) (all : Option (NetData × ℕ)) (fault : RecordFault) → is_open (drop at bytes) ≡ true → FailsAt fault open_record bytes at
    → shifted at (replayed mid (drop at bytes)) ≡ all → ◌≡◌ {A = Result (ℕ × ℕ) ReplayFault} (Err (replay_fault_of fault)) (Err BadReplay) → all ≡ None
no_record_there bytes at mid all BadRecord opens got before is = broken_now bytes at mid all opens got before
no_record_there bytes at mid all NoRecordMemory opens got before is = absurd cc

refused_there : (bytes : List ℕ) (are : AreBytes bytes) (at behind : ℕ) (call : Call) (mid : NetData) (all : Option (NetData × ℕ)) (fault : StepFault) → open_record.read (drop at bytes) ≡ Some (call, drop behind bytes)
    → is_open (drop at bytes) ≡ true → ((k : ℕ) → fault ≡ Refused k → step call mid ≡ Err k) → shifted at (replayed mid (drop at bytes)) ≡ all → ◌≡◌ {A = Result (ℕ × ℕ) ReplayFault} (Err (step_fault_of fault)) (Err BadReplay) → all ≡ None
refused_there bytes are at behind call mid all (Refused k) got opens refused before is = refused_now bytes are at behind call mid got k all opens (refused k refl) before
refused_there bytes are at behind call mid all NoStepMemory got opens refused before is = absurd cc

pub returns-in_err-call-clause-bad : goal.returns-in_err-call-clause-bad
returns-in_err-call-clause-bad c =
    let p = err_from_is_err_and c.from_residual.result c.from_residual.ensures.1 in
    rw (p.1, p.2) (λ is. no_record_there c.args.bytes.now c.records.at c.records.net (replayed c.args.net.now c.args.bytes.now) c.in_err-call.field-0.0 (sym c.is_open_at.ensures ∙ c.records-test.true) c.in_err-call.ensures.read c.records.invariant.carried is)

pub returns-in_err-step-clause-bad : goal.returns-in_err-step-clause-bad
returns-in_err-step-clause-bad c =
    let p = err_from_is_err_and c.from_residual-in_err-step.result c.from_residual-in_err-step.ensures.1 in
    rw (p.1, p.2) (λ is. refused_there c.args.bytes.now (λ i. omega (arith, c.type_inv.bytes i)) c.records.at c.in_ok-call.behind c.in_ok-call.call c.records.net (replayed c.args.net.now c.args.bytes.now) c.in_err-step.field-0.0
    c.in_ok-call.ensures.read (sym c.is_open_at.ensures ∙ c.records-test.true) (λ k e. c.in_err-step.ensures.refused k (let same : Err c.in_err-step.field-0.0 ≡ Err (Refused k) = cc in same)) c.records.invariant.carried is)

pub records-preserved : goal.records-preserved
records-preserved c = record {
  within = c.in_ok-call.ensures.within;
  carried = carried_on c.args.bytes.now (λ i. omega (arith, c.type_inv.bytes i)) c.records.at c.in_ok-call.behind c.in_ok-call.call c.records.net c.in_ok-call.ensures.read c.step.new.net (replayed c.args.net.now c.args.bytes.now)
      (sym c.is_open_at.ensures ∙ c.records-test.true) c.in_ok-call.ensures.further c.in_ok-call.ensures.within c.in_ok-step.ensures.done c.records.invariant.carried;
  led = led_on c.args.bytes.now (λ i. omega (arith, c.type_inv.bytes i)) c.records.at c.in_ok-call.behind c.in_ok-call.call c.records.net c.in_ok-call.ensures.read c.args.net.now c.step.new.net c.records.invariant.led c.in_ok-step.ensures.done;
  weighed = weighed_on c.args.bytes.now c.records.at c.in_ok-call.behind c.records.left c.saturating_sub-left.result (c.args.spare - journal_weight c.args.bytes.now) c.in_ok-call.call c.in_ok-call.ensures.read (sym c.is_open_at.ensures ∙ c.records-test.true)
      c.in_ok-call.ensures.within c.records.invariant.weighed (omega (arith, c.saturating_sub-left.ensures, c.record_weight.ensures));
}

pub returns-clause-replayed : goal.returns-clause-replayed
returns-clause-replayed c = ends_now c.args.bytes.now c.records.at c.records.net (replayed c.args.net.now c.args.bytes.now) (sym c.is_open_at.ensures ∙ c.records-test.false) c.records.invariant.carried

pub returns-clause-weighed : goal.returns-clause-weighed
returns-clause-weighed c = weighed_all c.args.bytes.now c.records.at c.records.left (c.args.spare - journal_weight c.args.bytes.now) (sym c.is_open_at.ensures ∙ c.records-test.false) c.records.invariant.weighed

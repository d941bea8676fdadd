use Rattle.std.proofs.Common.{◌≡◌, ◌^◌, ◌≤◌, ltb, true, length, refl, ap, arith, length-append}
use Rattle.std.proofs.lemmas.Bool.{and_from, lt-ltb}
use Rattle.net_model.specs.declared.call.Call.{Call}
use Rattle.call_journal.specs.Calls.{call_form}
use Rattle.call_journal.specs.Laws.{CallLaws}
use Rattle.call_journal.specs.Records.{sized_call}
use Rattle.disk_host.proofs.changing.record_of.Goals as goal

-- a call has few enough bytes for a length of two bytes
few : (laws : CallLaws) (call : Call) → call_form.fits call ≡ true → length (call_form.write call) ≤ 4339
few laws call fits = laws.short (call_form.write call) call (record { fits = fits; spelled = refl })

fitting : (laws : CallLaws) (call : Call) → call_form.fits call ≡ true → sized_call.fits call ≡ true
unfolding sized_call
fitting laws call fits = and_from (call_form.fits call) (ltb (length (call_form.write call)) (256 ^ 2)) fits (lt-ltb (length (call_form.write call)) (256 ^ 2) (omega (arith, few laws call fits)))

pub overflow_cast-len : goal.overflow_cast-len
overflow_cast-len c =
    omega (arith, c.len.ensures, ap length c.in_ok-write_call.ensures.bytes, c.new-bytes.ensures.len, length-append c.new-bytes.result.items (call_form.write c.args.call.now), few c.call_laws.ensures c.args.call.now c.in_ok-write_call.ensures.fits)

pub returns-clause-fits : goal.returns-clause-fits
returns-clause-fits c = fitting c.call_laws.ensures c.args.call.now c.in_ok-write_call.ensures.fits

use Rattle.std.proofs.Common.{◌≡◌, ℕ, ◌+◌, ◌-◌, ◌≤◌, List, length, take, drop, Some, None, Err, refl, sym, ap, ◌∙◌, arith, length-drop}
use Rattle.std.proofs.lemmas.List.{drop-drop}
use Rattle.net_image.specs.Form.{number, whole}
use Rattle.call_journal.specs.Calls.{call_form}
use Rattle.call_journal.specs.Reading.{FailsAt}
use Rattle.call_journal.specs.Records.{sized_call}
use Rattle.call_journal.specs.declared.fault.RecordFault.{RecordFault}
use Rattle.call_journal.specs.declared.fault.RecordFault.TheVariants.{Bad, OutOfMemory}
use Rattle.call_journal.proofs.lemmas.Record.{sized_there, sized_cut, sized_no_call}
use Rattle.call_journal.proofs.record.sized_call_at.Goals as goal

slice : (bytes : List ℕ) (from size : ℕ) → take ((from + size) - from) (drop from bytes) ≡ take size (drop from bytes)
slice bytes from size = let e : (from + size) - from ≡ size = omega arith in ap (λ (k : ℕ). take k (drop from bytes)) e

call_fails : (bytes : List ℕ) (at from size : ℕ) (fault : RecordFault) → (number 2).read (drop at bytes) ≡ Some (size, drop from bytes) → size ≤ length (drop from bytes)
    → (fault ≡ Bad → whole call_form (take ((from + size) - from) (drop from bytes)) ≡ None) → FailsAt fault sized_call bytes at
call_fails bytes at from size Bad got enough none = sized_no_call (drop at bytes) (drop from bytes) size got enough (ap (whole call_form) (sym (slice bytes from size)) ∙ none refl)
call_fails bytes at from size OutOfMemory got enough none = tt

pub returns-then-bytes-from-clause-read : goal.returns-then-bytes-from-clause-read
returns-then-bytes-from-clause-read c =
    sized_cut (drop c.args.at c.args.bytes.now) (drop c.in-Some.found.1 c.args.bytes.now) c.in-Some.found.0 c.in-Some.ensures.read
    (omega (arith, c.if-bytes-from.true, length-drop c.in-Some.found.1 c.args.bytes.now, c.in-Some.ensures.within.1))

pub returns-in-Ok-clause-read : goal.returns-in-Ok-clause-read
returns-in-Ok-clause-read c =
    sized_there (drop c.args.at c.args.bytes.now) (drop c.in-Some.found.1 c.args.bytes.now) c.in-Some.found.0 c.in-Some.ensures.read c.in-Ok.call
    (omega (arith, c.if-bytes-from.false, length-drop c.in-Some.found.1 c.args.bytes.now, c.in-Some.ensures.within.1))
    (ap (whole call_form) (sym (slice c.args.bytes.now c.in-Some.found.1 c.in-Some.found.0)) ∙ c.in-Ok.ensures.call)
    ∙ ap (λ (l : List ℕ). Some (c.in-Ok.call, l)) (drop-drop c.in-Some.found.0 c.in-Some.found.1 c.args.bytes.now)

pub returns-in-Err-clause-read : goal.returns-in-Err-clause-read
returns-in-Err-clause-read c =
    call_fails c.args.bytes.now c.args.at c.in-Some.found.1 c.in-Some.found.0 c.in-Err.fault c.in-Some.ensures.read
    (omega (arith, c.if-bytes-from.false, length-drop c.in-Some.found.1 c.args.bytes.now, c.in-Some.ensures.within.1))
    (λ bad. c.in-Err.ensures.bad (ap (λ (fault : RecordFault). Err fault) bad))

use Rattle.std.proofs.Common.{◌≡◌, ◌+◌, ◌*◌, ◌^◌, ◌-◌, ◌≤◌, ◌<◌, ℕ, Some, None, take, drop, arith, ap, sym, refl, ◌∙◌}
use Rattle.std.proofs.lemmas.Grind.{pow_more}
use Rattle.addr_text.specs.Digits.{field_of}
use Rattle.addr_text.specs.V6Reader.{run_of, field_before, fields}
use Rattle.addr_text.proofs.Powers.{field_fits}
use Rattle.addr_text.proofs.Steps.{run-none, run-some}
use Rattle.addr_text.proofs.v6.+read_run.Goals as goal

pub returns-in-None-clause-value : goal.returns-in-None-clause-value
returns-in-None-clause-value t c = c.read_end.ensures.value ∙ sym (run-none c.args.last c.args.room c.args.text.now c.if-room-eq0.false (sym c.in-None.ensures.place))

pub returns-in_err-field-in-Some-clause-value : goal.returns-in_err-field-in-Some-clause-value
returns-in_err-field-in-Some-clause-value t c =
    let rest = run_of c.args.last (c.args.room - 1) (drop (c.in-Some.place + 1) c.args.text.now) in
    c.from_residual.ensures
    ∙ ap (λ o. field_before o rest) c.in_err-field-in-Some.ensures.value
    ∙ sym (run-some c.args.last c.args.room c.args.text.now c.in-Some.place c.if-room-eq0.false (sym c.in-Some.ensures.place))

pub returns-in_err-rest-in-Some-clause-value : goal.returns-in_err-rest-in-Some-clause-value
returns-in_err-rest-in-Some-clause-value t c =
    let first = field_of (take c.in-Some.place c.args.text.now) in
    c.from_residual-in_err-rest-in-Some.ensures
    ∙ ap (λ o. field_before o None) c.in_ok-field-in-Some.ensures.value
    ∙ ap (field_before first) (c.in_err-rest-in-Some.ensures.value ∙ ap (run_of c.args.last (c.args.room - 1)) c.behind.ensures)
    ∙ sym (run-some c.args.last c.args.room c.args.text.now c.in-Some.place c.if-room-eq0.false (sym c.in-Some.ensures.place))

pub returns-in_ok-rest-in-Some-clause-value : goal.returns-in_ok-rest-in-Some-clause-value
returns-in_ok-rest-in-Some-clause-value t c =
    let v = c.in_ok-field-in-Some.field in
    let r = c.in_ok-rest-in-Some.rest in
    ap (λ w. Some (fields (r.count + 1) (v * w + r.bits))) c.pow.ensures
    ∙ ap (field_before (Some v)) (c.in_ok-rest-in-Some.ensures.value ∙ ap (run_of c.args.last (c.args.room - 1)) c.behind.ensures)
    ∙ ap (λ o. field_before o (run_of c.args.last (c.args.room - 1) (drop (c.in-Some.place + 1) c.args.text.now))) c.in_ok-field-in-Some.ensures.value
    ∙ sym (run-some c.args.last c.args.room c.args.text.now c.in-Some.place c.if-room-eq0.false (sym c.in-Some.ensures.place))

-- what was read fits, and so does each part of it
fits : (n v b w : ℕ) → n ≤ 7 → v < 65536 → b < 65536 ^ n → w ≡ 65536 ^ n → (v * w + b < 65536 ^ (n + 1)) × (65536 ^ (n + 1) ≤ 2 ^ 128)
fits n v b w h i j e = rw e (field_fits n v b h i j)

pub pow-requires : goal.pow-requires
pow-requires t c =
    let n = c.in_ok-rest-in-Some.rest.count in
    let h : n ≤ 7 = omega (arith, c.in_ok-rest-in-Some.ensures.count) in
    omega (arith, fits n 0 c.in_ok-rest-in-Some.rest.bits (65536 ^ n) h (omega arith) c.in_ok-rest-in-Some.ensures.within refl, pow_more 65536 n)

pub overflow_mul-result : goal.overflow_mul-result
overflow_mul-result t c =
    let n = c.in_ok-rest-in-Some.rest.count in
    let h : n ≤ 7 = omega (arith, c.in_ok-rest-in-Some.ensures.count) in
    omega (arith, fits n c.in_ok-field-in-Some.field c.in_ok-rest-in-Some.rest.bits c.pow.result h c.in_ok-field-in-Some.ensures.bound c.in_ok-rest-in-Some.ensures.within c.pow.ensures)

pub overflow_add-result-in-Some : goal.overflow_add-result-in-Some
overflow_add-result-in-Some t c =
    let n = c.in_ok-rest-in-Some.rest.count in
    let h : n ≤ 7 = omega (arith, c.in_ok-rest-in-Some.ensures.count) in
    omega (arith, fits n c.in_ok-field-in-Some.field c.in_ok-rest-in-Some.rest.bits c.pow.result h c.in_ok-field-in-Some.ensures.bound c.in_ok-rest-in-Some.ensures.within c.pow.ensures)

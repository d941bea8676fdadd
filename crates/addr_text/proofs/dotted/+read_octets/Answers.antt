use Rattle.std.proofs.Common.{◌≡◌, ◌+◌, ◌*◌, ◌^◌, ◌-◌, ◌≤◌, ◌<◌, ℕ, Some, None, take, drop, ◌≢◌, arith, ap, sym, subst, refl, ◌∙◌}
use Rattle.std.proofs.lemmas.Grind.{pow_more}
use Rattle.addr_text.specs.Digits.{octet_of}
use Rattle.addr_text.specs.Dotted.{octets_of, octet_before}
use Rattle.addr_text.proofs.Powers.{octet_fits}
use Rattle.addr_text.proofs.Steps.{octets-some}
use Rattle.addr_text.proofs.dotted.+read_octets.Goals as goal

pub returns-in_err-first-clause-value : goal.returns-in_err-first-clause-value
returns-in_err-first-clause-value t c =
    let rest = octets_of (c.args.more - 1) (drop (c.in_ok-place.place + 1) c.args.text.now) in
    c.from_residual-in_err-first.ensures
    ∙ ap (λ o. octet_before (256 ^ c.args.more) o rest) c.in_err-first.ensures.value
    ∙ sym (octets-some c.args.more c.args.text.now c.in_ok-place.place c.if-more-eq0.false (sym c.in_ok-place.ensures.place))

pub returns-in_err-rest-clause-value : goal.returns-in_err-rest-clause-value
returns-in_err-rest-clause-value t c =
    let first = octet_of (take c.in_ok-place.place c.args.text.now) in
    c.from_residual-in_err-rest.ensures
    ∙ ap (λ o. octet_before (256 ^ c.args.more) o None) c.in_ok-first.ensures.value
    ∙ ap (octet_before (256 ^ c.args.more) first) (c.in_err-rest.ensures.value ∙ ap (octets_of (c.args.more - 1)) c.behind.ensures)
    ∙ sym (octets-some c.args.more c.args.text.now c.in_ok-place.place c.if-more-eq0.false (sym c.in_ok-place.ensures.place))

pub returns-clause-value : goal.returns-clause-value
returns-clause-value t c =
    let first = octet_of (take c.in_ok-place.place c.args.text.now) in
    ap (λ w. Some (c.in_ok-first.first * w + c.in_ok-rest.rest)) c.pow.ensures
    ∙ ap (octet_before (256 ^ c.args.more) (Some c.in_ok-first.first)) (c.in_ok-rest.ensures.value ∙ ap (octets_of (c.args.more - 1)) c.behind.ensures)
    ∙ ap (λ o. octet_before (256 ^ c.args.more) o (octets_of (c.args.more - 1) (drop (c.in_ok-place.place + 1) c.args.text.now))) c.in_ok-first.ensures.value
    ∙ sym (octets-some c.args.more c.args.text.now c.in_ok-place.place c.if-more-eq0.false (sym c.in_ok-place.ensures.place))

-- what was read fits, and so does each part of it
fits : (n v b w : ℕ) → n ≤ 3 → n ≢ 0 → v < 256 → b < 256 ^ (n - 1 + 1) → w ≡ 256 ^ n → (v * w + b < 256 ^ (n + 1)) × (256 ^ (n + 1) ≤ 2 ^ 32)
fits n v b w h k i j e =
    let same : n - 1 + 1 ≡ n = omega arith in
    rw e (octet_fits n v b h i (subst (λ x. b < 256 ^ x) same j))

pub pow-requires : goal.pow-requires
pow-requires t c = omega (arith, fits c.args.more 0 c.in_ok-rest.rest (256 ^ c.args.more) c.requires c.if-more-eq0.false (omega arith) c.in_ok-rest.ensures.bound refl, pow_more 256 c.args.more)

pub overflow_mul-result : goal.overflow_mul-result
overflow_mul-result t c = omega (arith, fits c.args.more c.in_ok-first.first c.in_ok-rest.rest c.pow.result c.requires c.if-more-eq0.false c.in_ok-first.ensures.bound c.in_ok-rest.ensures.bound c.pow.ensures)

pub overflow_add-result : goal.overflow_add-result
overflow_add-result t c = omega (arith, fits c.args.more c.in_ok-first.first c.in_ok-rest.rest c.pow.result c.requires c.if-more-eq0.false c.in_ok-first.ensures.bound c.in_ok-rest.ensures.bound c.pow.ensures)

pub returns-clause-bound : goal.returns-clause-bound
returns-clause-bound t c = (fits c.args.more c.in_ok-first.first c.in_ok-rest.rest c.pow.result c.requires c.if-more-eq0.false c.in_ok-first.ensures.bound c.in_ok-rest.ensures.bound c.pow.ensures).0

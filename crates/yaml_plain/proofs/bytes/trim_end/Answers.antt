use Rattle.std.proofs.Common.{◌≡◌, ◌+◌, ◌-◌, take, ap, sym, ◌∙◌, arith}
use Rattle.yaml_plain.specs.Bytes.{trim_end}
use Rattle.yaml_plain.proofs.lemmas.Parts.{trim_step, trim_done}
use Rattle.yaml_plain.proofs.bytes.trim_end.Goals as goal
use Rattle.yaml_plain.proofs.bytes.trim_end.Goals.{then-loop-end-test+else-text-end-eq32, else-loop-end-test}

pub loop-end-preserved : goal.loop-end-preserved
loop-end-preserved c =
    let text = c.args.text.now in
    let k : c.loop-end.end - 1 + 1 ≡ c.loop-end.end = omega arith in
    record {
      within = omega arith;
      same = sym (trim_step text (c.loop-end.end - 1) (omega arith) c.if-text-end-eq32.true) ∙ ap (λ n. trim_end (take n text)) k ∙ c.loop-end.invariant.same;
    }

pub returns : goal.returns
returns c =
    let text = c.args.text.now in
    elim c.loop-end-test.branch [
      | then-loop-end-test+else-text-end-eq32 w ↦
          let k : c.loop-end.end - 1 + 1 ≡ c.loop-end.end = omega arith in
          ap (λ n. take n text) (sym k) ∙ sym (trim_done text (c.loop-end.end - 1) (omega arith) w.if-text-end-eq32.false) ∙ ap (λ n. trim_end (take n text)) k ∙ c.loop-end.invariant.same
      | else-loop-end-test w ↦
          let z : c.loop-end.end ≡ 0 = omega arith in
          ap (λ n. take n text) z ∙ ap (λ n. trim_end (take n text)) (sym z) ∙ c.loop-end.invariant.same
    ]

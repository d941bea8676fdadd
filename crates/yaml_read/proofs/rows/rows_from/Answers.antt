use Rattle.std.proofs.Common.{◌≡◌, ◌+◌, ◌++◌, List, ℕ, length, arith, ap, ◌∙◌}
use Rattle.std.proofs.lemmas.Iterator.Splits.{YieldsList-from_lines}
use Rattle.std.proofs.lemmas.Iterator.Consumers.{YieldsList-turn, YieldsList-end}
use Rattle.std.proofs.lemmas.List.{length_push}
use Rattle.std.specs.Str.Lines.{lines}
use Rattle.yaml_read.specs.Rows.{rows_of_line}
use Rattle.yaml_read.specs.Seen.{all_seen}
use Rattle.yaml_read.proofs.RowLaws.{rows_step, rows_end}
use Rattle.yaml_read.proofs.rows.rows_from.Goals as goal

pub loop-line-preserved : goal.loop-line-preserved
loop-line-preserved c =
    let t = YieldsList-turn (YieldsList-from_lines c.args.text.now cc) c.loop-line.yielded _ c.loop-line.yielded_by _ _ c.in-Some.line c.in-Some.is c.next.ensures.steps in
    let n = length_push c.loop-line.yielded c.in-Some.line in
    let k = length c.loop-line.yielded in
    let pushed : all_seen c.push_line.new.rows.items ≡ all_seen c.loop-line.rows.items ++ rows_of_line (k + 1) c.in-Some.line.now =
    c.in_ok-push_line.ensures
    ∙ (ap (λ (x : ℕ). all_seen c.loop-line.rows.items ++ rows_of_line x c.as_bytes.result.now) c.loop-line.invariant.counted
    ∙ ap (λ (x : List ℕ). all_seen c.loop-line.rows.items ++ rows_of_line (k + 1) x) c.as_bytes.ensures.value) in
    record {
      counted = omega (arith, n, c.loop-line.invariant.counted);
      rest = rw (n, pushed) (rows_step (lines c.args.text.now) k c.in-Some.line.now t.0 t.1 _ _ c.loop-line.invariant.rest);
    }

pub returns : goal.returns
returns c =
    let t = YieldsList-end (YieldsList-from_lines c.args.text.now cc) c.loop-line.yielded _ c.loop-line.yielded_by _ _ c.in-None.is c.next.ensures.steps in
    rows_end (lines c.args.text.now) (length c.loop-line.yielded) _ _ (omega (arith, t.1)) c.loop-line.invariant.rest

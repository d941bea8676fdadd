use Rattle.std.proofs.Common.{◌≡◌, ◌+◌, ◌++◌, length, drop}
use Rattle.std.specs.Str.Lines.{lines}
use Rattle.yaml_read.specs.Rows.{rows_from}
use Rattle.yaml_read.specs.Seen.{all_seen}
use Rattle.yaml_read.proofs.rows.rows_from.Given as goal

abbrev pub invariant-loop-line : goal.invariant-loop-line
invariant-loop-line l = record {
  counted : l.number ≡ length l.yielded + 1;
  rest : all_seen l.rows.items ++ rows_from (length l.yielded + 1) (drop (length l.yielded) (lines l.text)) ≡ rows_from 1 (lines l.text);
}

use denote.Text.{Utf8}
use denote.Shadow.{shadow}
use Rattle.case_table.proofs.parts.report.Given as goal

-- each string that the loop changes is text
abbrev pub invariant-loop-line : goal.invariant-loop-line
invariant-loop-line g l =
    (goal.iterator-loop-line g).can_next l.line-iterator ×
    (goal.iterator-loop-line g).is_finite l.line-iterator ×
    shadow (Utf8 l.kind) ×
    shadow (Utf8 l.title)

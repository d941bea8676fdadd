use Rattle.std.proofs.Common.{◌≡◌, take}
use Rattle.top_model.specs.Said.{call_lines}
use Rattle.answer_text.proofs.texts.call_text.Given as goal

-- the calls so far
abbrev pub invariant-loop-call : goal.invariant-loop-call
invariant-loop-call l = l.out.items ≡ call_lines (take l.call-index l.calls)

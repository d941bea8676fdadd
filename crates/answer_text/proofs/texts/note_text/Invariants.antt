use Rattle.std.proofs.Common.{◌≡◌, take}
use Rattle.top_model.specs.Texts.{note_lines}
use Rattle.answer_text.proofs.texts.note_text.Given as goal

-- the notes so far
abbrev pub invariant-loop-path : goal.invariant-loop-path
invariant-loop-path l = l.out.items ≡ note_lines (take l.path-index l.notes)

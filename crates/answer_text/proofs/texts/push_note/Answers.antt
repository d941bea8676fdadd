use Rattle.std.proofs.Common.{append_assoc}
use Rattle.answer_text.proofs.texts.push_note.Goals as goal

pub returns : goal.returns
returns c = rw (c.in_ok-extend_from_slice-2.ensures.items, c.in_ok-write_path.ensures.ok, c.in_ok-extend_from_slice.ensures.items) (simp append_assoc)

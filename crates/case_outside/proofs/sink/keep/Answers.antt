use Rattle.std.specs.Prelude.{is_ok}
use Rattle.case_outside.proofs.Kept.{keeps_either}
use Rattle.case_outside.proofs.sink.keep.Goals as goal

pub returns-in-None-clause-some : goal.returns-in-None-clause-some
returns-in-None-clause-some c = keeps_either (is_ok c.extend_from_slice.result) _ _ _ c.extend_from_slice.ensures.items

pub returns-then-fuse-clause-some : goal.returns-then-fuse-clause-some
returns-then-fuse-clause-some c = keeps_either (is_ok c.extend_from_slice-then-fuse.result) _ _ _ c.extend_from_slice-then-fuse.ensures.items

use Rattle.std.proofs.Common.{◌≡◌, length}
use Rattle.case_outside.specs.FolderRecord.{differ}
use Rattle.whole_runs.proofs.files.differ.Given as goal

-- what is left decides
abbrev pub invariant-loop-file : goal.invariant-loop-file
invariant-loop-file l = differ l.left ≡ differ l.fn.files

abbrev pub decreases-loop-file : goal.decreases-loop-file
decreases-loop-file l = length l.left

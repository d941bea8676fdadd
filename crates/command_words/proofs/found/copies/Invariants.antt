use Rattle.std.proofs.Common.{◌≡◌, map, take}
use Rattle.command_words.proofs.found.copies.Given as goal

-- the folders so far
abbrev pub invariant-loop-dir : goal.invariant-loop-dir
invariant-loop-dir l = l.copies.items ≡ map (λ dir. dir.now) (take l.dir-index l.dirs)

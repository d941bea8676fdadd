use Rattle.reach.proofs.lemmas.Followed.{ListsSoFar}
use Rattle.reach.proofs.sources.Given as goal

-- the sources so far
abbrev pub invariant-loop-place : goal.invariant-loop-place
invariant-loop-place l = ListsSoFar l.starts l.left.items l.place

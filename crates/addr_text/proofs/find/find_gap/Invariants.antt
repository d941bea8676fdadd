use Rattle.std.proofs.Common.{length, ◌-◌, ◌≡◌, ◌≤◌, drop}
use Rattle.addr_text.specs.Find.{gap_of}
use Rattle.addr_text.proofs.Gap.{moved}
use Rattle.addr_text.proofs.find.find_gap.Given as goal

abbrev pub invariant-loop-place : goal.invariant-loop-place
invariant-loop-place l = (l.place ≤ length l.text) × (gap_of l.text ≡ moved l.place (gap_of (drop l.place l.text)))

abbrev pub decreases-loop-place : goal.decreases-loop-place
decreases-loop-place l = length l.text - l.place

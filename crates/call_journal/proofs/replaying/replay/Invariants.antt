use Rattle.std.proofs.Common.{◌≡◌, ◌≤◌, ◌-◌, length, drop}
use Rattle.call_journal.specs.Replay.{replayed}
use Rattle.call_journal.specs.Weight.{journal_weight}
use Rattle.call_journal.proofs.lemmas.Replaying.{shifted}
use Rattle.call_journal.proofs.Turns.{LedUpTo}
use Rattle.call_journal.proofs.replaying.replay.Given as goal

abbrev pub invariant-records : goal.invariant-records
invariant-records l = record {
  within : l.at ≤ length l.bytes;
  carried : shifted l.at (replayed l.net (drop l.at l.bytes)) ≡ replayed l.fn.net l.bytes;
  led : LedUpTo l.fn.net l.bytes l.at l.net;
  weighed : l.left - journal_weight (drop l.at l.bytes) ≡ l.spare - journal_weight l.bytes;
}

abbrev pub decreases-records : goal.decreases-records
decreases-records l = length l.bytes - l.at

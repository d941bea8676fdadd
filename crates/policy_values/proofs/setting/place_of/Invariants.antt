use Rattle.std.proofs.Common.{◌≡◌, drop}
use Rattle.policy_values.specs.Lists.{place_of}
use Rattle.policy_values.proofs.InPlace.{moved}
use Rattle.policy_values.proofs.setting.place_of.Given as goal

-- none before
abbrev pub invariant-loop-i : goal.invariant-loop-i
invariant-loop-i l = moved l.i (place_of l.key (drop l.i l.pairs)) ≡ place_of l.key l.pairs

use Rattle.std.proofs.Common.{◌≡◌, ◌+◌, drop}
use Rattle.top_model.specs.Machine.{simulated}
use Rattle.plain_commands.proofs.simulate.after_calls.Given as goal

-- the calls that are left lead on to what all of them lead to
abbrev pub invariant-loop-i : goal.invariant-loop-i
invariant-loop-i l = simulated (l.i + 1) (drop l.i l.calls) l.net ≡ simulated 1 l.calls l.fn.from

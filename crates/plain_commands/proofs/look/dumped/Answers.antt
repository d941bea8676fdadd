use Rattle.std.proofs.Common.{inl, inr}
use Rattle.plain_commands.proofs.look.dumped.Goals as goal

pub returns-in-Ok-clause-looks : goal.returns-in-Ok-clause-looks
returns-in-Ok-clause-looks g c = record { state = c.in-Ok.ensures.state; stops = c.in-Ok.ensures.stops; unmade = inr c.in-Ok.ensures.calls; later = c.in-Ok.ensures.cause.later }

pub returns-in-Err-Failed-clause-looks : goal.returns-in-Err-Failed-clause-looks
returns-in-Err-Failed-clause-looks g c =
    record { state = c.in-Err-Failed.ensures.state; stops = c.in-Err-Failed.ensures.stops; unmade = inl c.in-Err-Failed.ensures.kernel; later = c.in-Err-Failed.ensures.cause.later }

pub returns-in-Err-Damaged-clause-looks : goal.returns-in-Err-Damaged-clause-looks
returns-in-Err-Damaged-clause-looks g c =
    record { state = c.in-Err-Damaged.ensures.state; stops = c.in-Err-Damaged.ensures.stops; unmade = inl c.in-Err-Damaged.ensures.kernel; later = c.in-Err-Damaged.ensures.cause.later }

pub returns-in-Err-OutOfMemory-clause-looks : goal.returns-in-Err-OutOfMemory-clause-looks
returns-in-Err-OutOfMemory-clause-looks g c = record {
  state = c.in-Err-OutOfMemory.ensures.state;
  stops = c.in-Err-OutOfMemory.ensures.stops;
  unmade = inl c.in-Err-OutOfMemory.ensures.kernel;
  later = c.in-Err-OutOfMemory.ensures.cause.later;
}

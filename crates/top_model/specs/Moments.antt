-- The moment of a command.
use Rattle.std.specs.Prelude.{◌≡◌, ℕ, List, map, String, string_bytes, None}
use Rattle.std.specs.declared.alloc.Global.{Global}
use Rattle.host_core.specs.Clocks.{Ticks}
use Rattle.host_core.specs.declared.Clock.{Ghosts as ClockGhosts}
use Rattle.command_words.specs.Words.{command_of}
use Rattle.top_model.specs.Scripts.{file_of}

-- the clock is asked once, and of every command but `script` this holds at the moment that it gives
abbrev pub AtMoment : {C : Type 0} → ClockGhosts C → C → C → List (String Global) → (ℕ → Type 0) → Type 0
AtMoment C old new words P = (now : ℕ) × (C.tells → Ticks (C.coming old) now (C.coming new)) × (file_of (command_of (map string_bytes words)) ≡ None → P now)

-- What the parts of the reader answer.
use Rattle.std.specs.Prelude.{◌≡◌, ℕ, List, drop, Some, None, Result, Ok, Err}
use Rattle.net_image.specs.Form.{Form}
use Rattle.call_journal.specs.declared.fault.RecordFault.{RecordFault}
use Rattle.call_journal.specs.declared.fault.RecordFault.TheVariants.{Bad, OutOfMemory}

-- nothing is read there, or memory was refused
abbrev pub FailsAt : {X : Type 0} → RecordFault → Form X → List ℕ → ℕ → Type 0
FailsAt Bad form bytes at = form.read (drop at bytes) ≡ None
FailsAt OutOfMemory form bytes at = Unit {0}

-- what is read at a place, and the place behind it
abbrev pub Reads : {X : Type 0} → Form X → List ℕ → ℕ → Result (X × ℕ) RecordFault → Type 0
Reads form bytes at (Ok found) = form.read (drop at bytes) ≡ Some (found.0, drop found.1 bytes)
Reads form bytes at (Err fault) = FailsAt fault form bytes at

-- Fields that begin at a place in bytes.
use Rattle.std.specs.Prelude.{◌≡◌, ◌≤◌, ℕ, true, List, ◌++◌, length, drop, Some, None, Result, Ok, Err}
use Rattle.net_image.specs.Form.{Form}
use Rattle.net_image.specs.declared.field_fault.FieldFault.{FieldFault}
use Rattle.net_image.specs.declared.field_fault.FieldFault.TheVariants.{Bad, OutOfMemory}

-- the bytes of the value begin at the one place, and the other is behind them
pub record IsField {X : Type 0} (form : Form X) (bytes : List ℕ) (at : ℕ) (x : X) (behind : ℕ) : Type 0 where
  pub fits : form.fits x ≡ true
  pub spelled : drop at bytes ≡ form.write x ++ drop behind bytes
  pub within : behind ≤ length bytes

-- no field begins there, or memory was refused
abbrev pub FailsAt : {X : Type 0} → FieldFault → Form X → List ℕ → ℕ → Type 0
FailsAt Bad form bytes at = form.read (drop at bytes) ≡ None
FailsAt OutOfMemory form bytes at = Unit {0}

-- the field that is read at the place, and the place behind it
abbrev pub Takes : {X : Type 0} → Form X → List ℕ → ℕ → Result (X × ℕ) FieldFault → Type 0
Takes form bytes at (Ok found) = form.read (drop at bytes) ≡ Some (found.0, drop found.1 bytes)
Takes form bytes at (Err fault) = FailsAt fault form bytes at

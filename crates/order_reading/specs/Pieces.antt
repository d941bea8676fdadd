-- The bytes that are read of an input, piece by piece.
use Rattle.std.specs.Prelude.{◌≡◌, ◌≤◌, ◌<◌, ◌++◌, ℕ, [], Bool, true, false, length, Some, None, Result, Ok, Err, Vec}
use Rattle.std.specs.declared.alloc.Global.{Global}
use Rattle.host_core.specs.Faults.{Rose}
use Rattle.host_core.specs.Streams.{SourceView}
use Rattle.top_model.specs.Orders.{Text, read_limit}
use Rattle.top_model.specs.declared.Cause.{Cause}
use Rattle.top_model.specs.declared.Cause.TheVariants.{NoSuchName, ReadFault, OutOfMemory}
use Rattle.order_reading.specs.Reading.{GoesOn}

abbrev pub bytes_seen : Vec ℕ Global → Text
bytes_seen bytes = bytes.items

-- one piece more was read, behind what was there
pub record Piece (tells : Type 0) (had bytes : Text) (old new : SourceView) (more : Bool) : Type 0 where
  pub within : length bytes ≤ read_limit
  pub grows : more ≡ true → length had < length bytes
  pub joined : tells → bytes ++ new.left ≡ had ++ old.left
  pub at_end : more ≡ false → tells → new.left ≡ []

abbrev pub PieceFault : SourceView → SourceView → Cause → Type 0
PieceFault old new ReadFault = Rose old.faults new.faults
PieceFault old new OutOfMemory = Unit {0}
PieceFault old new _ = ⊥

abbrev pub PieceOutcome : Type 0 → Text → Text → SourceView → SourceView → Result Bool Cause → Type 0
PieceOutcome tells had bytes old new (Ok more) = Piece tells had bytes old new more
PieceOutcome tells had bytes old new (Err c) = PieceFault old new c

pub record ReadsPiece (tells : Type 0) (had bytes : Text) (old new : SourceView) (result : Result Bool Cause) : Type 0 where
  pub source : GoesOn tells old new
  pub outcome : PieceOutcome tells had bytes old new result

-- the bytes of an input were read: up to the limit and one, or up to its end
pub record Front (tells : Type 0) (name : Text) (old new : SourceView) (bytes : Text) : Type 0 where
  pub within : length bytes ≤ read_limit
  pub whole : tells → old.inputs name ≡ Some (bytes ++ new.left)
  pub at_end : length bytes < read_limit → tells → new.left ≡ []

abbrev pub NameOutcome : Type 0 → Text → SourceView → SourceView → Result (Vec ℕ Global) Cause → Type 0
NameOutcome tells name old new (Ok bytes) = Front tells name old new bytes.items
NameOutcome tells name old new (Err NoSuchName) = tells → old.inputs name ≡ None
NameOutcome tells name old new (Err ReadFault) = Rose old.faults new.faults
NameOutcome tells name old new (Err OutOfMemory) = Unit {0}
NameOutcome tells name old new (Err _) = ⊥

pub record ReadsName (tells : Type 0) (name : Text) (old new : SourceView) (result : Result (Vec ℕ Global) Cause) : Type 0 where
  pub source : GoesOn tells old new
  pub outcome : NameOutcome tells name old new result

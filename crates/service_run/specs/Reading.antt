-- Reading the document of a file of a folder, piece by piece.
use Rattle.std.specs.Prelude.{◌≡◌, ◌≤◌, ◌<◌, ◌++◌, ℕ, [], Bool, true, false, length, take, Some, None, Result, Ok, Err, Vec}
use Rattle.std.specs.declared.alloc.Global.{Global}
use Rattle.document_model.specs.declared.Doc.{Doc}
use Rattle.host_core.specs.Faults.{Rose}
use Rattle.host_core.specs.Folders.{FolderView, Unmoved, bytes_of}
use Rattle.top_model.specs.Orders.{Text, document, read_limit}
use Rattle.top_model.specs.declared.report.Cause.{Cause}
use Rattle.top_model.specs.declared.report.Cause.TheVariants.{DocRefused, BadLine, BatchLine, BatchLarge, NoSuchName, FolderFault, OutOfMemory}

-- nothing is marked, and its count doesn't fall
pub record GoesOn (tells : Type 0) (old new : FolderView) : Type 0 where
  pub unmoved : Unmoved tells old new
  pub later : old.faults ≤ new.faults

-- ---- pieces

-- one piece more was read, behind what was there
pub record Piece (tells : Type 0) (had bytes : Text) (old new : FolderView) (more : Bool) : Type 0 where
  pub within : length bytes ≤ read_limit
  pub grows : more ≡ true → length had < length bytes
  pub joined : tells → bytes ++ new.left ≡ had ++ old.left
  pub at_end : more ≡ false → tells → new.left ≡ []

abbrev pub PieceOutcome : Type 0 → Text → Text → FolderView → FolderView → Result Bool Cause → Type 0
PieceOutcome tells had bytes old new (Ok more) = Piece tells had bytes old new more
PieceOutcome tells had bytes old new (Err FolderFault) = Rose old.faults new.faults
PieceOutcome tells had bytes old new (Err OutOfMemory) = Unit {0}
PieceOutcome tells had bytes old new (Err _) = ⊥

pub record ReadsPiece (tells : Type 0) (had bytes : Text) (old new : FolderView) (result : Result Bool Cause) : Type 0 where
  pub folder : GoesOn tells old new
  pub outcome : PieceOutcome tells had bytes old new result

-- the bytes were read since the folder stood at `old`, where the file was begun
pub record Reading (tells : Type 0) (old new : FolderView) (bytes : Text) : Type 0 where
  pub folder : GoesOn tells old new
  pub within : length bytes ≤ read_limit
  pub told : tells → bytes ++ new.left ≡ old.left

-- ---- a file

-- the bytes are what is read of the file of this name
abbrev pub IsFront : Text → FolderView → Text → Type 0
IsFront name old bytes = (all : Text) × (bytes_of name old.files ≡ Some all) × (bytes ≡ take read_limit all)

abbrev pub FileOutcome : Type 0 → Text → FolderView → FolderView → Result (Vec ℕ Global) Cause → Type 0
FileOutcome tells name old new (Ok bytes) = tells → IsFront name old bytes.items
FileOutcome tells name old new (Err NoSuchName) = tells → bytes_of name old.files ≡ None
FileOutcome tells name old new (Err FolderFault) = Rose old.faults new.faults
FileOutcome tells name old new (Err OutOfMemory) = Unit {0}
FileOutcome tells name old new (Err _) = ⊥

pub record ReadsFile (tells : Type 0) (name : Text) (old new : FolderView) (result : Result (Vec ℕ Global) Cause) : Type 0 where
  pub folder : GoesOn tells old new
  pub outcome : FileOutcome tells name old new result

-- ---- its document

-- the file of this name is read as this
abbrev pub IsReadAs : Text → FolderView → Result Doc Cause → Type 0
IsReadAs name old answer = (all : Text) × (bytes_of name old.files ≡ Some all) × (document (take read_limit all) ≡ answer)

abbrev pub DocumentOutcome : Type 0 → Text → FolderView → FolderView → Result Doc Cause → Type 0
DocumentOutcome tells name old new (Ok doc) = tells → IsReadAs name old (Ok doc)
DocumentOutcome tells name old new (Err (DocRefused fault)) = tells → IsReadAs name old (Err (DocRefused fault))
DocumentOutcome tells name old new (Err (BadLine n)) = tells → IsReadAs name old (Err (BadLine n))
DocumentOutcome tells name old new (Err (BatchLine n)) = tells → IsReadAs name old (Err (BatchLine n))
DocumentOutcome tells name old new (Err BatchLarge) = tells → IsReadAs name old (Err BatchLarge)
DocumentOutcome tells name old new (Err NoSuchName) = tells → bytes_of name old.files ≡ None
DocumentOutcome tells name old new (Err FolderFault) = Rose old.faults new.faults
DocumentOutcome tells name old new (Err OutOfMemory) = Unit {0}
DocumentOutcome tells name old new (Err _) = ⊥

-- The document of a file, or why there is none.
pub record ReadsDocument (tells : Type 0) (name : Text) (old new : FolderView) (result : Result Doc Cause) : Type 0 where
  -- nothing is marked
  pub folder : GoesOn tells old new
  -- the file is there and is this, or is refused so; a fault of the folder only where its count rose
  pub outcome : DocumentOutcome tells name old new result

-- What is answered for a reading.
use Rattle.std.specs.Prelude.{◌≡◌, List, map, Result, Ok, Err}
use Rattle.base_model.specs.declared.Path.{Path}
use Rattle.tree_schema.specs.Reading.{Steps, Reading}
use Rattle.tree_schema.specs.declared.fault.Reason.{Reason}
use Rattle.tree_schema.specs.declared.fault.Reason.TheVariants as reason
use Rattle.tree_schema.specs.declared.stop.Stop.{Stop}
use Rattle.tree_schema.specs.declared.stop.Stop.TheVariants as stop
use Rattle.tree_schema.specs.declared.fault.SchemaFault.{SchemaFault}
use Rattle.tree_schema.specs.declared.fault.SchemaFault.TheVariants.{UnknownKey, WrongType, OutOfRange, Missing, Unsupported, OutOfMemory}

abbrev pub path_of : Steps → Path
path_of steps = record { steps = steps }

abbrev pub fault_of : Reason × Steps → SchemaFault
fault_of (reason.UnknownKey, place) = UnknownKey (path_of place)
fault_of (reason.WrongType, place) = WrongType (path_of place)
fault_of (reason.OutOfRange, place) = OutOfRange (path_of place)
fault_of (reason.Missing, place) = Missing (path_of place)
fault_of (reason.Unsupported, place) = Unsupported (path_of place)

abbrev pub IsFaultOf : Stop → Steps → SchemaFault → Type 0
IsFaultOf (stop.Refused reason) here fault = fault ≡ fault_of (reason, here)
IsFaultOf stop.OutOfMemory here fault = fault ≡ OutOfMemory

-- what a reading of the whole tree makes of its value and its notes, or its fault
abbrev pub told : {X Y : Type 0} → (X → List Path → Y) → Reading X → Result Y SchemaFault
told make (Ok (x, notes)) = Ok (make x (map path_of notes))
told make (Err refusal) = Err (fault_of refusal)

-- an answer is that, or out of memory
abbrev pub Tells : {X Y : Type 0} → (X → List Path → Y) → Reading X → Result Y SchemaFault → Type 0
Tells make reading (Ok y) = told make reading ≡ Ok y
Tells make reading (Err OutOfMemory) = Unit {0}
Tells make reading (Err fault) = told make reading ≡ Err fault

-- The status of each answer, and what is written for it.
use Rattle.std.specs.Prelude.{ℕ, ◌-◌, slice_get, unwrap_or, ◌==◌, List, [], ◌∷◌, ◌++◌, flat_map, if◌then◌else◌, codes, decimal}
use Rattle.base_model.specs.PathText.{path_text}
use Rattle.base_model.specs.declared.Path.{Path}
use Rattle.document_model.specs.declared.Refused.{Refused}
use Rattle.document_model.specs.declared.Place.{Place}
use Rattle.document_model.specs.declared.Place.TheVariants as place
use Rattle.doc_tree.specs.declared.JsonFault.{JsonFault}
use Rattle.doc_tree.specs.declared.JsonFault.TheVariants as json
use Rattle.yaml_read.specs.declared.YamlFault.{YamlFault}
use Rattle.yaml_read.specs.declared.YamlFault.TheVariants as yaml
use Rattle.tree_schema.specs.declared.SchemaFault.{SchemaFault}
use Rattle.tree_schema.specs.declared.SchemaFault.TheVariants as schema
use Rattle.policy_model.specs.declared.fault.PolicyFault.{PolicyFault}
use Rattle.policy_model.specs.declared.fault.PolicyFault.TheVariants as policy
use Rattle.top_model.specs.declared.report.DocFault.{DocFault}
use Rattle.top_model.specs.declared.report.DocFault.TheVariants.{Json, Yaml, Schema, Policy}
use Rattle.engine_model.specs.declared.Left.{Left}
use Rattle.engine_model.specs.declared.Left.TheVariants as left
use Rattle.top_model.specs.Orders.{Text}
use Rattle.top_model.specs.Said.{line, times}
use Rattle.top_model.specs.declared.report.Cause.{Cause}
use Rattle.top_model.specs.declared.report.Cause.TheVariants.{Done, DocRefused, MergeRefused, Usage, BadLine, BatchLine, BatchLarge, CallRefused, FolderFault, Halted, Pending, NoCheckpoint, Unfinished, Expired, Exists, NoSuchName, ReadFault, WriteFault, HostFault, InDoubt, KernelRefused, NotVerified, Damaged, HardwareDiffers, OutOfMemory}

-- ---- statuses

abbrev pub status_left : Left → ℕ
status_left left.RolledBack = 4
status_left left.NotBegun = 5
status_left left.Pending = 5

abbrev pub status_of : Cause → ℕ
status_of Done = 0
status_of (DocRefused fault) = 1
status_of (MergeRefused refused) = 1
status_of Usage = 2
status_of (BadLine n) = 2
status_of (BatchLine n) = 1
status_of BatchLarge = 1
status_of (CallRefused n k) = 13
status_of FolderFault = 12
status_of (Halted event) = 14
status_of (Pending deadline) = 3
status_of NoCheckpoint = 3
status_of (Unfinished since deadline) = 3
status_of (Expired since deadline) = 3
status_of Exists = 3
status_of (HostFault side) = status_left side
status_of (KernelRefused k n side) = status_left side
status_of NoSuchName = 6
status_of ReadFault = 6
status_of (WriteFault status) = 7
status_of OutOfMemory = 8
status_of (NotVerified net side) = 9
status_of InDoubt = 10
status_of (Damaged area) = 11
status_of (HardwareDiffers names) = 11

-- ---- the words of each fault of a document

abbrev pub at_path : Text → Path → Text
at_path name path = name ++ codes " at " ++ path_text path.steps

abbrev pub at_line : Text → ℕ → Text
at_line name n = name ++ codes " at line " ++ decimal n

abbrev pub json_words : JsonFault → Text
json_words json.NotJson = codes "NotJson"
json_words (json.NotWhole path) = at_path (codes "NotWhole") path
json_words json.TooDeep = codes "TooDeep"
json_words json.TooLarge = codes "TooLarge"
json_words json.OutOfMemory = []

abbrev pub yaml_words : YamlFault → Text
yaml_words (yaml.NotUtf8 at) = codes "NotUtf8 at byte " ++ decimal at
yaml_words (yaml.Unsupported n) = at_line (codes "Unsupported") n
yaml_words (yaml.Malformed n) = at_line (codes "Malformed") n
yaml_words (yaml.DuplicateKey n) = at_line (codes "DuplicateKey") n
yaml_words (yaml.TooDeep n) = at_line (codes "TooDeep") n
yaml_words yaml.TooLarge = codes "TooLarge"
yaml_words yaml.OutOfMemory = []

abbrev pub schema_words : SchemaFault → Text
schema_words (schema.UnknownKey path) = at_path (codes "UnknownKey") path
schema_words (schema.WrongType path) = at_path (codes "WrongType") path
schema_words (schema.OutOfRange path) = at_path (codes "OutOfRange") path
schema_words (schema.Missing path) = at_path (codes "Missing") path
schema_words (schema.Unsupported path) = at_path (codes "Unsupported") path
schema_words schema.OutOfMemory = []

abbrev pub policy_words : PolicyFault → Text
policy_words (policy.WrongShape path) = at_path (codes "WrongShape") path
policy_words (policy.BadExpression path) = at_path (codes "BadExpression") path
policy_words (policy.UnknownCapture path) = at_path (codes "UnknownCapture") path
policy_words (policy.CaptureCycle path) = at_path (codes "CaptureCycle") path
policy_words (policy.NoValue path) = at_path (codes "NoValue") path
policy_words policy.TooDeep = codes "TooDeep"
policy_words policy.TooLarge = codes "TooLarge"
policy_words policy.OutOfMemory = []

abbrev pub document_words : DocFault → Text
document_words (Json fault) = json_words fault
document_words (Yaml fault) = yaml_words fault
document_words (Schema fault) = schema_words fault
document_words (Policy fault) = policy_words fault

-- ---- the words of the merge's rules

abbrev pub rule_names : List Text
rule_names = codes "DuplicateName" ∷ codes "NoType" ∷ codes "NoDevice" ∷ codes "PhysicalKind" ∷ codes "MissingDetail" ∷ codes "PortMissing" ∷ codes "PortTwice" ∷ codes "PortConflict" ∷ codes "PortKind" ∷ codes "BadBase" ∷ codes "Cycle" ∷ codes "VlanTwin" ∷ codes "BaseDown" ∷ codes "VlanMtu" ∷ codes "BondOptions" ∷ codes "PortAddress" ∷ codes "AddressTwice" ∷ codes "RouteDevice" ∷ codes "RouteGateway" ∷ codes "RouteTwin" ∷ codes "Limit" ∷ codes "PeerBroken" ∷ []

abbrev pub rule_name : ℕ → Text
rule_name rule = unwrap_or (slice_get rule_names (rule - 1)) []

abbrev pub which_words : ℕ → Text
which_words which = if which == 0 then [] else codes " " ++ decimal which

abbrev pub place_words : Place → Text
place_words (place.Link name) = codes " at " ++ name
place_words (place.Route i) = codes " at routes.config[" ++ decimal i ++ codes "]"
place_words (place.Rule i) = codes " at route-rules.config[" ++ decimal i ++ codes "]"
place_words place.Whole = []

abbrev pub merge_words : Refused → Text
merge_words r = codes "merge rule " ++ decimal r.rule ++ codes " " ++ rule_name r.rule ++ which_words r.which ++ place_words r.place

-- ---- the line of each answer

abbrev pub left_words : Left → Text
left_words left.NotBegun = codes "not begun"
left_words left.RolledBack = codes "rolled back"
left_words left.Pending = codes "rollback pending"

-- parted by spaces
abbrev pub spaced : List Text → Text
spaced [] = []
spaced (word ∷ []) = word
spaced (word ∷ next ∷ words) = word ++ codes " " ++ spaced (next ∷ words)

abbrev pub area_words : ℕ → Text
area_words area = if area == 0 then codes "kernel area damaged" else codes "checkpoint damaged"

abbrev pub error : Text → Text
error text = line (codes "error: " ++ text)

-- nothing where it is done, where a sink failed, or where a rollout was halted, of which its own lines tell
abbrev pub error_line : Cause → Text
error_line Done = []
error_line (DocRefused fault) = error (codes "document: " ++ document_words fault)
error_line (MergeRefused refused) = error (merge_words refused)
error_line Usage = error (codes "usage: nmstatectl [--state DIR] COMMAND")
error_line (BadLine n) = error (codes "script line " ++ decimal n)
error_line (BatchLine n) = error (codes "batch line " ++ decimal n)
error_line BatchLarge = error (codes "batch too large")
error_line (CallRefused n k) = error (codes "call " ++ decimal n ++ codes " refused " ++ decimal k)
error_line FolderFault = error (codes "folder fault")
error_line (Halted event) = []
error_line (Pending deadline) = error (codes "pending until " ++ decimal deadline)
error_line NoCheckpoint = error (codes "no checkpoint")
error_line (Unfinished since deadline) = error (codes "unfinished change, " ++ times since deadline)
error_line (Expired since deadline) = error (codes "expired change, " ++ times since deadline)
error_line Exists = error (codes "state exists")
error_line NoSuchName = error (codes "no such file")
error_line ReadFault = error (codes "input not read")
error_line (WriteFault status) = []
error_line (HostFault side) = error (codes "host fault, " ++ left_words side)
error_line InDoubt = error (codes "end of the checkpoint in doubt")
error_line (KernelRefused k n side) = error (codes "kernel refused " ++ decimal k ++ codes " at call " ++ decimal n ++ codes ", " ++ left_words side)
error_line (NotVerified net side) = error (codes "not verified, " ++ left_words side)
error_line (Damaged area) = error (area_words area)
error_line (HardwareDiffers names) = error (codes "hardware differs: " ++ spaced names)
error_line OutOfMemory = error (codes "out of memory")

-- one line for each key that is read over
abbrev pub note : Path → Text
note path = line (codes "note: " ++ path_text path.steps ++ codes " is read over")

abbrev pub note_lines : List Path → Text
note_lines paths = flat_map note paths

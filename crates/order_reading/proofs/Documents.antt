-- What is made of the bytes of a document or of a hardware list.
use Rattle.std.proofs.Common.{◌≡◌, ◌∙◌, true, false, refl, Result, Ok, Err}
use Rattle.doc_tree.specs.Shape.{Shape, shape}
use Rattle.doc_tree.specs.JsonTree.{json_tree, Gives}
use Rattle.doc_tree.specs.declared.Tree.{Tree}
use Rattle.doc_tree.specs.declared.JsonFault.{JsonFault}
use Rattle.doc_tree.specs.declared.JsonFault.TheVariants as json
use Rattle.yaml_read.specs.Reading.{reading}
use Rattle.yaml_read.specs.Seen.{Answers as YamlAnswers}
use Rattle.yaml_read.specs.declared.YamlFault.{YamlFault}
use Rattle.yaml_read.specs.declared.YamlFault.TheVariants as yaml
use Rattle.base_model.specs.declared.Path.{Path}
use Rattle.std.specs.Prelude.{List}
use Rattle.tree_schema.specs.Reading.{Reading}
use Rattle.tree_schema.specs.Faults.{told, Tells}
use Rattle.tree_schema.specs.declared.SchemaFault.{SchemaFault}
use Rattle.tree_schema.specs.declared.SchemaFault.TheVariants as schema
use Rattle.top_model.specs.Orders.{Text, begins_json, with_fault, tree_of, document, document_of_tree, hardware_list, hardware_of_tree}
use Rattle.top_model.specs.declared.DocFault.{DocFault}
use Rattle.top_model.specs.declared.DocFault.TheVariants.{Json, Yaml, Schema}
use Rattle.top_model.specs.declared.Cause.{Cause}
use Rattle.top_model.specs.declared.Cause.TheVariants.{DocRefused, BadLine, BatchLine, BatchLarge, OutOfMemory}
use Rattle.order_reading.specs.Reading.{Answers, itself}
use Rattle.order_reading.specs.Faults.{json_cause, yaml_cause, schema_cause}

-- ---- the tree

refused : {A E : Type 0} (fault : E → DocFault) (r : Result A E) (e : E) → r ≡ Err e → with_fault fault r ≡ Err (DocRefused (fault e))
refused fault r e is = rw is refl

read : {A E : Type 0} (fault : E → DocFault) (r : Result A E) (x : A) → r ≡ Ok x → with_fault fault r ≡ Ok x
read fault r x is = rw is refl

pub json_read : (bytes : Text) (tree : Tree) → json_tree bytes ≡ Ok (shape tree) → with_fault Json (json_tree bytes) ≡ Ok (shape tree)
json_read bytes tree is = read Json (json_tree bytes) (shape tree) is

pub json_refused : (bytes : Text) (fault : JsonFault) → Gives (json_tree bytes) (Err fault) → Answers shape (with_fault Json (json_tree bytes)) (Err (json_cause fault))
json_refused bytes json.OutOfMemory is = tt
json_refused bytes json.TooLarge is = refused Json (json_tree bytes) json.TooLarge is
json_refused bytes json.NotJson is = refused Json (json_tree bytes) json.NotJson is
json_refused bytes json.TooDeep is = refused Json (json_tree bytes) json.TooDeep is
json_refused bytes (json.NotWhole path) is = refused Json (json_tree bytes) (json.NotWhole path) is

pub yaml_read : (bytes : Text) (tree : Tree) → reading bytes ≡ Ok (shape tree) → with_fault Yaml (reading bytes) ≡ Ok (shape tree)
yaml_read bytes tree is = read Yaml (reading bytes) (shape tree) is

pub yaml_refused : (bytes : Text) (fault : YamlFault) → YamlAnswers shape (Err fault) (reading bytes) → Answers shape (with_fault Yaml (reading bytes)) (Err (yaml_cause fault))
yaml_refused bytes yaml.OutOfMemory is = tt
yaml_refused bytes yaml.TooLarge is = refused Yaml (reading bytes) yaml.TooLarge is
yaml_refused bytes (yaml.NotUtf8 n) is = refused Yaml (reading bytes) (yaml.NotUtf8 n) is
yaml_refused bytes (yaml.Unsupported n) is = refused Yaml (reading bytes) (yaml.Unsupported n) is
yaml_refused bytes (yaml.Malformed n) is = refused Yaml (reading bytes) (yaml.Malformed n) is
yaml_refused bytes (yaml.DuplicateKey n) is = refused Yaml (reading bytes) (yaml.DuplicateKey n) is
yaml_refused bytes (yaml.TooDeep n) is = refused Yaml (reading bytes) (yaml.TooDeep n) is

pub by_json : (bytes : Text) → begins_json bytes ≡ true → tree_of bytes ≡ with_fault Json (json_tree bytes)
unfolding tree_of
by_json bytes begins = rw begins refl

pub by_yaml : (bytes : Text) → begins_json bytes ≡ false → tree_of bytes ≡ with_fault Yaml (reading bytes)
unfolding tree_of
by_yaml bytes begins = rw begins refl

-- ---- the document, or the hardware list

pub document_of : (bytes : Text) (tree : Shape) → tree_of bytes ≡ Ok tree → document bytes ≡ with_fault Schema (document_of_tree tree)
unfolding document
document_of bytes tree is = rw is refl

document_refused : (bytes : Text) (cause : Cause) → tree_of bytes ≡ Err cause → document bytes ≡ Err cause
unfolding document
document_refused bytes cause is = rw is refl

pub hardware_of : (bytes : Text) (tree : Shape) → tree_of bytes ≡ Ok tree → hardware_list bytes ≡ with_fault Schema (hardware_of_tree tree)
unfolding hardware_list
hardware_of bytes tree is = rw is refl

hardware_refused : (bytes : Text) (cause : Cause) → tree_of bytes ≡ Err cause → hardware_list bytes ≡ Err cause
unfolding hardware_list
hardware_refused bytes cause is = rw is refl

-- a tree that isn't there
pub no_document : (bytes : Text) (cause : Cause) → Answers shape (tree_of bytes) (Err cause) → Answers itself (document bytes) (Err cause)
no_document bytes (DocRefused fault) is = document_refused bytes (DocRefused fault) is
no_document bytes (BadLine n) is = document_refused bytes (BadLine n) is
no_document bytes (BatchLine n) is = document_refused bytes (BatchLine n) is
no_document bytes BatchLarge is = document_refused bytes BatchLarge is
no_document bytes OutOfMemory is = tt
no_document bytes _ is = absurd is

pub no_hardware : (bytes : Text) (cause : Cause) → Answers shape (tree_of bytes) (Err cause) → Answers itself (hardware_list bytes) (Err cause)
no_hardware bytes (DocRefused fault) is = hardware_refused bytes (DocRefused fault) is
no_hardware bytes (BadLine n) is = hardware_refused bytes (BadLine n) is
no_hardware bytes (BatchLine n) is = hardware_refused bytes (BatchLine n) is
no_hardware bytes BatchLarge is = hardware_refused bytes BatchLarge is
no_hardware bytes OutOfMemory is = tt
no_hardware bytes _ is = absurd is

-- what a tree says, and why it is refused
pub said : {X Y : Type 0} (make : X → List Path → Y) (r : Reading X) (y : Y) (defined : Result Y Cause) → defined ≡ with_fault Schema (told make r) → told make r ≡ Ok y → defined ≡ Ok y
said make r y defined is told_is = is ∙ read Schema (told make r) y told_is

pub unsaid : {X Y : Type 0} (make : X → List Path → Y) (r : Reading X) (defined : Result Y Cause) (fault : SchemaFault) → defined ≡ with_fault Schema (told make r) → Tells make r (Err fault)
    → Answers itself defined (Err (schema_cause fault))
unsaid make r defined schema.OutOfMemory is told_is = tt
unsaid make r defined (schema.UnknownKey path) is told_is = is ∙ refused Schema (told make r) (schema.UnknownKey path) told_is
unsaid make r defined (schema.WrongType path) is told_is = is ∙ refused Schema (told make r) (schema.WrongType path) told_is
unsaid make r defined (schema.OutOfRange path) is told_is = is ∙ refused Schema (told make r) (schema.OutOfRange path) told_is
unsaid make r defined (schema.Missing path) is told_is = is ∙ refused Schema (told make r) (schema.Missing path) told_is
unsaid make r defined (schema.Unsupported path) is told_is = is ∙ refused Schema (told make r) (schema.Unsupported path) told_is

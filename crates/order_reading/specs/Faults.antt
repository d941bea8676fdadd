-- Why the bytes of an input or a policy are refused, and out of memory apart.
use Rattle.doc_tree.specs.declared.JsonFault.{JsonFault}
use Rattle.doc_tree.specs.declared.JsonFault.TheVariants as json
use Rattle.yaml_read.specs.declared.YamlFault.{YamlFault}
use Rattle.yaml_read.specs.declared.YamlFault.TheVariants as yaml
use Rattle.tree_schema.specs.declared.SchemaFault.{SchemaFault}
use Rattle.tree_schema.specs.declared.SchemaFault.TheVariants as schema
use Rattle.policy_model.specs.declared.PolicyFault.{PolicyFault}
use Rattle.policy_model.specs.declared.PolicyFault.TheVariants as policy
use Rattle.top_model.specs.declared.DocFault.TheVariants.{Json, Yaml, Schema, Policy}
use Rattle.top_model.specs.declared.Cause.{Cause}
use Rattle.top_model.specs.declared.Cause.TheVariants.{DocRefused, OutOfMemory}

abbrev pub json_cause : JsonFault → Cause
json_cause json.OutOfMemory = OutOfMemory
json_cause fault = DocRefused (Json fault)

abbrev pub yaml_cause : YamlFault → Cause
yaml_cause yaml.OutOfMemory = OutOfMemory
yaml_cause fault = DocRefused (Yaml fault)

abbrev pub schema_cause : SchemaFault → Cause
schema_cause schema.OutOfMemory = OutOfMemory
schema_cause fault = DocRefused (Schema fault)

abbrev pub policy_cause : PolicyFault → Cause
policy_cause policy.OutOfMemory = OutOfMemory
policy_cause fault = DocRefused (Policy fault)

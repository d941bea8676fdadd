use Rattle.std.proofs.Common.{◌∙◌, sym}
use Rattle.order_reading.proofs.Documents.{by_json, by_yaml}
use Rattle.order_reading.proofs.document.tree_of.Goals as goal

pub returns-then-begins_json-clause-read : goal.returns-then-begins_json-clause-read
returns-then-begins_json-clause-read c = rw (by_json c.args.bytes.now (sym c.begins_json.ensures ∙ c.if-begins_json.true)) c.json_tree.ensures.read

pub returns-else-begins_json-clause-read : goal.returns-else-begins_json-clause-read
returns-else-begins_json-clause-read c = rw (by_yaml c.args.bytes.now (sym c.begins_json.ensures ∙ c.if-begins_json.false)) c.yaml_tree.ensures.read

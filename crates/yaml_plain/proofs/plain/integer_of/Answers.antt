use Rattle.std.proofs.Common.{sym}
use Rattle.yaml_plain.proofs.lemmas.Numbers.{no_number}
use Rattle.yaml_plain.proofs.plain.integer_of.Goals as goal

pub returns-else-is_whole : goal.returns-else-is_whole
returns-else-is_whole c = sym (no_number c.args.text.now (cc))

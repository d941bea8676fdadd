use Rattle.std.proofs.Common.{sym}
use Rattle.yaml_plain.proofs.lemmas.Numbers.{no_number}
use Rattle.yaml_plain.proofs.plain.integer.Goals as goal

pub returns-then-not-is_whole : goal.returns-then-not-is_whole
returns-then-not-is_whole c = sym (no_number c.args.bytes.now (cc))

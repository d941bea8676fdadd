use Rattle.std.proofs.Common.{sym}
use Rattle.yaml_text.proofs.PlainLaws.{last_is_colon}
use Rattle.yaml_text.proofs.plain.ends_with_colon.Goals as goal

pub returns-in-len1-up : goal.returns-in-len1-up
returns-in-len1-up c = sym (last_is_colon c.args.text.now)

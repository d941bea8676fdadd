use Rattle.std.proofs.Common.{◌∙◌}
use Rattle.yaml_plain.proofs.lemmas.Numbers.{number_is}
use Rattle.yaml_plain.proofs.plain.number.Goals as goal

pub returns : goal.returns
returns c = c.ok.ensures.value ∙ number_is c.args.text.now c.requires c.parse.result c.parse.ensures.value.0

use Rattle.std.proofs.Common.{◌∙◌, ap}
use Rattle.yaml_read.specs.declared.stop.Repeats.TheVariants.{Refused}
use Rattle.yaml_read.specs.Faults.{entry_by_itself}
use Rattle.yaml_read.specs.Brackets.{is_repeat_stop}
use Rattle.yaml_read.proofs.BracketLaws.{repeat_is}
use Rattle.yaml_read.proofs.faults.is_repeat.Goals as goal

pub returns : goal.returns
returns c = c.is_repeat_stop.ensures ∙ (ap is_repeat_stop c.in_ok-stop.ensures ∙ repeat_is (entry_by_itself Refused c.args.text.now))

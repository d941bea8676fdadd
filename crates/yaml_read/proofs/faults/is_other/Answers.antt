use Rattle.std.proofs.Common.{◌∙◌, ap}
use Rattle.yaml_read.specs.declared.stop.Repeats.TheVariants.{Taken}
use Rattle.yaml_read.specs.Faults.{entry_by_itself}
use Rattle.yaml_read.specs.Brackets.{is_other_stop}
use Rattle.yaml_read.proofs.BracketLaws.{other_is}
use Rattle.yaml_read.proofs.faults.is_other.Goals as goal

pub returns : goal.returns
returns c = c.is_other_stop.ensures ∙ (ap is_other_stop c.in_ok-stop.ensures ∙ other_is (entry_by_itself Taken c.args.text.now))

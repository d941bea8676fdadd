use Rattle.yaml_text.proofs.TextStands.{filled_stands}
use Rattle.yaml_text.proofs.ScalarReads.{printed_key, printed_text}
use Rattle.yaml_text.proofs.NumberReads.{integer_shown}
use Rattle.yaml_text.proofs.laws.printing_laws.Goals as goal

pub returns-clause-texts : goal.returns-clause-texts
returns-clause-texts c = λ s. (printed_text s).0

pub returns-clause-keys : goal.returns-clause-keys
returns-clause-keys c = λ k g gap. printed_key k g gap

pub returns-clause-integers : goal.returns-clause-integers
returns-clause-integers c = λ z fits. (integer_shown z fits).reads

pub returns-clause-maps : goal.returns-clause-maps
returns-clause-maps c = λ t filled distinct fit le. filled_stands t filled distinct fit le

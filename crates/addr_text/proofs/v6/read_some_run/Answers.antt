use Rattle.std.proofs.Common.{sym, ◌∙◌}
use Rattle.addr_text.proofs.Steps.{some-run}
use Rattle.addr_text.proofs.v6.read_some_run.Goals as goal

pub returns-else-is_empty-clause-value : goal.returns-else-is_empty-clause-value
returns-else-is_empty-clause-value c = c.read_run.ensures.value ∙ sym (some-run c.args.last c.args.text.now (sym c.is_empty.ensures ∙ c.if-is_empty.false))

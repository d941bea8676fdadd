use Rattle.std.proofs.Common.{◌∙◌}
use Rattle.command_words.proofs.FoundLemmas.{escape_among}
use Rattle.command_words.proofs.words.has_escape.Goals as goal

pub returns : goal.returns
returns c = c.any_escape.ensures ∙ escape_among c.args.words.now

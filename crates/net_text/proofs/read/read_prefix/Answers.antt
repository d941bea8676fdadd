use Rattle.std.proofs.Common.{sym, ◌∙◌}
use Rattle.net_text.proofs.lemmas.Addresses.{prefix_sound, prefix_complete}
use Rattle.net_text.proofs.read.read_prefix.Goals as goal

pub returns-clause-exact : goal.returns-clause-exact
returns-clause-exact c = λ x. (λ h. prefix_sound c.args.text.now x (sym c.prefix_of.ensures ∙ h), λ h. c.prefix_of.ensures ∙ prefix_complete c.args.text.now x h)

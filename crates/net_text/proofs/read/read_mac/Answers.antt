use Rattle.std.proofs.Common.{sym, ◌∙◌}
use Rattle.net_text.proofs.lemmas.Addresses.{hardware_sound, hardware_complete}
use Rattle.net_text.proofs.read.read_mac.Goals as goal

pub returns-clause-exact : goal.returns-clause-exact
returns-clause-exact c = λ x. (λ h. hardware_sound c.args.text.now x (sym c.hardware_of.ensures ∙ h), λ h. c.hardware_of.ensures ∙ hardware_complete c.args.text.now x h)

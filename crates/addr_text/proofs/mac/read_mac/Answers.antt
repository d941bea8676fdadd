use Rattle.std.proofs.Common.{sym, ◌∙◌}
use Rattle.addr_text.proofs.lemmas.MacLaws.{mac_sound, mac_complete}
use Rattle.addr_text.proofs.mac.read_mac.Goals as goal

pub returns-clause-exact : goal.returns-clause-exact
returns-clause-exact c = λ bytes. (λ h. mac_sound c.args.text.now bytes (sym c.read_text.ensures ∙ h), λ h. c.read_text.ensures ∙ mac_complete c.args.text.now bytes h)

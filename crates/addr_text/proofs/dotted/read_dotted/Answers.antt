use Rattle.std.proofs.Common.{sym, ◌∙◌}
use Rattle.addr_text.proofs.lemmas.Octets.{dotted_sound, dotted_complete}
use Rattle.addr_text.proofs.dotted.read_dotted.Goals as goal

pub returns-clause-exact : goal.returns-clause-exact
returns-clause-exact c = λ bits. (λ h. dotted_sound c.args.text.now bits (sym c.read_octets.ensures.value ∙ h), λ h. c.read_octets.ensures.value ∙ dotted_complete c.args.text.now bits h)

use Rattle.std.proofs.Common.{sym, ◌∙◌}
use Rattle.addr_text.proofs.lemmas.Exact.{v6_sound, v6_complete}
use Rattle.addr_text.proofs.v6.read_v6.Goals as goal

pub returns-clause-exact : goal.returns-clause-exact
returns-clause-exact c = λ bits. (λ h. v6_sound c.args.text.now bits (sym c.read_text.ensures ∙ h), λ h. c.read_text.ensures ∙ v6_complete c.args.text.now bits h)

use Rattle.std.proofs.Common.{sym, ◌∙◌}
use Rattle.net_text.proofs.lemmas.Addresses.{addr_sound, addr_complete}
use Rattle.net_text.proofs.read.read_addr.Goals as goal

pub returns-clause-exact : goal.returns-clause-exact
returns-clause-exact c = λ x. (λ h. addr_sound c.args.text.now x (sym c.addr_of.ensures ∙ h), λ h. c.addr_of.ensures ∙ addr_complete c.args.text.now x h)

use Rattle.std.proofs.Common.{sym, ◌∙◌}
use Rattle.net_model.proofs.lemmas.Vlans.{other_more}
use Rattle.net_lists.proofs.twins.is_first_vlan.Goals as goal

pub returns-in-None-clause-seen : goal.returns-in-None-clause-seen
returns-in-None-clause-seen c = λ links h. other_more links c.args.link.now c.args.seen.now (sym c.key_of.ensures ∙ c.in-None.is) h

use Rattle.std.proofs.Common.{sym, ◌∙◌}
use Rattle.net_model.proofs.lemmas.VlanKeys.{one_lost, none_lost}
use Rattle.net_lists.proofs.twins.leave_out_seen.Goals as goal

pub returns-in-Some : goal.returns-in-Some
returns-in-Some c = one_lost c.args.link.now.kind c.in-Some.key c.args.seen.now c.remove.new.self (sym c.key_of.ensures ∙ c.in-Some.is) c.remove.ensures.updates

pub returns-in-None : goal.returns-in-None
returns-in-None c = none_lost c.args.link.now.kind c.args.seen.now (sym c.key_of.ensures ∙ c.in-None.is)

use Rattle.std.proofs.Common.{sym, ◌∙◌}
use Rattle.net_model.proofs.lemmas.Ports.{among_ports}
use Rattle.link_rules.proofs.bonds.is_among_ports.Goals as goal

pub returns : goal.returns
returns c = c.has_port.ensures ∙ sym (among_ports c.args.merged.now c.args.controller.now c.args.port.now)

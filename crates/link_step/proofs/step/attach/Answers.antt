use Rattle.std.proofs.Common.{◌&&◌}
use Rattle.net_model.specs.Lists.{NetData}
use Rattle.net_model.proofs.lemmas.Truth.{and_left}
use Rattle.kernel_model.specs.Words.{has_link}
use Rattle.kernel_model.specs.Ports.{attach_refusals}
use Rattle.kernel_laws.proofs.lemmas.Accepting.{none_holds, not_false_true}
use Rattle.link_step.proofs.step.attach.Goals as goal

pub attach-requires-clause-there : goal.attach-requires-clause-there
attach-requires-clause-there c =
    let net : NetData = c.args.parts.now in
    and_left (has_link c.args.port.now net.links) (has_link c.args.controller.now net.links)
    (not_false_true (has_link c.args.port.now net.links && has_link c.args.controller.now net.links) (none_holds (attach_refusals c.args.port.now c.args.controller.now net) c.requires.accepted).0)

pub attach-requires-clause-free : goal.attach-requires-clause-free
attach-requires-clause-free c = (none_holds (attach_refusals c.args.port.now c.args.controller.now c.args.parts.now) c.requires.accepted).1.1.0

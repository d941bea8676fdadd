use Rattle.kernel_laws.proofs.lemmas.Carried.{carried_net}
use Rattle.kernel_step.proofs.stepping.carry_out.Goals as goal

pub from_parts-requires : goal.from_parts-requires
from_parts-requires c =
    carried_net c.edit-done.result c.args.call.now c.args.net.now c.edit-done.new.parts c.take-parts.ensures.net c.requires.accepted
    (rw c.take-parts.ensures.parts at c.edit-done.ensures.ok) (rw c.take-parts.ensures.parts at c.edit-done.ensures.err)

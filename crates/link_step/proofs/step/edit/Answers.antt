use Rattle.std.proofs.Common.{◌≡◌, None, subst}
use Rattle.net_model.specs.declared.Call.{Call}
use Rattle.kernel_model.specs.Outcome.{first_true}
use Rattle.kernel_model.specs.Kernel.{refusals}
use Rattle.link_step.proofs.step.edit.Goals as goal

pub attach-requires-clause-accepted : goal.attach-requires-clause-accepted
attach-requires-clause-accepted c = subst (λ (call : Call). first_true (refusals call c.args.parts.now) ≡ None) c.in-Attach.is c.requires.accepted

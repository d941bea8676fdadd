use Rattle.std.proofs.Common.{◌≡◌, None, subst}
use Rattle.net_model.specs.declared.Call.{Call}
use Rattle.kernel_model.specs.Outcome.{first_true}
use Rattle.kernel_model.specs.Kernel.{refusals}
use Rattle.kernel_step.proofs.Accepted.{new_address}
use Rattle.kernel_step.proofs.stepping.edit.Goals as goal

pub add_address-requires-clause-new : goal.add_address-requires-clause-new
add_address-requires-clause-new c =
    new_address c.in-AddAddress.name c.in-AddAddress.addr c.args.parts.now (subst (λ (call : Call). first_true (refusals call c.args.parts.now) ≡ None) c.in-AddAddress.is c.requires.accepted)

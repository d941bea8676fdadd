use Rattle.std.proofs.Common.{◌≡◌, sym, subst}
use Rattle.std.specs.Prelude.{IfOk}
use Rattle.net_model.specs.declared.Call.{Call}
use Rattle.kernel_model.specs.Outcome.{first_true}
use Rattle.kernel_model.specs.Kernel.{refusals}
use Rattle.link_step.proofs.step.refusal.Goals as goal

pub returns-in-Attach : goal.returns-in-Attach
returns-in-Attach c = subst (λ (call : Call). IfOk c.attach.result (λ number. number ≡ first_true (refusals call c.args.net.now))) (sym c.in-Attach.is) c.attach.ensures

use Rattle.std.proofs.Common.{refl}
use Rattle.case_outside.proofs.refusing.RefusingHostHost.call.Goals as goal

pub returns-in-Some-clause-counted : goal.returns-in-Some-clause-counted
returns-in-Some-clause-counted c = λ other. absurd (other c.in-Some.refusal.now.number refl)

use Rattle.std.proofs.Common.{append_assoc}
use Rattle.std.proofs.lemmas.Result.{IfOk-equal}
use Rattle.net_text.proofs.options.push_timers.Goals as goal

pub returns : goal.returns
returns c = IfOk-equal _ _ _ _ c.push_number-4.ensures (rw (c.in_ok-push_number-3.ensures, c.in_ok-push_number-2.ensures, c.in_ok-push_number.ensures) (simp append_assoc))

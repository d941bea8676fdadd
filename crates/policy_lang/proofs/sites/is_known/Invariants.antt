use Rattle.std.proofs.Common.{◌≡◌, drop}
use Rattle.policy_model.specs.Policies.{is_known}
use Rattle.policy_lang.proofs.sites.is_known.Given as goal

-- none before
abbrev pub invariant-loop-capture : goal.invariant-loop-capture
invariant-loop-capture l = is_known (drop l.capture-index l.captures) l.name ≡ is_known l.captures l.name

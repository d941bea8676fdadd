use Rattle.std.proofs.Common.{◌≡◌, drop, find}
use Rattle.policy_model.specs.Policies.{is_unread}
use Rattle.policy_lang.proofs.sites.first_unread.Given as goal

-- none before
abbrev pub invariant-loop-site : goal.invariant-loop-site
invariant-loop-site l = find is_unread (drop l.site-index l.sites) ≡ find is_unread l.sites

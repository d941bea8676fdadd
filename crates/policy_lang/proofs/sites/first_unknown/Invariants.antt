use Rattle.std.proofs.Common.{◌≡◌, drop, find}
use Rattle.policy_model.specs.Policies.{names_unknown}
use Rattle.policy_lang.proofs.sites.first_unknown.Given as goal

-- none before
abbrev pub invariant-loop-site : goal.invariant-loop-site
invariant-loop-site l = find (names_unknown l.captures) (drop l.site-index l.sites) ≡ find (names_unknown l.captures) l.sites

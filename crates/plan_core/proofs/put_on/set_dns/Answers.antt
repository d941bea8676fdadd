use Rattle.std.proofs.Common.{rules, ◌≡◌}
use Rattle.plan_core.proofs.Dropping.{dns_safe}
use Rattle.plan_core.proofs.put_on.set_dns.Goals as goal

pub add-requires : goal.add-requires
add-requires c =
    let same : c.in_ok-dns.dns ≡ c.args.draft.now.target.dns = search rules in
    dns_safe c.args.draft.now c.laws.ensures c.in_ok-dns.dns same

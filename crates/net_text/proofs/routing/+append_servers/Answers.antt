use Rattle.std.proofs.lemmas.Result.{IfOk-equal}
use Rattle.net_text.specs.AddrText.{addr_text}
use Rattle.net_text.proofs.Joined.{joined_first}
use Rattle.net_text.proofs.routing.+append_servers.Goals as goal

pub returns-in_ok-push-in-len1-up : goal.returns-in_ok-push-in-len1-up
returns-in_ok-push-in-len1-up t c =
    IfOk-equal _ _ _ _ c.append_servers.ensures
    (rw (c.in_ok-push-in-len1-up.ensures.items, c.in_ok-push_addr-in-len1-up.ensures.appends) (joined_first addr_text 44 c.args.servers.now c.first-item.result c.args.line.now.items c.in-len1-up.len_at_least c.first-item.is))

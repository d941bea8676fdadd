use Rattle.std.proofs.Common.{◌≡◌, rules, not, length}
use Rattle.net_lists.proofs.lemmas.Counting.{gone_within, gone_counted}
use Rattle.net_edits.proofs.address_edits.take_down.Goals as goal

pub overflow_sub-result : goal.overflow_sub-result
overflow_sub-result c =
    let before : c.len-count.result ≡ length c.args.link.now.addrs = search rules in
    let after : c.len.result ≡ length c.leave_out_v6.new.addrs = search rules in
    gone_within (λ b. not b.addr.v6) c.args.link.now.addrs c.leave_out_v6.new.addrs _ _ c.leave_out_v6.ensures before after

pub returns-clause-gone : goal.returns-clause-gone
returns-clause-gone c =
    let before : c.len-count.result ≡ length c.args.link.now.addrs = search rules in
    let after : c.len.result ≡ length c.leave_out_v6.new.addrs = search rules in
    gone_counted (λ b. not b.addr.v6) c.args.link.now.addrs c.leave_out_v6.new.addrs _ _ c.leave_out_v6.ensures before after

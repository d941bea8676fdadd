use Rattle.std.specs.BTreeSet.{contains}
use Rattle.net_model.specs.Order.{name_cmp}
use Rattle.link_members.proofs.Contested.{put_in}
use Rattle.link_members.proofs.listers.contest.Goals as goal

pub returns-in_ok-insert : goal.returns-in_ok-insert
returns-in_ok-insert c = λ q.
    put_in c.args.name q (contains name_cmp c.args.contested.now q) (contains name_cmp c.insert.new.self q) c.args.rival c.if-rival.true (c.in_ok-insert.ensures.updates.0 q)

use Rattle.std.specs.BTreeSet.{contains}
use Rattle.net_model.specs.Order.{name_cmp}
use Rattle.link_planner.proofs.Noted.{one_put}
use Rattle.link_planner.proofs.deletions.put.Goals as goal

pub returns : goal.returns
returns c = λ n. one_put c.args.name n (contains name_cmp c.args.names.now n) (contains name_cmp c.insert.new.self n) (c.in_ok-insert.ensures.updates.0 n)

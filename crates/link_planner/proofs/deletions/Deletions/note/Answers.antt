use Rattle.std.proofs.Common.{false}
use Rattle.std.specs.Option.{option_map_or}
use Rattle.std.specs.BTreeSet.{contains}
use Rattle.net_model.specs.Name.{same_bytes}
use Rattle.net_model.specs.Order.{name_cmp}
use Rattle.link_planner.proofs.Noted.{both_put}
use Rattle.link_planner.proofs.deletions.Deletions.note.Goals as goal

pub returns : goal.returns
returns c = record {
  names = λ n.
      both_put (contains name_cmp c.args.self.now.names n) (contains name_cmp c.put.new.names n) (contains name_cmp c.put_some.new.names n)
      (same_bytes c.args.name.now n) (option_map_or (λ p. same_bytes p n) c.args.peer false)
      (c.in_ok-put.ensures n) (c.in_ok-put_some.ensures n);
  calls = c.in_ok-push.ensures.items;
}

use Rattle.std.proofs.Common.{true, cond, sym, ap, ◌∙◌}
use Rattle.std.specs.List.{list_any}
use Rattle.std.specs.BTreeSet.{contains}
use Rattle.std.specs.Ordering.{is_eq}
use Rattle.net_model.specs.Name.{same_bytes}
use Rattle.net_model.specs.Order.{name_cmp}
use Rattle.link_order.proofs.Ends.{one_more_end}
use Rattle.link_order.proofs.implied.push_new.Goals as goal

pub returns-clause-names : goal.returns-clause-names
returns-clause-names c = λ q.
    one_more_end q c.args.members.now.items c.args.member (contains name_cmp c.args.names.now q) (contains name_cmp c.insert.new.self q) (c.requires q)
    (c.in_ok-insert.ensures.updates.0 q ∙ ap (λ n. cond (is_eq (name_cmp n q)) true (contains name_cmp c.args.names.now q)) c.name-2.ensures)
    ∙ ap (list_any (λ m. same_bytes m.name q)) (sym c.in_ok-push.ensures.items)

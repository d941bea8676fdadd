use Rattle.std.proofs.Common.{ap, sym, ◌∙◌}
use Rattle.std.specs.List.{list_any}
use Rattle.std.specs.BTreeSet.{contains}
use Rattle.net_model.specs.Links.{is_named}
use Rattle.net_model.specs.Order.{name_cmp}
use Rattle.link_schema.proofs.Names.{one_more_name}
use Rattle.link_schema.proofs.named.Named.with.Goals as goal

pub invariant_of-result : goal.invariant_of-result
invariant_of-result c = λ q.
    one_more_name q c.self.inside.links.items c.args.link (contains name_cmp c.self.inside.names q) (contains name_cmp c.insert.new.self q) (c.self.invariant q) (c.in_ok-insert.ensures.updates.0 q)
    ∙ ap (list_any (is_named q)) (sym c.in_ok-push.ensures.items)

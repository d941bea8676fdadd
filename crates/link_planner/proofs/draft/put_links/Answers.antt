use Rattle.std.proofs.Common.{◌≡◌, ◌∙◌, ◌++◌, List, [], rules, sym, ap, subst}
use Rattle.net_model.specs.NetData.{IsNet}
use Rattle.net_model.specs.declared.link.Link.{Link}
use Rattle.link_planner.specs.Drafts.{with_links}
use Rattle.link_planner.proofs.Joining.{differ_from, with_none}
use Rattle.link_planner.proofs.Lists.{none_long}
use Rattle.link_planner.proofs.draft.put_links.Goals as goal

pub returns-then-is_empty-clause-ok : goal.returns-then-is_empty-clause-ok
returns-then-is_empty-clause-ok c =
    let none : c.args.more.now.items ≡ [] = none_long c.args.more.now.items (search rules) in
    sym (ap (λ (ls : List Link). with_links ls c.args.net.now) none ∙ with_none c.args.net.now c.laws.ensures.net)

pub parts_with-requires : goal.parts_with-requires
parts_with-requires c = differ_from (c.args.net.now.links ++ c.args.more.now.items) c.requires.in_order.links

pub from_parts-requires : goal.from_parts-requires
from_parts-requires c = subst IsNet (sym c.in_ok-parts.ensures) c.requires

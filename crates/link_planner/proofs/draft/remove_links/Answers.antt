use Rattle.std.proofs.Common.{◌≡◌, ◌∙◌, ℕ, List, [], sym, ap, subst}
use Rattle.std.specs.List.{list_all}
use Rattle.net_model.specs.Words.{rises, is_among}
use Rattle.net_model.specs.Order.{link_cmp}
use Rattle.net_model.specs.Valid.{vlans_differ}
use Rattle.net_model.specs.Edits.{has_primary_port, without}
use Rattle.net_model.specs.NetData.{NetData, IsNet}
use Rattle.link_planner.proofs.Lists.{none_long}
use Rattle.link_planner.proofs.Taking.{twins, primaries}
use Rattle.link_planner.proofs.Without.{without_none}
use Rattle.link_planner.proofs.draft.remove_links.Goals as goal

pub returns-then-is_empty : goal.returns-then-is_empty
returns-then-is_empty c =
    let none : c.args.goes.now ≡ [] = none_long c.args.goes.now (sym c.is_empty.ensures ∙ c.if-is_empty.true) in
    sym (ap (λ (ns : List (List ℕ)). without (is_among ns) c.args.net.now) none ∙ without_none c.args.net.now)

pub remove_links-requires-clause-in_order : goal.remove_links-requires-clause-in_order
remove_links-requires-clause-in_order c = ap (λ (n : NetData). rises link_cmp n.links) c.take-parts.ensures.parts ∙ c.take-parts.ensures.net.in_order.links

pub remove_links-requires-clause-twins : goal.remove_links-requires-clause-twins
remove_links-requires-clause-twins c = ap (λ (n : NetData). vlans_differ n.links) c.take-parts.ensures.parts ∙ twins c.args.net.now c.take-parts.ensures.net

pub remove_links-requires-clause-primaries : goal.remove_links-requires-clause-primaries
remove_links-requires-clause-primaries c = ap (λ (n : NetData). list_all (has_primary_port n.links) n.links) c.take-parts.ensures.parts ∙ primaries c.args.net.now c.take-parts.ensures.net

pub from_parts-requires : goal.from_parts-requires
from_parts-requires c = subst IsNet (sym (c.remove_links.ensures ∙ ap (without (is_among c.args.goes.now)) c.take-parts.ensures.parts)) c.requires.left

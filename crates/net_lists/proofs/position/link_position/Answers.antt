use Rattle.std.proofs.Common.{rules, arith}
use Rattle.std.proofs.lemmas.Cmp.{nat_list_cmp_total}
use Rattle.std.proofs.lemmas.List.Sorted.{answers_always, searchable_from_sorted}
use Rattle.net_model.specs.Order.{link_cmp}
use Rattle.net_model.specs.declared.link.Link.{Link}
use Rattle.net_model.proofs.lemmas.Rises.{sorted-rises}
use Rattle.net_model.proofs.lemmas.Orders.{link_cmp_total}
use Rattle.net_model.proofs.lemmas.Places.{link_stands, link_gap}
use Rattle.net_lists.proofs.position.link_position.Goals as goal

pub returns-in-Ok : goal.returns-in-Ok
returns-in-Ok c =
    let at = c.in-Ok.ensures.position (λ (l : Link). l.name) (answers_always _ _ _ (λ f a r g k. search rules)) in
    link_stands c.args.name.now c.args.links.now c.in-Ok.i c.requires (omega (arith, c.in-Ok.ensures.bound)) at

pub returns-in-Err : goal.returns-in-Err
returns-in-Err c =
    let at = c.in-Err.ensures.position (λ (l : Link). l.name) (answers_always _ _ _ (λ f a r g k. search rules)) in
    link_gap c.args.name.now c.args.links.now c.in-Err.i c.in-Err.ensures.bound (at (searchable_from_sorted nat_list_cmp_total (λ (l : Link). l.name) c.args.links.now c.args.name.now (sorted-rises link_cmp link_cmp_total c.args.links.now c.requires)))

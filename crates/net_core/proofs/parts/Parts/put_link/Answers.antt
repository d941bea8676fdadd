use Rattle.std.proofs.Common.{◌≡◌, ◌∙◌, List, true, None, ap, sym, subst}
use Rattle.std.specs.List.{list_any}
use Rattle.std.specs.Ordering.{is_eq}
use Rattle.net_model.specs.Words.{rises, put}
use Rattle.net_model.specs.Order.{name_cmp, link_cmp}
use Rattle.net_model.specs.Links.{find_link}
use Rattle.net_model.specs.Valid.{address_count}
use Rattle.net_model.specs.Lists.{NetData}
use Rattle.net_model.specs.declared.link.Link.{Link}
use Rattle.net_index.specs.Indexed.{AreIndexes}
use Rattle.net_lists.proofs.lemmas.LinkLists.{over_rise}
use Rattle.net_index.proofs.lemmas.LinkIndexes.{new_over, put_link}
use Rattle.net_lists.proofs.lemmas.Counting.{count_put}
use Rattle.net_core.proofs.parts.Parts.put_link.Goals as goal

pub add_vlan-requires-clause-in_order : goal.add_vlan-requires-clause-in_order
add_vlan-requires-clause-in_order c = λ k.
    let up : rises link_cmp c.self.inside.links.items ≡ true = ap (λ (n : NetData). rises link_cmp n.links) c.self.view_is ∙ c.requires.in_order in
    ap (rises name_cmp) (c.self.invariant.lists.over k) ∙ over_rise c.self.inside.links.items k up

pub add_vlan-requires-clause-new : goal.add_vlan-requires-clause-new
add_vlan-requires-clause-new c = λ k.
    let none : find_link c.args.link.name c.self.inside.links.items ≡ None = ap (λ (n : NetData). find_link c.args.link.name n.links) c.self.view_is ∙ c.requires.new in
    ap (list_any (λ n. is_eq (name_cmp n c.args.link.name))) (c.self.invariant.lists.over k) ∙ new_over c.args.link c.self.inside.links.items k none

pub invariant_of-self-2 : goal.invariant_of-self-2
invariant_of-self-2 c =
    let links : List Link = c.self.inside.links.items in
    let up : rises link_cmp links ≡ true = ap (λ (n : NetData). rises link_cmp n.links) c.self.view_is ∙ c.requires.in_order in
    let done : c.insert_link.new.links.items ≡ put link_cmp c.args.link links = c.insert_link.ensures.items ∙ ap (put link_cmp c.args.link) c.reserve.ensures.items in
    record {
      lists = subst (λ (ls : List Link). AreIndexes ls c.self.inside.routes.items (record c.self.inside.indexes { over = c.add_vlan.new.index; vlans = c.add_vlan.new.seen })) (sym done)
          (put_link c.args.link links c.self.inside.routes.items c.self.inside.indexes c.add_vlan.new.index c.add_vlan.new.seen up c.requires.free c.self.invariant.lists c.in_ok-add_vlan.ensures.ok (c.in_ok-add_vlan.ensures.seen links c.self.invariant.lists.vlans));
      count = count_put c.args.link links _ _ c.self.invariant.count c.in_ok-addresses.ensures ∙ ap (λ (ls : List Link). address_count ls) (sym done);
    }

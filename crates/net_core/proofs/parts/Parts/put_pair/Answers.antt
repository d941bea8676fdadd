use Rattle.std.proofs.Common.{◌≡◌, ◌∙◌, List, ap, sym, subst}
use Rattle.net_model.specs.Words.{rises, put}
use Rattle.net_model.specs.Order.{link_cmp}
use Rattle.net_model.specs.Links.{find_link}
use Rattle.net_model.specs.Valid.{address_count}
use Rattle.net_model.specs.Lists.{NetData}
use Rattle.net_model.specs.declared.link.Link.{Link}
use Rattle.net_index.specs.Indexed.{AreIndexes}
use Rattle.net_lists.proofs.lemmas.LinkLists.{rises_new, other_new}
use Rattle.net_index.proofs.lemmas.LinkIndexes.{put_end}
use Rattle.net_lists.proofs.lemmas.Counting.{count_put}
use Rattle.net_core.proofs.parts.Parts.put_pair.Goals as goal

pub insert_link-requires-2-clause-in_order : goal.insert_link-requires-2-clause-in_order
insert_link-requires-2-clause-in_order c =
    let links : List Link = c.self.inside.links.items in
    ap (rises link_cmp) (c.insert_link.ensures.items ∙ ap (put link_cmp c.args.first) c.reserve.ensures.items)
    ∙ rises_new links c.args.first (ap (λ (n : NetData). rises link_cmp n.links) c.self.view_is ∙ c.requires.in_order) (ap (λ (n : NetData). find_link c.args.first.name n.links) c.self.view_is ∙ c.requires.first_new)

pub insert_link-requires-2-clause-new : goal.insert_link-requires-2-clause-new
insert_link-requires-2-clause-new c =
    let links : List Link = c.self.inside.links.items in
    ap (find_link c.args.second.name) (c.insert_link.ensures.items ∙ ap (put link_cmp c.args.first) c.reserve.ensures.items)
    ∙ other_new links c.args.first c.args.second (ap (λ (n : NetData). find_link c.args.second.name n.links) c.self.view_is ∙ c.requires.second_new) c.requires.differ

pub invariant_of-self-2 : goal.invariant_of-self-2
invariant_of-self-2 c =
    let links : List Link = c.self.inside.links.items in
    let done : c.insert_link-2.new.links.items ≡ put link_cmp c.args.second (put link_cmp c.args.first links) =
    c.insert_link-2.ensures.items ∙ ap (put link_cmp c.args.second) (c.insert_link.ensures.items ∙ ap (put link_cmp c.args.first) c.reserve.ensures.items) in
    record {
      lists = subst (λ (ls : List Link). AreIndexes ls c.self.inside.routes.items c.self.inside.indexes) (sym done)
          (put_end c.args.second c.args.first.name (put link_cmp c.args.first links) c.self.inside.routes.items c.self.inside.indexes c.requires.second_end c.requires.second_free
          (put_end c.args.first c.args.second.name links c.self.inside.routes.items c.self.inside.indexes c.requires.first_end c.requires.first_free c.self.invariant.lists));
      count = count_put c.args.second (put link_cmp c.args.first links) _ _ (count_put c.args.first links _ _ c.self.invariant.count c.in_ok-with_first.ensures) c.in_ok-with_both.ensures ∙ ap (λ (ls : List Link). address_count ls) (sym done);
    }

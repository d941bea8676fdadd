use Rattle.std.proofs.Common.{◌≡◌, ◌∙◌, ℕ, List, true, None, ap, sym, subst, refl}
use Rattle.std.specs.Prelude.{is_some}
use Rattle.std.specs.List.{list_any}
use Rattle.std.specs.Ordering.{is_eq}
use Rattle.net_model.specs.Words.{rises}
use Rattle.net_model.specs.Order.{name_cmp, link_cmp}
use Rattle.net_model.specs.Links.{is_port_of, find_link, named_passes}
use Rattle.net_model.specs.Valid.{address_count}
use Rattle.net_model.specs.Lists.{NetData}
use Rattle.net_model.specs.declared.link.Link.{Link}
use Rattle.net_model.specs.Edits.{attached}
use Rattle.net_index.specs.Indexed.{AreIndexes}
use Rattle.net_model.proofs.lemmas.Editing.{name_not_listed}
use Rattle.net_lists.proofs.lemmas.LinkLists.{ports_rise, some_link, found_free, no_port}
use Rattle.net_index.proofs.lemmas.LinkIndexes.{attached_port}
use Rattle.net_lists.proofs.lemmas.Counting.{count_edit}
use Rattle.net_core.proofs.parts.Parts.attach.Goals as goal

pub put_name-requires-clause-in_order : goal.put_name-requires-clause-in_order
put_name-requires-clause-in_order c =
    let up : rises link_cmp c.self.inside.links.items ≡ true = ap (λ (n : NetData). rises link_cmp n.links) c.self.view_is ∙ c.requires.in_order in
    ap (rises name_cmp) (c.self.invariant.lists.ports c.args.controller.now) ∙ ports_rise c.self.inside.links.items c.args.controller.now up

pub put_name-requires-clause-new : goal.put_name-requires-clause-new
put_name-requires-clause-new c =
    let port : List ℕ = c.args.port.now in
    let controller : List ℕ = c.args.controller.now in
    let links : List Link = c.self.inside.links.items in
    let up : rises link_cmp links ≡ true = ap (λ (n : NetData). rises link_cmp n.links) c.self.view_is ∙ c.requires.in_order in
    let own = some_link (find_link port links) (ap (λ (n : NetData). is_some (find_link port n.links)) c.self.view_is ∙ c.requires.there) in
    let free : own.0.controller ≡ None = found_free links port own.0 up own.1 (ap (λ (n : NetData). named_passes (λ p. is_some p.controller) n.links port) c.self.view_is ∙ c.requires.free) in
    ap (list_any (λ n. is_eq (name_cmp n port))) (c.self.invariant.lists.ports controller)
    ∙ name_not_listed port (attached controller) (λ m. refl) (is_port_of controller) own.0 (no_port own.0 controller free) links up own.1

pub invariant_of-self-2 : goal.invariant_of-self-2
invariant_of-self-2 c =
    let port : List ℕ = c.args.port.now in
    let controller : List ℕ = c.args.controller.now in
    let links : List Link = c.self.inside.links.items in
    let up : rises link_cmp links ≡ true = ap (λ (n : NetData). rises link_cmp n.links) c.self.view_is ∙ c.requires.in_order in
    let own = some_link (find_link port links) (ap (λ (n : NetData). is_some (find_link port n.links)) c.self.view_is ∙ c.requires.there) in
    let free : own.0.controller ≡ None = found_free links port own.0 up own.1 (ap (λ (n : NetData). named_passes (λ p. is_some p.controller) n.links port) c.self.view_is ∙ c.requires.free) in
    record {
      lists = subst (λ (ls : List Link). AreIndexes ls c.self.inside.routes.items (record c.self.inside.indexes { ports = c.put_name.new.index })) (sym c.attach_named.ensures)
          (attached_port port controller own.0 links c.self.inside.routes.items c.self.inside.indexes c.put_name.new.index up own.1 free c.self.invariant.lists c.in_ok-put_name.ensures.ok);
      count = c.self.invariant.count ∙ sym (count_edit port (attached controller) (λ l. refl) (λ l. refl) links) ∙ ap (λ (ls : List Link). address_count ls) (sym c.attach_named.ensures);
    }

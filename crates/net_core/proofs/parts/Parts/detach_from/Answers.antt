use Rattle.std.proofs.Common.{◌≡◌, ◌∙◌, ℕ, List, true, refl, ap, sym, subst}
use Rattle.net_model.specs.Words.{rises}
use Rattle.net_model.specs.Order.{name_cmp, link_cmp}
use Rattle.net_model.specs.Valid.{address_count}
use Rattle.net_model.specs.Lists.{NetData}
use Rattle.net_model.specs.declared.link.Link.{Link}
use Rattle.net_model.specs.Edits.{let_go, detached}
use Rattle.net_index.specs.Indexed.{AreIndexes}
use Rattle.net_lists.proofs.lemmas.LinkLists.{ports_rise, changed_keeps}
use Rattle.net_index.proofs.lemmas.LinkIndexes.{detached_port}
use Rattle.net_model.proofs.lemmas.Maps.{count_map}
use Rattle.net_core.proofs.parts.Parts.detach_from.Goals as goal

pub leave_out_port-requires-clause-lists : goal.leave_out_port-requires-clause-lists
leave_out_port-requires-clause-lists c = λ k.
    let up : rises link_cmp c.self.inside.links.items ≡ true = ap (λ (n : NetData). rises link_cmp n.links) c.self.view_is ∙ c.requires.in_order in
    ap (rises name_cmp) (c.self.invariant.lists.ports k) ∙ ports_rise c.self.inside.links.items k up

pub invariant_of-self : goal.invariant_of-self
invariant_of-self c =
    let port : List ℕ = c.args.port.now in
    let links : List Link = c.self.inside.links.items in
    record {
      lists = subst (λ (ls : List Link). AreIndexes ls c.self.inside.routes.items (record c.self.inside.indexes { ports = c.leave_out_port.new.index })) (sym c.detach_from.ensures)
          (detached_port port links c.self.inside.routes.items c.self.inside.indexes c.leave_out_port.new.index c.self.invariant.lists c.leave_out_port.ensures);
      count = c.self.invariant.count
          ∙ sym (count_map (detached port) (changed_keeps (λ (l : Link). l.name) port let_go (λ l. refl)) (changed_keeps (λ (l : Link). l.addrs) port let_go (λ l. refl)) links)
          ∙ ap (λ (ls : List Link). address_count ls) (sym c.detach_from.ensures);
    }

use Rattle.std.proofs.Common.{◌≡◌, ◌∙◌, List, true, not, ◌&&◌, filter, ap, sym, subst}
use Rattle.std.specs.List.{list_any}
use Rattle.std.specs.BTreeSet.{contains}
use Rattle.net_model.specs.Words.{is_among}
use Rattle.net_model.specs.Links.{ports_of}
use Rattle.net_model.specs.Lists.{NetData}
use Rattle.net_model.specs.Twins.{vlan_cmp, has_key}
use Rattle.net_model.specs.Valid.{address_count, vlans_differ}
use Rattle.net_model.specs.declared.link.Link.{Link}
use Rattle.net_model.specs.OfName.{over}
use Rattle.net_index.specs.Indexed.{AreIndexes}
use Rattle.net_index.proofs.lemmas.LinkIndexes.{kept_links}
use Rattle.net_core.proofs.parts.Parts.keep_links.Goals as goal

pub count_without-addresses-requires-clause-count : goal.count_without-addresses-requires-clause-count
count_without-addresses-requires-clause-count c = c.self.invariant.count ∙ ap (λ (ls : List Link). address_count ls) (sym c.deref.ensures.value)

pub invariant_of-self : goal.invariant_of-self
invariant_of-self c =
    let links : List Link = c.self.inside.links.items in
    let differ : vlans_differ links ≡ true = ap (λ (n : NetData). vlans_differ n.links) c.self.view_is ∙ c.requires.twins in
    record {
      lists = subst (λ (ls : List Link). AreIndexes ls c.self.inside.routes.items (record c.self.inside.indexes { over = c.leave_out_vlans.new.index; ports = c.leave_out_ports.new.index; vlans = c.leave_out_keys.new.seen })) (sym c.keep_links.ensures)
          (kept_links (is_among c.args.goes.now) links c.self.inside.routes.items c.self.inside.indexes c.leave_out_vlans.new.index c.leave_out_ports.new.index c.leave_out_keys.new.seen differ c.self.invariant.lists
          (λ k. c.leave_out_vlans.ensures k ∙ ap (λ (ls : List Link). filter (λ n. not (is_among c.args.goes.now n)) (over ls k)) c.deref-2.ensures.value)
          (λ k. c.leave_out_ports.ensures k ∙ ap (λ (ls : List Link). filter (λ n. not (is_among c.args.goes.now n)) (ports_of ls k)) c.deref-3.ensures.value)
          (λ key. c.leave_out_keys.ensures key ∙ ap (λ (ls : List Link). contains vlan_cmp c.self.inside.indexes.vlans key && not (list_any (λ (l : Link). is_among c.args.goes.now l.name && has_key key l.kind) ls)) c.deref-4.ensures.value));
      count = c.count_without-addresses.ensures
          ∙ ap (λ (ls : List Link). address_count (filter (λ l. not (is_among c.args.goes.now l.name)) ls)) c.deref.ensures.value
          ∙ ap (λ (ls : List Link). address_count ls) (sym c.keep_links.ensures);
    }

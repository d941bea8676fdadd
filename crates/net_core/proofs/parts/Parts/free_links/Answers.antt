use Rattle.std.proofs.Common.{◌∙◌, List, refl, ap, sym, subst}
use Rattle.net_model.specs.Words.{is_among}
use Rattle.net_model.specs.Lists.{NetData}
use Rattle.net_model.specs.Edits.{freed}
use Rattle.net_model.specs.Valid.{address_count}
use Rattle.net_index.specs.Indexed.{AreIndexes}
use Rattle.net_model.specs.declared.link.Link.{Link}
use Rattle.net_index.proofs.lemmas.LinkIndexes.{freed_links}
use Rattle.net_model.proofs.lemmas.Maps.{count_map}
use Rattle.net_lists.proofs.lemmas.Going.{none_named}
use Rattle.net_core.proofs.parts.Parts.free_links.Goals as goal

pub invariant_of-self : goal.invariant_of-self
invariant_of-self c =
    let links : List Link = c.self.inside.links.items in
    record {
      lists = subst (λ (ls : List Link). AreIndexes ls c.self.inside.routes.items (record c.self.inside.indexes { ports = c.clear_all.new.self })) (sym c.free_links.ensures)
          (freed_links (is_among c.args.goes.now) links c.self.inside.routes.items c.self.inside.indexes c.clear_all.new.self c.self.invariant.lists c.clear_all.ensures);
      count = c.self.invariant.count
          ∙ sym (count_map (freed (is_among c.args.goes.now)) (λ l. refl) (λ l. refl) links)
          ∙ ap (λ (ls : List Link). address_count ls) (sym c.free_links.ensures);
    }

pub returns-else-may_name : goal.returns-else-may_name
returns-else-may_name c =
    let net : NetData = c.args.self.now in
    ap (λ (ls : List Link). let n : NetData = record net { links = ls } in n)
    (sym (none_named net.links c.requires.in_order c.requires.primaries c.args.goes.now (sym c.may_name.ensures ∙ c.if-may_name.false)))

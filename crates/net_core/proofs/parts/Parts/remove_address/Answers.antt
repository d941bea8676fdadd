use Rattle.std.proofs.Common.{List, refl, sym, subst}
use Rattle.net_model.specs.Edits.{address_removed}
use Rattle.net_model.specs.declared.link.Link.{Link}
use Rattle.net_index.specs.Indexed.{AreIndexes}
use Rattle.net_index.proofs.lemmas.LinkIndexes.{kept_edit}
use Rattle.net_lists.proofs.lemmas.Counting.{count_left}
use Rattle.net_core.proofs.parts.Parts.remove_address.Goals as goal

pub invariant_of-self : goal.invariant_of-self
invariant_of-self c = record {
  lists = subst (λ (ls : List Link). AreIndexes ls c.self.inside.routes.items c.self.inside.indexes) (sym c.remove_address-gone.ensures.edit)
      (kept_edit c.args.name.now (address_removed c.args.addr.now) (λ l. refl) (λ l. refl) (λ l. refl) c.self.inside.links.items c.self.inside.routes.items c.self.inside.indexes c.self.invariant.lists);
  count = count_left _ _ _ _ c.self.invariant.count c.remove_address-gone.ensures.gone;
}

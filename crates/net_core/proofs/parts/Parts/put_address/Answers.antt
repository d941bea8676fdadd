use Rattle.std.proofs.Common.{◌∙◌, ℕ, ◌+◌, List, refl, ap, sym, subst}
use Rattle.net_model.specs.Edits.{address_put}
use Rattle.net_model.specs.declared.link.Link.{Link}
use Rattle.net_index.specs.Indexed.{AreIndexes}
use Rattle.net_index.proofs.lemmas.LinkIndexes.{kept_edit}
use Rattle.net_core.proofs.parts.Parts.put_address.Goals as goal

pub invariant_of-self-2 : goal.invariant_of-self-2
invariant_of-self-2 c = record {
  lists = subst (λ (ls : List Link). AreIndexes ls c.self.inside.routes.items c.self.inside.indexes) (sym c.in_ok-more.ensures.ok)
      (kept_edit c.args.name.now (address_put c.args.addr.now) (λ l. refl) (λ l. refl) (λ l. refl) c.self.inside.links.items c.self.inside.routes.items c.self.inside.indexes c.self.invariant.lists);
  count = ap (λ (n : ℕ). n + c.in_ok-more.more) c.self.invariant.count ∙ sym c.in_ok-more.ensures.more;
}

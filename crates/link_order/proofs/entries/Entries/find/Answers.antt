use Rattle.std.proofs.Common.{[], Some, sym, ap, ◌∙◌}
use Rattle.std.specs.List.{position}
use Rattle.net_model.specs.Name.{same_bytes}
use Rattle.document_model.specs.declared.LinkEntry.{LinkEntry}
use Rattle.merge_model.specs.Stated.{find_entry}
use Rattle.link_order.proofs.lemmas.Placed.{placed, unplaced}
use Rattle.link_order.proofs.entries.Entries.find.Goals as goal

pub returns-in-Some : goal.returns-in-Some
returns-in-Some c =
    ap Some (sym c.index-self-at.is)
    ∙ placed (λ (e : LinkEntry). e.name) (λ n. same_bytes n c.args.name.now) c.self.inside.list.now c.in-Some.at c.index-self-at.result []
    (ap (position (λ n. same_bytes n c.args.name.now)) (sym c.self.invariant) ∙ sym c.place.ensures ∙ c.in-Some.is)
    c.index-self-at.is
    ∙ ap (find_entry c.args.name.now) c.self.view_is

pub returns-in-None : goal.returns-in-None
returns-in-None c =
    sym (unplaced (λ (e : LinkEntry). e.name) (λ n. same_bytes n c.args.name.now) c.self.inside.list.now
    (ap (position (λ n. same_bytes n c.args.name.now)) (sym c.self.invariant) ∙ sym c.place.ensures ∙ c.in-None.is))
    ∙ ap (find_entry c.args.name.now) c.self.view_is

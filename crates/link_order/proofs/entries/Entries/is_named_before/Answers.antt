use Rattle.std.proofs.Common.{List, take, sym, ap, ◌∙◌}
use Rattle.std.specs.List.{list_any, position}
use Rattle.net_model.specs.Name.{same_bytes}
use Rattle.document_model.specs.declared.LinkEntry.{LinkEntry}
use Rattle.link_order.proofs.Before.{placed_before, unplaced_before}
use Rattle.link_order.proofs.entries.Entries.is_named_before.Goals as goal

pub returns-in-Some : goal.returns-in-Some
returns-in-Some c =
    sym (placed_before (λ (e : LinkEntry). e.name) (λ n. same_bytes n c.args.name.now) c.self.inside.list.now c.in-Some.first c.args.at
    (ap (position (λ n. same_bytes n c.args.name.now)) (sym c.self.invariant) ∙ sym c.place.ensures ∙ c.in-Some.is))
    ∙ ap (λ (es : List LinkEntry). list_any (λ (e : LinkEntry). same_bytes e.name c.args.name.now) (take c.args.at es)) c.self.view_is

pub returns-in-None : goal.returns-in-None
returns-in-None c =
    sym (unplaced_before (λ (e : LinkEntry). e.name) (λ n. same_bytes n c.args.name.now) c.self.inside.list.now c.args.at
    (ap (position (λ n. same_bytes n c.args.name.now)) (sym c.self.invariant) ∙ sym c.place.ensures ∙ c.in-None.is))
    ∙ ap (λ (es : List LinkEntry). list_any (λ (e : LinkEntry). same_bytes e.name c.args.name.now) (take c.args.at es)) c.self.view_is

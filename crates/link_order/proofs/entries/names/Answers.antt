use Rattle.std.proofs.Common.{ℕ, List, [], ◌∷◌, ◌++◌, sym, ap, ◌∙◌, arith}
use Rattle.document_model.specs.declared.LinkEntry.{LinkEntry}
use Rattle.link_order.proofs.lemmas.More.{map_one}
use Rattle.link_order.proofs.entries.names.Goals as goal

pub loop-entry-preserved : goal.loop-entry-preserved
loop-entry-preserved c =
    c.in_ok-push.ensures.items
    ∙ ap (λ (ns : List (List ℕ)). ns ++ c.entry-item.result.name ∷ []) c.loop-entry.invariant
    ∙ sym (map_one (λ (e : LinkEntry). e.name) c.args.entries.now c.loop-entry.entry-index c.entry-item.result (omega (arith, c.loop-entry-test.true)) c.entry-item.is)

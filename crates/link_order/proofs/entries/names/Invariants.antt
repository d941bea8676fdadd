use Rattle.std.proofs.Common.{◌≡◌, map, take}
use Rattle.document_model.specs.declared.LinkEntry.{LinkEntry}
use Rattle.link_order.proofs.entries.names.Given as goal

-- the names of the entries so far
abbrev pub invariant-loop-entry : goal.invariant-loop-entry
invariant-loop-entry l = l.names.items ≡ map (λ (e : LinkEntry). e.name) (take l.entry-index l.entries)

use Rattle.std.proofs.Common.{◌≡◌, Bool, true, false, take, sym, ap, ◌∙◌, arith}
use Rattle.std.specs.List.{list_any}
use Rattle.net_model.specs.Name.{same_bytes}
use Rattle.document_model.specs.declared.LinkEntry.{LinkEntry}
use Rattle.merge_model.proofs.lemmas.FirstSecond.{second_here, second_later}
use Rattle.link_rules.proofs.broken_entries.first_again.Goals as goal

abbrev same : LinkEntry → LinkEntry → Bool
same a b = same_bytes a.name b.name

pub returns-then-is_named_before : goal.returns-then-is_named_before
returns-then-is_named_before c =
    let before : list_any (λ (e : LinkEntry). same e c.index-list-i.result) (take c.loop-i.i c.args.list.now) ≡ true = ap (λ es. list_any (λ (e : LinkEntry). same e c.index-list-i.result) (take c.loop-i.i es)) c.requires ∙ sym c.is_named_before.ensures ∙ c.if-is_named_before.true in
    sym (second_here same c.args.list.now c.loop-i.i c.index-list-i.result (omega (arith, c.loop-i-test.true)) c.index-list-i.is before) ∙ c.loop-i.invariant

pub loop-i-preserved : goal.loop-i-preserved
loop-i-preserved c =
    let before : list_any (λ (e : LinkEntry). same e c.index-list-i.result) (take c.loop-i.i c.args.list.now) ≡ false = ap (λ es. list_any (λ (e : LinkEntry). same e c.index-list-i.result) (take c.loop-i.i es)) c.requires ∙ sym c.is_named_before.ensures ∙ c.if-is_named_before.false in
    second_later same c.args.list.now c.loop-i.i c.index-list-i.result (omega (arith, c.loop-i-test.true)) c.index-list-i.is before ∙ c.loop-i.invariant

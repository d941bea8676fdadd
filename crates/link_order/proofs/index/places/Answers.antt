use Rattle.std.proofs.Common.{Some, None, if◌then◌else◌, sym, ap, ◌∙◌, arith}
use Rattle.std.specs.Option.{option_or}
use Rattle.net_model.specs.Name.{same_bytes}
use Rattle.link_order.proofs.lemmas.Positions.{position_more}
use Rattle.link_order.proofs.index.places.Goals as goal

pub loop-at-preserved : goal.loop-at-preserved
loop-at-preserved c = λ q.
    c.in_ok-note.ensures q
    ∙ ap (λ o. option_or o (if same_bytes c.index-names-at.result q then Some c.loop-at.at else None)) (c.loop-at.invariant q)
    ∙ sym (position_more (λ n. same_bytes n q) c.args.names.now c.loop-at.at c.index-names-at.result (omega (arith, c.loop-at-test.true)) c.index-names-at.is)

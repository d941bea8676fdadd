use Rattle.std.proofs.Common.{◌∙◌, ◌+◌, get_or, drop, sym, ap}
use Rattle.std.proofs.lemmas.List.{at_drop_more}
use Rattle.yaml_read.specs.Quoted.{single_quoted}
use Rattle.yaml_read.proofs.QuoteLaws.{end_of, single_step}
use Rattle.yaml_read.proofs.quoted.single_end.Goals as goal

pub loop-i-preserved : goal.loop-i-preserved
loop-i-preserved c =
    let text = c.args.text.now in
    let i = c.loop-i.i in
    ap (λ q. end_of (single_quoted q (drop (i + 1) text))) c.is_pending-pending.ensures
    ∙ (sym (single_step c.loop-i.pending (get_or text i 0) (drop (i + 1) text) c.if-is_behind.ensures)
    ∙ (sym (at_drop_more (λ bs. end_of (single_quoted c.loop-i.pending bs)) text i 0 c.loop-i-test.true) ∙ c.loop-i.invariant))

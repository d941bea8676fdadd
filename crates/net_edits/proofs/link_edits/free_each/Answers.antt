use Rattle.std.proofs.Common.{sym, ap, ◌∙◌, set}
use Rattle.std.proofs.lemmas.List.Edits.{map_over_more}
use Rattle.net_model.specs.Words.{is_among}
use Rattle.net_model.specs.Edits.{freed}
use Rattle.net_edits.proofs.link_edits.free_each.Goals as goal

pub loop-link-preserved : goal.loop-link-preserved
loop-link-preserved c =
    let f = freed (is_among c.args.goes.now) in
    ap (set c.loop-link.links c.loop-link.link-index) (c.free.ensures ∙ ap f (sym c.link-item.is))
    ∙ map_over_more f c.args.links.now c.loop-link.links c.loop-link.link-index c.link-item.result c.loop-link-test.true c.loop-link.invariant c.link-item.is

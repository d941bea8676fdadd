use Rattle.std.proofs.Common.{List, get_or, ap, ◌∙◌}
use Rattle.std.proofs.lemmas.Result.{on_ok_weaker}
use Rattle.net_model.specs.declared.Link.{Link}
use Rattle.link_order.proofs.lemmas.Rows.{row_drawn, row_inside, row_passed}
use Rattle.link_rules.specs.Rows.{base_row, controls}
use Rattle.link_rules.proofs.dependence.draw_port.Goals as goal

pub add_arrow-requires : goal.add_arrow-requires
add_arrow-requires c =
    row_inside (base_row c.args.merged.now) controls c.args.merged.now c.args.at c.index.result.now c.requires.inside (c.index.ensures ∙ ap (λ (ls : List Link). get_or ls c.args.at c.index.result.now) c.links.ensures.links) c.in-Some.controller c.args.arrows.now c.in-Some.ensures c.requires.drawn

pub returns-in-Some : goal.returns-in-Some
returns-in-Some c =
    on_ok_weaker c.add_arrow.result
    (row_drawn (base_row c.args.merged.now) controls c.args.merged.now c.args.at c.index.result.now c.requires.inside (c.index.ensures ∙ ap (λ (ls : List Link). get_or ls c.args.at c.index.result.now) c.links.ensures.links) c.in-Some.controller c.args.arrows.now c.add_arrow.new.arrows c.in-Some.ensures c.requires.drawn)
    c.add_arrow.ensures

pub returns-in-None : goal.returns-in-None
returns-in-None c =
    row_passed (base_row c.args.merged.now) controls c.args.merged.now c.args.at c.index.result.now c.requires.inside (c.index.ensures ∙ ap (λ (ls : List Link). get_or ls c.args.at c.index.result.now) c.links.ensures.links) c.args.arrows.now c.in-None.ensures c.requires.drawn

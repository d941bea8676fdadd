use Rattle.std.proofs.Common.{List, [], get_or, ap, ◌∙◌}
use Rattle.std.proofs.lemmas.Result.{on_ok_weaker}
use Rattle.net_model.specs.declared.Link.{Link}
use Rattle.merge_model.specs.Members.{goes_with}
use Rattle.link_order.proofs.lemmas.Rows.{row_drawn, row_inside, row_passed}
use Rattle.link_order.proofs.ranking.draw.Goals as goal

pub add_arrow-requires : goal.add_arrow-requires
add_arrow-requires c =
    row_inside (λ l. []) (goes_with c.args.entries.now) c.args.net.now.links c.args.at c.index.result.now c.requires.inside (c.index.ensures ∙ ap (λ (ls : List Link). get_or ls c.args.at c.index.result.now) c.links.ensures) c.in-Some.from c.args.arrows.now c.in-Some.ensures c.requires.drawn

pub returns-in-Some : goal.returns-in-Some
returns-in-Some c =
    on_ok_weaker c.add_arrow.result
    (row_drawn (λ l. []) (goes_with c.args.entries.now) c.args.net.now.links c.args.at c.index.result.now c.requires.inside (c.index.ensures ∙ ap (λ (ls : List Link). get_or ls c.args.at c.index.result.now) c.links.ensures) c.in-Some.from c.args.arrows.now c.add_arrow.new.arrows c.in-Some.ensures c.requires.drawn)
    c.add_arrow.ensures

pub returns-in-None : goal.returns-in-None
returns-in-None c =
    row_passed (λ l. []) (goes_with c.args.entries.now) c.args.net.now.links c.args.at c.index.result.now c.requires.inside (c.index.ensures ∙ ap (λ (ls : List Link). get_or ls c.args.at c.index.result.now) c.links.ensures) c.args.arrows.now c.in-None.ensures c.requires.drawn

use Rattle.std.proofs.Common.{◌≡◌, ◌∙◌, get_or}
use Rattle.std.proofs.lemmas.List.{get_or_default}
use Rattle.net_model.specs.declared.link.Link.{Link}
use Rattle.net_model.proofs.lemmas.Drawn.{on_ok, port_drawn}
use Rattle.net_valid.proofs.graph.add_port.Goals as goal

pub returns-in-Some : goal.returns-in-Some
returns-in-Some c =
    let links = c.args.links.now in
    let l : Link = c.index-links-at.result in
    let own : (d : Link) → l ≡ get_or links c.args.at d = λ d. c.index-links-at.is ∙ get_or_default links c.args.at l d c.requires.inside in
    on_ok c.add_arrow.result (port_drawn links c.args.at c.requires.inside l own c.in-Some.controller c.in-Some.ensures c.args.arrows.now c.add_arrow.new.arrows c.requires.drawn) c.add_arrow.ensures

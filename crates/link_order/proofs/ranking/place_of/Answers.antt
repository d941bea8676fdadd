use Rattle.net_model.proofs.lemmas.Found.{names_differ-rises}
use Rattle.link_order.proofs.lemmas.Rows.{named_place, unnamed_place}
use Rattle.link_order.proofs.ranking.place_of.Goals as goal

pub returns-in-At : goal.returns-in-At
returns-in-At c =
    named_place c.args.net.now.links c.args.name.now c.in-At.at (names_differ-rises c.args.net.now.links c.laws.ensures.net.in_order.links) c.in-At.ensures.inside c.in-At.ensures.named

pub returns-in-Gap : goal.returns-in-Gap
returns-in-Gap c =
    unnamed_place c.args.net.now.links c.args.name.now (names_differ-rises c.args.net.now.links c.laws.ensures.net.in_order.links) c.in-Gap.ensures.none

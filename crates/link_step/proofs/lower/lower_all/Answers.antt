use Rattle.std.proofs.Common.{◌∙◌, not, filter, ap}
use Rattle.net_model.specs.Words.{is_among}
use Rattle.net_model.specs.Lists.{NetData}
use Rattle.link_step.proofs.lower.lower_all.Goals as goal

pub returns : goal.returns
returns c =
    c.remove_routes_of.ensures
    ∙ ap (λ (n : NetData). let m : NetData = record n { routes = filter (λ r. not (is_among c.args.falls.now r.dev)) n.routes } in m) c.lower_each.ensures

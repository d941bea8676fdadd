use Rattle.std.proofs.Common.{◌∙◌, true, ap, sym}
use Rattle.std.specs.List.{find}
use Rattle.std.specs.Option.{option_map_or}
use Rattle.net_model.specs.Valid.{same_key}
use Rattle.net_model.specs.declared.route.Route.{Route}
use Rattle.net_model.specs.Edits.{stays_on_link}
use Rattle.net_lists.proofs.lemmas.RouteLists.{none_found}
use Rattle.net_lists.proofs.on_link.key_stays.Goals as goal

pub returns-in-Gap : goal.returns-in-Gap
returns-in-Gap c =
    sym (ap (λ o. option_map_or (stays_on_link c.args.name.now c.args.links.now) o true)
    (ap (λ (r : Route). find (same_key r) c.args.routes.now) (sym c.with_key.ensures) ∙ none_found (same_key c.with_key.result) c.args.routes.now c.in-Gap.ensures.none))

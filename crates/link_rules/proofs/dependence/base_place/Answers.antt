use Rattle.std.proofs.Common.{false, sym, ap, ◌∙◌}
use Rattle.std.specs.Option.{option_map_or}
use Rattle.net_model.specs.Name.{same_bytes}
use Rattle.net_model.specs.Dependence.{has_base}
use Rattle.link_rules.proofs.Below.{placed_by, placed_nowhere, over_base}
use Rattle.link_rules.proofs.dependence.base_place.Goals as goal

pub returns-in-Some : goal.returns-in-Some
returns-in-Some c =
    placed_by c.args.merged.now (λ b. has_base c.args.link.now.kind b.name) c.in-Some.base c.place.result
    (λ l. over_base c.args.link.now.kind l.name ∙ ap (λ o. option_map_or (λ b. same_bytes b l.name) o false) (sym c.base_of.ensures ∙ c.in-Some.is)) c.place.ensures

pub returns-in-None : goal.returns-in-None
returns-in-None c =
    placed_nowhere c.args.merged.now (λ b. has_base c.args.link.now.kind b.name)
    (λ l. over_base c.args.link.now.kind l.name ∙ ap (λ o. option_map_or (λ b. same_bytes b l.name) o false) (sym c.base_of.ensures ∙ c.in-None.is))

use Rattle.std.proofs.Common.{ℕ, List, Option, false, ap}
use Rattle.std.specs.Option.{option_map_or}
use Rattle.net_model.specs.Name.{same_bytes}
use Rattle.link_rules.specs.Rows.{controls}
use Rattle.link_rules.proofs.Below.{placed_by, placed_nowhere}
use Rattle.link_rules.proofs.dependence.controller_place.Goals as goal

pub returns-in-Some : goal.returns-in-Some
returns-in-Some c =
    placed_by c.args.merged.now (λ l. controls l c.args.link.now) c.in-Some.controller c.place.result
    (λ l. ap (λ (o : Option (List ℕ)). option_map_or (λ n. same_bytes n l.name) o false) c.in-Some.is) c.place.ensures

pub returns-in-None : goal.returns-in-None
returns-in-None c =
    placed_nowhere c.args.merged.now (λ l. controls l c.args.link.now)
    (λ l. ap (λ (o : Option (List ℕ)). option_map_or (λ n. same_bytes n l.name) o false) c.in-None.is)

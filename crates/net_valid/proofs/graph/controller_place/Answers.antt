use Rattle.std.proofs.Common.{ℕ, List, Option, false, ap}
use Rattle.std.specs.Option.{option_map_or}
use Rattle.net_model.specs.Name.{same_bytes}
use Rattle.net_model.specs.Links.{is_port_of}
use Rattle.net_model.specs.declared.link.Link.{Link}
use Rattle.net_model.proofs.lemmas.Drawn.{by_name}
use Rattle.net_valid.proofs.graph.controller_place.Goals as goal

pub returns-in-Some : goal.returns-in-Some
returns-in-Some c =
    by_name (λ (x : Link). is_port_of x.name c.args.link.now) c.args.links.now c.in-Some.controller c.place_of.result c.requires
    (λ l. ap (λ (o : Option (List ℕ)). option_map_or (λ n. same_bytes n l.name) o false) c.in-Some.is) c.place_of.ensures

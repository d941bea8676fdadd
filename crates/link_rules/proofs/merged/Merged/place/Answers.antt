use Rattle.std.proofs.Common.{◌≡◌, List, sym, ap, subst, ◌∙◌}
use Rattle.std.specs.List.{position}
use Rattle.std.specs.Option.{option_to_list}
use Rattle.net_model.specs.Name.{same_bytes}
use Rattle.reach.specs.Positions.{positions}
use Rattle.net_model.specs.Links.{is_named}
use Rattle.net_model.specs.declared.Link.{Link}
use Rattle.link_rules.proofs.Below.{indexed_place}
use Rattle.link_rules.proofs.merged.Merged.place.Goals as goal

pub returns : goal.returns
returns c =
    subst (λ (ls : List Link). option_to_list c.place.result ≡ positions (is_named c.args.name.now) 0 ls) c.self.view_is
    (indexed_place c.self.inside.links.items c.args.name.now c.place.result c.self.invariant.1 (ap (position (λ n. same_bytes n c.args.name.now)) (sym c.self.invariant.0) ∙ sym c.place.ensures))

use Rattle.std.proofs.Common.{List, sym, ap, subst, ◌∙◌}
use Rattle.std.specs.List.{position}
use Rattle.net_model.specs.Name.{same_bytes}
use Rattle.merge_model.specs.Members.{Member}
use Rattle.link_members.specs.Positions.{FindsAt}
use Rattle.link_members.proofs.Listed.{finds_at}
use Rattle.link_members.proofs.members.Members.place.Goals as goal

pub returns : goal.returns
returns c =
    subst (λ (ms : List Member). FindsAt c.place.result c.args.name.now ms) c.self.view_is
    (finds_at c.self.inside.list.items c.args.name.now c.place.result (ap (position (λ n. same_bytes n c.args.name.now)) (sym c.self.invariant.0) ∙ sym c.place.ensures))

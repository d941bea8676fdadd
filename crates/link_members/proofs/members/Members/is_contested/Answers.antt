use Rattle.std.proofs.Common.{List, ap, ◌∙◌}
use Rattle.std.specs.List.{list_any}
use Rattle.merge_model.specs.Members.{Member}
use Rattle.link_members.specs.Listers.{rivals}
use Rattle.link_members.proofs.members.Members.is_contested.Goals as goal

pub returns : goal.returns
returns c = c.contains.ensures ∙ c.self.invariant.2 c.args.name.now ∙ ap (λ (ms : List Member). list_any (rivals ms c.args.name.now) ms) c.self.view_is

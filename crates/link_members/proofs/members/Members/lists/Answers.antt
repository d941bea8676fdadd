use Rattle.std.proofs.Common.{is_some, ap, ◌∙◌}
use Rattle.merge_model.specs.Members.{find_member}
use Rattle.link_members.proofs.Listed.{place_lists}
use Rattle.link_members.proofs.members.Members.lists.Goals as goal

pub returns : goal.returns
returns c = c.is_some.ensures ∙ ap is_some c.port_place.ensures ∙ place_lists c.args.port.now (find_member c.args.controller.now c.args.self.now)

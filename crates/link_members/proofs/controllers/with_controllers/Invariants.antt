use Rattle.std.proofs.Common.{◌≡◌, map, take}
use Rattle.merge_model.specs.Controllers.{with_controller}
use Rattle.link_members.proofs.controllers.with_controllers.Given as goal

-- those so far
abbrev pub invariant-loop-member : goal.invariant-loop-member
invariant-loop-member l = l.list.items ≡ map (with_controller l.members) (take l.member-index l.member-items)

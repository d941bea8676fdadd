use Rattle.std.proofs.Common.{take}
use Rattle.link_members.specs.Controlled.{HasPorts}
use Rattle.link_members.proofs.controlled.ports_by_controller.Given as goal

-- the ports among the links so far
abbrev pub invariant-loop-member : goal.invariant-loop-member
invariant-loop-member l = HasPorts (take l.member-index l.members) l.ports

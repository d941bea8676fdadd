use Rattle.std.proofs.Common.{take}
use Rattle.link_members.specs.Listers.{HasFirsts}
use Rattle.link_members.proofs.listers.first_listers.Given as goal

-- the first of the links so far whose lists name a link
abbrev pub invariant-loop-at : goal.invariant-loop-at
invariant-loop-at l = HasFirsts (take l.at l.members) l.firsts

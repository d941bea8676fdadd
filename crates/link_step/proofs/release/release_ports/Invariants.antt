use Rattle.std.proofs.Common.{[], ◌∷◌, length}
use Rattle.net_model.specs.Links.{ports_of}
use Rattle.link_step.specs.Releasing.{Releases}
use Rattle.link_step.proofs.release.release_ports.Given as goal

-- the ports so far have been released from the link
abbrev pub invariant-loop-port : goal.invariant-loop-port
invariant-loop-port l = Releases (l.name ∷ []) l.initial.parts l.parts

-- each time the link has fewer ports
abbrev pub decreases-loop-port : goal.decreases-loop-port
decreases-loop-port l = length (ports_of l.parts.links l.name)

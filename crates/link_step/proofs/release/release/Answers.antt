use Rattle.std.proofs.Common.{[], ◌∷◌}
use Rattle.link_step.proofs.Released.{released_then, free_of}
use Rattle.link_step.proofs.release.release.Goals as goal

pub release_port-requires : goal.release_port-requires
release_port-requires c = c.release_ports.ensures.released.net

pub returns-clause-released : goal.returns-clause-released
returns-clause-released c =
    released_then (c.args.name.now ∷ []) c.args.parts.now c.release_ports.new.parts c.release_port.new.parts c.release_ports.ensures.released c.release_port.ensures.released

pub returns-clause-free : goal.returns-clause-free
returns-clause-free c =
    free_of c.release_port.new.parts.links c.args.name.now (c.release_port.ensures.released.ports c.args.name.now c.release_ports.ensures.free) c.release_port.ensures.free

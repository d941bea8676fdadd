use Rattle.std.proofs.Common.{◌≡◌, true, map, take}
use Rattle.kernel_model.specs.Settings.{with_mtu}
use Rattle.link_step.proofs.Writing.{written_on}
use Rattle.link_step.proofs.mtu.clamp_links.Given as goal

-- the links of the names before the index have the MTU
abbrev pub invariant-loop-link : goal.invariant-loop-link
invariant-loop-link l = l.links ≡ map (written_on (with_mtu l.name l.mtu true) (take l.link-index l.over)) l.initial.links

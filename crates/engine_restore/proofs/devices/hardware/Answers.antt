use Rattle.std.proofs.Common.{arith}
use Rattle.net_model.specs.declared.Link.{Link}
use Rattle.net_model.specs.Hardware.{device_of}
use Rattle.merge_model.proofs.lemmas.Steps.{filter_map_one}
use Rattle.engine_restore.proofs.devices.hardware.Goals as goal

pub loop-link-preserved : goal.loop-link-preserved
loop-link-preserved c = rw (filter_map_one (λ (l : Link). device_of l.name l.kind) c.args.links.now c.loop-link.link-index c.link-item.result (omega (arith, c.loop-link-test.true)) c.link-item.is, ← c.loop-link.invariant) c.in_ok-push_device.ensures

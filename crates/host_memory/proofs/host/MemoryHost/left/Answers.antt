use Rattle.std.proofs.Common.{◌≡◌, rules, arith, drop, reverse, sym}
use Rattle.std.proofs.lemmas.Grind.{common_steps}
use Rattle.host_memory.specs.HostStopped.{touch_of, net_before}
use Rattle.host_memory.specs.Touches.{bytes_stopped}
use Rattle.host_memory.proofs.host.MemoryHost.left.Goals as goal

pub returns : goal.returns
returns c =
    let m = c.args.self.now in
    let net : c.in_ok-net.net ≡ net_before m.net (reverse (drop c.args.after m.events.items)) = first_of (search rules, grind (arith, common_steps)) in
    let cell : c.in_ok-cell.cell.items ≡ bytes_stopped (touch_of 0) c.args.after c.args.pick m.cell.items m.events.items = first_of (search rules, grind (arith, common_steps)) in
    λ i. record { net = sym net i; cell = sym cell i }

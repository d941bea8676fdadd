use Rattle.std.proofs.Common.{◌≤◌, ◌∙◌, arith, length, take, reverse, sym, subst}
use Rattle.std.proofs.lemmas.List.{length-reverse}
use Rattle.host_core.specs.HostView.{State}
use Rattle.host_memory.specs.HostMemory.{state_of}
use Rattle.host_memory.specs.HostPicked.{state_then}
use Rattle.host_memory.specs.HostRecord.{Left, LeftSince}
use Rattle.host_memory.proofs.HostPicks.{picked_left, picked_since}
use Rattle.host_memory.proofs.host.MemoryHost.stopped.Goals as goal

pub returns-clause-state : goal.returns-clause-state
returns-clause-state c = c.new-2.ensures.state ∙ sym c.in_ok-net.ensures

pub returns-clause-may_leave : goal.returns-clause-may_leave
returns-clause-may_leave c =
    let m = c.args.self.now in
    subst (λ (s : State). Left (state_then c.args.after m) (reverse (take c.args.after m.events.items)) s) (c.in_ok-net.ensures ∙ sym c.new-2.ensures.state)
    (picked_left c.args.after c.args.pick (state_of m) m.events.items m.consistent)

pub returns-clause-since : goal.returns-clause-since
returns-clause-since c =
    let m = c.args.self.now in
    let within : c.args.after ≤ length (reverse m.events.items) = c.requires.after in
    subst (λ (s : State). LeftSince c.args.after (state_of m) (reverse m.events.items) s) (c.in_ok-net.ensures ∙ sym c.new-2.ensures.state)
    (picked_since c.args.after c.args.pick (state_of m) m.events.items m.consistent (omega (arith, within, length-reverse m.events.items)))

pub returns-clause-sure : goal.returns-clause-sure
returns-clause-sure c = c.new-2.ensures.sure

pub returns-clause-faults : goal.returns-clause-faults
returns-clause-faults c = c.new-2.ensures.faults

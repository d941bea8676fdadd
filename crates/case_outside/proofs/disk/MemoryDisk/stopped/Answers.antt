use Rattle.std.proofs.Common.{◌≡◌, ◌≤◌, rules, arith, length, take, reverse, sym, subst}
use Rattle.std.proofs.lemmas.List.{length-reverse}
use Rattle.host_core.specs.DiskView.{Areas}
use Rattle.case_outside.specs.DiskMemory.{areas_of}
use Rattle.case_outside.specs.DiskPicked.{areas_stopped, areas_then}
use Rattle.case_outside.specs.DiskRecord.{Left, LeftSince}
use Rattle.case_outside.proofs.DiskPicks.{picked_left, picked_since}
use Rattle.case_outside.proofs.disk.MemoryDisk.stopped.Goals as goal

pub returns-clause-may_leave : goal.returns-clause-may_leave
returns-clause-may_leave c =
    let m = c.args.self.now in
    let areas : areas_of c.new-2.result ≡ areas_stopped c.args.after c.args.pick m = search rules in
    subst (λ (a : Areas). Left (areas_then c.args.after m) (reverse (take c.args.after m.events.items)) a) (sym areas)
    (picked_left c.args.after c.args.pick (areas_of m) m.events.items m.consistent)

pub returns-clause-since : goal.returns-clause-since
returns-clause-since c =
    let m = c.args.self.now in
    let areas : areas_of c.new-2.result ≡ areas_stopped c.args.after c.args.pick m = search rules in
    let within : c.args.after ≤ length (reverse m.events.items) = c.requires.after in
    subst (λ (a : Areas). LeftSince c.args.after (areas_of m) (reverse m.events.items) a) (sym areas)
    (picked_since c.args.after c.args.pick (areas_of m) m.events.items m.consistent (omega (arith, within, length-reverse m.events.items)))

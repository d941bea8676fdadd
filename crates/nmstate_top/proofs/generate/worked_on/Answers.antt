use Rattle.std.proofs.Common.{◌≡◌, true, sym, subst, List}
use Rattle.std.specs.Prelude.{Ok, Err}
use Rattle.net_model.specs.declared.Link.{Link}
use Rattle.host_memory.specs.HostMemory.{told_of}
use Rattle.command_laws.specs.First.{is_hardware}
use Rattle.command_laws.specs.Worked.{Works, work_cause}
use Rattle.command_laws.proofs.lemmas.Generates.{worked_counts, worked_fault}
use Rattle.nmstate_top.proofs.generate.worked_on.Goals as goal

pub work-requires-clause-hardware : goal.work-requires-clause-hardware
work-requires-clause-hardware c = subst (λ (devices : List Link). is_hardware devices ≡ true) (sym c.items.ensures) c.requires.hardware

pub returns-in-Ok : goal.returns-in-Ok
returns-in-Ok c =
    subst (λ (devices : List Link). Works devices c.args.first.now c.args.second.now (Ok c.in-Ok.summary)) c.items.ensures
    (worked_counts c.items.result.now.items c.args.first.now c.args.second.now (told_of c.work.new.host) c.in-Ok.summary (c.in-Ok.ensures.answer tt))

pub returns-in-Err : goal.returns-in-Err
returns-in-Err c =
    rw c.work_cause.ensures
    (subst (λ (devices : List Link). Works devices c.args.first.now c.args.second.now (Err (work_cause c.in-Err.fault))) c.items.ensures
    (worked_fault c.items.result.now.items c.args.first.now c.args.second.now (told_of c.args.host.now) (told_of c.work.new.host) c.in-Err.fault (c.in-Err.ensures.answer tt)))

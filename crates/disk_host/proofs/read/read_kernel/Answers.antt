use Rattle.std.proofs.Common.{Bool, refl, subst}
use Rattle.host_core.specs.DiskView.{Areas}
use Rattle.call_journal.specs.Area.{HasImage, slot_of}
use Rattle.call_journal.proofs.lemmas.Slots.{plain_held}
use Rattle.disk_host.proofs.SlotReads.{kept_is}
use Rattle.disk_host.proofs.Twice.{untouched_twice}
use Rattle.disk_host.proofs.read.read_kernel.Goals as goal

pub returns-clause-kept : goal.returns-clause-kept
returns-clause-kept g c = λ tells.
    let area = (g.D.Disk.told c.args.disk.now).areas.kernel in
    let stored = c.in-Ok.stored in
    let there = subst (λ (a : Areas). HasImage (slot_of c.in_ok-second.second a.kernel) stored.len stored.has_journal stored.first_image stored.net) (c.selected.ensures.untouched.areas tells) (c.in-Ok.ensures.image tells) in
    let has = subst (λ (b : Bool). HasImage (slot_of c.in_ok-second.second area) stored.len b stored.first_image stored.net) c.if-stored.false there in
    kept_is _ c.in_ok-second.second area (c.in_ok-second.ensures.selected tells) refl (plain_held (slot_of c.in_ok-second.second area) stored.len stored.first_image stored.net has)

pub returns-then-stored-clause-untouched : goal.returns-then-stored-clause-untouched
returns-then-stored-clause-untouched g c =
    untouched_twice g.D.Disk.tells (g.D.Disk.told c.args.disk.now) (g.D.Disk.told c.selected.new.disk) (g.D.Disk.told c.read_journal.new.disk) c.selected.ensures.untouched
    (untouched_twice g.D.Disk.tells (g.D.Disk.told c.selected.new.disk) (g.D.Disk.told c.read_image.new.disk) (g.D.Disk.told c.read_journal.new.disk) c.read_image.ensures.untouched c.read_journal.ensures.untouched)

pub returns-clause-untouched : goal.returns-clause-untouched
returns-clause-untouched g c =
    untouched_twice g.D.Disk.tells (g.D.Disk.told c.args.disk.now) (g.D.Disk.told c.selected.new.disk) (g.D.Disk.told c.read_image.new.disk) c.selected.ensures.untouched c.read_image.ensures.untouched

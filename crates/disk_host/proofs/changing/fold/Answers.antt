use Rattle.std.proofs.Common.{◌≡◌, ◌∙◌, ◌+◌, ℕ, List, length, Some, false, refl, rules, sym, ap, subst}
use Rattle.net_image.specs.Image.{IsImage}
use Rattle.call_journal.specs.Area.{held}
use Rattle.disk_host.proofs.Changes.{apart, selected, wrote_image}
use Rattle.disk_host.proofs.Storing.{unwritten, stored, unstored}
use Rattle.disk_host.proofs.changing.fold.Goals as goal

pub store-requires-clause-selected : goal.store-requires-clause-selected
store-requires-clause-selected g c = λ tells. selected c.args.call.now c.args.kept (g.D.Disk.told c.args.disk.now).areas.kernel (c.requires.after tells)

pub store-requires-clause-apart : goal.store-requires-clause-apart
store-requires-clause-apart g c = λ tells. apart c.args.call.now c.args.kept (g.D.Disk.told c.args.disk.now).areas.kernel (c.requires.after tells) _

pub returns-in-Ok-store : goal.returns-in-Ok-store
returns-in-Ok-store g c =
    let long : length c.deref.result.now ≡ c.len.result = search rules in
    stored g.D.Disk.tells c.args.call.now c.args.kept (g.D.Disk.told c.args.disk.now) (g.D.Disk.told c.store.new.disk) c.store.ensures.maybe c.store.ensures.stops c.store.ensures.stops_cell c.store.ensures.cause.later _
    (λ tells. record {
      second = c.in-Ok-store.ensures.selects tells;
      held = c.in-Ok-store.ensures.held tells ∙ ap (λ (k : ℕ). Some (held false c.args.kept.net (Some (4 + k)) 131072)) long;
    })
    refl c.in-Ok-store.ensures.sure
    (λ tells. wrote_image c.args.call.now c.args.kept (g.D.Disk.told c.args.disk.now).areas.kernel (c.requires.after tells) c.deref.result.now (g.D.Disk.told c.store.new.disk).areas.kernel c.requires.room
    (subst (λ (l : List ℕ). IsImage l c.args.kept.net) (sym c.deref.ensures.value) c.in-Ok.ensures.is_image) (c.in-Ok-store.ensures.folded tells))

pub returns-in-Err : goal.returns-in-Err
returns-in-Err g c =
    unstored g.D.Disk.tells c.args.call.now c.args.kept (g.D.Disk.told c.args.disk.now) (g.D.Disk.told c.store.new.disk) c.store.ensures.maybe c.store.ensures.stops c.store.ensures.stops_cell c.store.ensures.cause.later c.in-Err.ensures.cause.failed

pub returns-in_default : goal.returns-in_default
returns-in_default g c = unwritten g.D.Disk.tells c.args.call.now c.args.kept (g.D.Disk.told c.args.disk.now)

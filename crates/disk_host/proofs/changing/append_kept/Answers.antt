use Rattle.std.proofs.Common.{◌≡◌, ◌∙◌, ◌+◌, ◌-◌, ℕ, length, Some, refl, sym, ap}
use Rattle.call_journal.specs.Weight.{weight_of}
use Rattle.call_journal.specs.Area.{held}
use Rattle.disk_host.proofs.Changes.{record_size, wrote_record}
use Rattle.disk_host.proofs.Storing.{stored, unstored}
use Rattle.disk_host.proofs.changing.append_kept.Goals as goal

spare_left : (left weight spare w : ℕ) → left ≡ spare - weight → weight ≡ w → left ≡ spare - w
spare_left left weight spare w is same = is ∙ ap (λ (k : ℕ). spare - k) same

pub returns-in-Ok : goal.returns-in-Ok
returns-in-Ok g c =
    stored g.D.Disk.tells c.args.call.now c.args.kept (g.D.Disk.told c.args.disk.now) (g.D.Disk.told c.append.new.disk) c.append.ensures.maybe c.append.ensures.stops c.append.ensures.stops_cell c.append.ensures.cause.later _
    (λ tells. record {
      second = c.in-Ok.ensures.selects tells;
      held = c.in-Ok.ensures.held tells ∙ ap (λ (k : ℕ). Some (held c.args.kept.first_image c.args.kept.net (Some (c.args.gate + k)) (c.args.kept.spare - weight_of c.args.call.now k))) (sym (ap length c.requires.bytes ∙ record_size c.args.call.now))
          ∙ ap (λ (w : ℕ). Some (held c.args.kept.first_image c.args.kept.net (Some (c.args.gate + length c.args.sized.now)) w)) (sym (spare_left c.saturating_sub-spare.result c.record_weight.result c.args.kept.spare (weight_of c.args.call.now (length c.args.sized.now)) c.saturating_sub-spare.ensures c.record_weight.ensures));
    })
    refl c.in-Ok.ensures.sure
    (λ tells. wrote_record c.args.call.now c.args.kept (g.D.Disk.told c.args.disk.now).areas.kernel (c.requires.after tells) c.args.gate (g.D.Disk.told c.append.new.disk).areas.kernel c.requires.room (c.in-Ok.ensures.written tells))

pub returns-in-Err : goal.returns-in-Err
returns-in-Err g c =
    unstored g.D.Disk.tells c.args.call.now c.args.kept (g.D.Disk.told c.args.disk.now) (g.D.Disk.told c.append.new.disk) c.append.ensures.maybe c.append.ensures.stops c.append.ensures.stops_cell c.append.ensures.cause.later c.in-Err.ensures.cause.failed

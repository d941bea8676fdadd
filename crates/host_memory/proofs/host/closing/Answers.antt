use Rattle.std.proofs.Common.{◌≡◌, ◌∷◌, [], inr, rules, refl, get_or}
use Rattle.host_memory.specs.declared.record.HostEvent.TheVariants.{Wrote, Synced}
use Rattle.host_memory.proofs.host.closing.Goals as goal

pub returns : goal.returns
returns c =
    let held : c.in_ok-to_vec-2.field-0.items ≡ c.args.cell.now = search rules in
    let opened : get_or c.args.cell.now 0 1 ≡ 1 = search rules in
    let pushed : c.push-3.new.self.items ≡ Synced ∷ (Wrote 0 1 c.in_ok-to_vec-2.field-0 ∷ (Synced ∷ [])) = search rules in
    inr (record { opened = opened; written = c.in_ok-next.ensures.written refl; before = c.in_ok-to_vec-2.field-0; items = held; pushed = pushed })

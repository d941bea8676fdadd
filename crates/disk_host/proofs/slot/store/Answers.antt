use Rattle.std.proofs.Common.{◌≡◌, ◌∙◌, ℕ, Bool, true, false, List, [], ◌∷◌, length, subst, refl, sym, ap, arith}
use Rattle.std.specs.Prelude.{not}
use Rattle.std.proofs.lemmas.Result.{on_ok_weaker}
use Rattle.host_core.specs.Bytes.{Written}
use Rattle.host_core.specs.DiskView.{AreaTorn}
use Rattle.host_core.specs.Stops.{Steps}
use Rattle.host_core.proofs.lemmas.Moments.{follow}
use Rattle.call_journal.specs.Area.{slot_at, selects, selector, new_slot}
use Rattle.disk_host.specs.Slots.{KeepsCell}
use Rattle.disk_host.proofs.Changes.{slot_small}
use Rattle.disk_host.proofs.Slots.{slot_written, selects_written}
use Rattle.disk_host.proofs.Stores.{fits, first_step, second_step, store_first, store_both, store_done}
use Rattle.disk_host.proofs.slot.store.Goals as goal

pub returns-in_err-write_synced-clause-stops : goal.returns-in_err-write_synced-clause-stops
returns-in_err-write_synced-clause-stops g c = λ tells.
    let old = g.D.Disk.told c.args.disk.now in
    let new = g.D.Disk.told c.write_synced.new.disk in
    store_first c.args.second c.args.net.now c.args.image.now c.args.slot.now c.requires.small c.requires.latest c.requires.image c.requires.slot old (c.requires.settled tells) (c.requires.selected tells) (c.requires.apart tells) new.stops
    (subst (λ (at : ℕ). Steps (AreaTorn 0 at (length c.args.slot.now)) old.stops new.stops) c.place-at.ensures c.write_synced.ensures.stops)

pub returns-in_err-write_synced-clause-maybe : goal.returns-in_err-write_synced-clause-maybe
returns-in_err-write_synced-clause-maybe g c = λ tells.
    let old = g.D.Disk.told c.args.disk.now in
    let new = g.D.Disk.told c.write_synced.new.disk in
    first_step c.args.second c.args.net.now c.args.image.now c.args.slot.now c.requires.small c.requires.latest c.requires.image c.requires.slot old.areas new.areas (c.requires.selected tells) (c.requires.apart tells)
    (subst (λ (at : ℕ). AreaTorn 0 at (length c.args.slot.now) old.areas new.areas) c.place-at.ensures (c.write_synced.ensures.torn tells))

pub returns-clause-maybe : goal.returns-clause-maybe
returns-clause-maybe g c = λ tells.
    let old = g.D.Disk.told c.args.disk.now in
    let mid = g.D.Disk.told c.write_synced.new.disk in
    let new = g.D.Disk.told c.write_synced-2.new.disk in
    let wrote = subst (λ (at : ℕ). Written at c.args.slot.now old.areas.kernel mid.areas.kernel) c.place-at.ensures (c.in_ok-write_synced.ensures.written tells).0 in
    let stored = slot_written c.args.second c.args.image.now c.args.slot.now old.areas.kernel mid.areas.kernel c.args.net.now c.requires.small c.requires.latest c.requires.image c.requires.slot (fits c.args.second c.args.net.now c.args.image.now c.args.slot.now c.requires.small c.requires.latest c.requires.image c.requires.slot) wrote in
    second_step c.args.second c.args.net.now c.args.image.now c.args.slot.now c.requires.small c.requires.latest c.requires.image c.requires.slot old.areas mid.areas new.areas (c.requires.selected tells) (c.requires.apart tells)
    (subst (λ (at : ℕ). AreaTorn 0 at (length c.args.slot.now) old.areas mid.areas) c.place-at.ensures (c.write_synced.ensures.torn tells)) stored (c.write_synced-2.ensures.torn tells)

pub returns-clause-stops : goal.returns-clause-stops
returns-clause-stops g c = λ tells.
    let old = g.D.Disk.told c.args.disk.now in
    let mid = g.D.Disk.told c.write_synced.new.disk in
    let new = g.D.Disk.told c.write_synced-2.new.disk in
    let wrote = subst (λ (at : ℕ). Written at c.args.slot.now old.areas.kernel mid.areas.kernel) c.place-at.ensures (c.in_ok-write_synced.ensures.written tells).0 in
    let stored = slot_written c.args.second c.args.image.now c.args.slot.now old.areas.kernel mid.areas.kernel c.args.net.now c.requires.small c.requires.latest c.requires.image c.requires.slot (fits c.args.second c.args.net.now c.args.image.now c.args.slot.now c.requires.small c.requires.latest c.requires.image c.requires.slot) wrote in
    store_both c.args.second c.args.net.now c.args.image.now c.args.slot.now c.requires.small c.requires.latest c.requires.image c.requires.slot old (c.requires.settled tells) (c.requires.selected tells) (c.requires.apart tells) mid new.stops
    (subst (λ (at : ℕ). Steps (AreaTorn 0 at (length c.args.slot.now)) old.stops mid.stops) c.place-at.ensures c.write_synced.ensures.stops)
    (c.in_ok-write_synced.ensures.written tells).1 stored c.write_synced-2.ensures.stops

pub returns-clause-stops_cell : goal.returns-clause-stops_cell
returns-clause-stops_cell g c =
    follow _ _ KeepsCell _ _ _ c.write_synced.ensures.stops c.write_synced-2.ensures.stops (λ r s left torn. torn.same) (λ q r s was left one two. two.same ∙ one.same)

not_not : (b : Bool) → not (not b) ≡ b
not_not true = refl
not_not false = refl

pub returns-clause-selects : goal.returns-clause-selects
returns-clause-selects g c =
    let mid = g.D.Disk.told c.write_synced.new.disk in
    let new = g.D.Disk.told c.write_synced-2.new.disk in
    on_ok_weaker c.write_synced-2.result
    (λ wrote. λ tells. selects_written c.args.second mid.areas.kernel new.areas.kernel (subst (λ (b : ℕ). Written 0 (b ∷ []) mid.areas.kernel new.areas.kernel) c.selector.ensures (wrote tells).0))
    c.write_synced-2.ensures.written

pub returns-clause-held : goal.returns-clause-held
returns-clause-held g c =
    let old = g.D.Disk.told c.args.disk.now in
    let mid = g.D.Disk.told c.write_synced.new.disk in
    let new = g.D.Disk.told c.write_synced-2.new.disk in
    on_ok_weaker c.write_synced-2.result (λ first. λ tells.
    let wrote = subst (λ (at : ℕ). Written at c.args.slot.now old.areas.kernel mid.areas.kernel) c.place-at.ensures (c.in_ok-write_synced.ensures.written tells).0 in
    let stored = slot_written c.args.second c.args.image.now c.args.slot.now old.areas.kernel mid.areas.kernel c.args.net.now c.requires.small c.requires.latest c.requires.image c.requires.slot (fits c.args.second c.args.net.now c.args.image.now c.args.slot.now c.requires.small c.requires.latest c.requires.image c.requires.slot) wrote in
    store_done c.args.second c.args.net.now c.args.image.now c.args.slot.now c.requires.small c.requires.latest c.requires.image c.requires.slot mid.areas.kernel new.areas.kernel stored
    (subst (λ (b : ℕ). Written 0 (b ∷ []) mid.areas.kernel new.areas.kernel) c.selector.ensures (first tells).0))
    c.write_synced-2.ensures.written

pub returns-clause-folded : goal.returns-clause-folded
returns-clause-folded g c =
    let old = g.D.Disk.told c.args.disk.now in
    let mid = g.D.Disk.told c.write_synced.new.disk in
    let new = g.D.Disk.told c.write_synced-2.new.disk in
    on_ok_weaker c.write_synced-2.result (λ first. λ tells.
    let wrote = subst (λ (at : ℕ). Written at c.args.slot.now old.areas.kernel mid.areas.kernel) c.place-at.ensures (c.in_ok-write_synced.ensures.written tells).0 in
    let chosen = subst (λ (b : ℕ). Written 0 (b ∷ []) mid.areas.kernel new.areas.kernel) c.selector.ensures (first tells).0 in
    let other : not (selects old.areas.kernel) ≡ c.args.second = ap not (c.requires.selected tells) ∙ not_not c.args.second in
    record {
      between = mid.areas.kernel;
      slot_written = subst (λ (b : Bool). Written (slot_at b) (new_slot c.args.image.now) old.areas.kernel mid.areas.kernel) (sym other)
          (subst (λ (slot : List ℕ). Written (slot_at c.args.second) slot old.areas.kernel mid.areas.kernel) c.requires.slot wrote);
      then_selected = subst (λ (b : Bool). Written 0 (selector b ∷ []) mid.areas.kernel new.areas.kernel) (sym other) chosen;
    })
    c.write_synced-2.ensures.written

pub write_synced-requires-clause-end : goal.write_synced-requires-clause-end
write_synced-requires-clause-end g c =
    omega (arith, c.place-at.ensures, slot_small c.args.second, fits c.args.second c.args.net.now c.args.image.now c.args.slot.now c.requires.small c.requires.latest c.requires.image c.requires.slot)

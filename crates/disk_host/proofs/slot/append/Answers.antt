use Rattle.std.proofs.Common.{◌≡◌, ◌∙◌, ℕ, ◌+◌, ◌-◌, ◌≤◌, true, List, [], ◌∷◌, ◌++◌, length, Some, Option, sym, ap, subst, arith}
use Rattle.std.proofs.lemmas.Result.{on_ok_weaker}
use Rattle.net_model.specs.declared.call.Call.{Call}
use Rattle.host_core.specs.Bytes.{Written}
use Rattle.host_core.specs.DiskView.{Areas, AreaTorn}
use Rattle.host_core.specs.Stops.{Stops, Steps}
use Rattle.host_core.proofs.lemmas.Moments.{follow}
use Rattle.call_journal.specs.Weight.{weight_of}
use Rattle.call_journal.specs.Area.{held, slot_at, new_record}
use Rattle.call_journal.specs.Records.{sized_call, open_record}
use Rattle.call_journal.proofs.lemmas.Record.{record_is}
use Rattle.disk_host.specs.Slots.{KeepsCell}
use Rattle.disk_host.specs.Kept.{IsAfter}
use Rattle.disk_host.specs.declared.kept.Kept.{Kept}
use Rattle.disk_host.proofs.Changes.{record_size, slot_small}
use Rattle.disk_host.proofs.Gates.{behind_gate, gate_within, one_write}
use Rattle.disk_host.proofs.Stores.{IsAppended, IsAt, first_append, second_append, append_first, append_both, append_done}
use Rattle.disk_host.proofs.slot.append.Goals as goal

record_spelled : (call : Call) → new_record call ≡ 1 ∷ behind_gate call
unfolding new_record
record_spelled call = ap (λ (l : List ℕ). l ++ 0 ∷ []) (record_is call)

at_gate : (call : Call) (kept : Kept) (gate : ℕ) (area : List ℕ) (after : IsAfter call kept area) → kept.gate ≡ Some gate → IsAt kept.second kept.first_image after.before gate kept.spare area
at_gate call kept gate area after is = record {
  chosen = after.is_kept.second;
  holds = after.is_kept.held ∙ ap (λ (g : Option ℕ). Some (held kept.first_image after.before g kept.spare)) is;
}

appended : (call : Call) (kept : Kept) (gate : ℕ) (area : List ℕ) (after : IsAfter call kept area) → sized_call.fits call ≡ true → gate + length (open_record.write call) + 1 ≤ 1048576 → IsAppended kept.second kept.first_image after.before kept.net gate call
appended call kept gate area after fits room = record { stepped = after.stepped; fits = fits; room = room }

-- the first write as it was made, at the place behind the gate
first_torn : (at second gate : ℕ) (record_bytes tail : List ℕ) (r s : Areas) → at ≡ second → record_bytes ≡ tail → AreaTorn 0 (at + gate + 1) (length record_bytes) r s → AreaTorn 0 (second + gate + 1) (length tail) r s
first_torn at second gate record_bytes tail r s same is torn =
    subst (λ (bytes : List ℕ). AreaTorn 0 (second + gate + 1) (length bytes) r s) is (subst (λ (a : ℕ). AreaTorn 0 (a + gate + 1) (length record_bytes) r s) same torn)

first_steps : (at second gate : ℕ) (record_bytes tail : List ℕ) (old new : Stops Areas) → at ≡ second → record_bytes ≡ tail → Steps (AreaTorn 0 (at + gate + 1) (length record_bytes)) old new
    → Steps (AreaTorn 0 (second + gate + 1) (length tail)) old new
first_steps at second gate record_bytes tail old new same is steps =
    subst (λ (bytes : List ℕ). Steps (AreaTorn 0 (second + gate + 1) (length bytes)) old new) is (subst (λ (a : ℕ). Steps (AreaTorn 0 (a + gate + 1) (length record_bytes)) old new) same steps)

first_written : (at second gate : ℕ) (record_bytes tail : List ℕ) (old new : List ℕ) → at ≡ second → record_bytes ≡ tail → Written (at + gate + 1) record_bytes old new → Written (second + gate + 1) tail old new
first_written at second gate record_bytes tail old new same is wrote =
    subst (λ (bytes : List ℕ). Written (second + gate + 1) bytes old new) is (subst (λ (a : ℕ). Written (a + gate + 1) record_bytes old new) same wrote)

pub returns-in_err-write_synced-clause-maybe : goal.returns-in_err-write_synced-clause-maybe
returns-in_err-write_synced-clause-maybe g c = λ tells.
    let old = g.D.Disk.told c.args.disk.now in
    let mid = g.D.Disk.told c.write_synced.new.disk in
    let kept = c.args.kept.now in
    let after = c.requires.after tells in
    first_append kept.second kept.first_image after.before kept.net c.args.gate kept.spare c.args.call.now (appended c.args.call.now kept c.args.gate old.areas.kernel after c.requires.fits c.requires.room)
    old.areas mid.areas (at_gate c.args.call.now kept c.args.gate old.areas.kernel after c.requires.gate)
    (first_torn c.place.result (slot_at kept.second) c.args.gate c.args.record_bytes.now (behind_gate c.args.call.now) old.areas mid.areas c.place.ensures c.requires.bytes (c.write_synced.ensures.torn tells))

pub returns-in_err-write_synced-clause-stops : goal.returns-in_err-write_synced-clause-stops
returns-in_err-write_synced-clause-stops g c = λ tells.
    let old = g.D.Disk.told c.args.disk.now in
    let mid = g.D.Disk.told c.write_synced.new.disk in
    let kept = c.args.kept.now in
    let after = c.requires.after tells in
    append_first kept.second kept.first_image after.before kept.net c.args.gate kept.spare c.args.call.now (appended c.args.call.now kept c.args.gate old.areas.kernel after c.requires.fits c.requires.room)
    old (c.requires.settled tells) (at_gate c.args.call.now kept c.args.gate old.areas.kernel after c.requires.gate) mid.stops
    (first_steps c.place.result (slot_at kept.second) c.args.gate c.args.record_bytes.now (behind_gate c.args.call.now) old.stops mid.stops c.place.ensures c.requires.bytes c.write_synced.ensures.stops)

pub returns-clause-maybe : goal.returns-clause-maybe
returns-clause-maybe g c = λ tells.
    let old = g.D.Disk.told c.args.disk.now in
    let mid = g.D.Disk.told c.write_synced.new.disk in
    let new = g.D.Disk.told c.write_synced-2.new.disk in
    let kept = c.args.kept.now in
    let after = c.requires.after tells in
    let tail = behind_gate c.args.call.now in
    second_append kept.second kept.first_image after.before kept.net c.args.gate kept.spare c.args.call.now (appended c.args.call.now kept c.args.gate old.areas.kernel after c.requires.fits c.requires.room)
    old.areas mid.areas new.areas (at_gate c.args.call.now kept c.args.gate old.areas.kernel after c.requires.gate)
    (first_torn c.place.result (slot_at kept.second) c.args.gate c.args.record_bytes.now tail old.areas mid.areas c.place.ensures c.requires.bytes (c.write_synced.ensures.torn tells))
    (first_written c.place.result (slot_at kept.second) c.args.gate c.args.record_bytes.now tail old.areas.kernel mid.areas.kernel c.place.ensures c.requires.bytes (c.in_ok-write_synced.ensures.written tells).0).stands
    (subst (λ (at : ℕ). AreaTorn 0 (at + c.args.gate) 1 mid.areas new.areas) c.place.ensures (c.write_synced-2.ensures.torn tells))

pub returns-clause-stops : goal.returns-clause-stops
returns-clause-stops g c = λ tells.
    let old = g.D.Disk.told c.args.disk.now in
    let mid = g.D.Disk.told c.write_synced.new.disk in
    let new = g.D.Disk.told c.write_synced-2.new.disk in
    let kept = c.args.kept.now in
    let after = c.requires.after tells in
    let tail = behind_gate c.args.call.now in
    append_both kept.second kept.first_image after.before kept.net c.args.gate kept.spare c.args.call.now (appended c.args.call.now kept c.args.gate old.areas.kernel after c.requires.fits c.requires.room)
    old (c.requires.settled tells) (at_gate c.args.call.now kept c.args.gate old.areas.kernel after c.requires.gate) mid new.stops
    (first_steps c.place.result (slot_at kept.second) c.args.gate c.args.record_bytes.now tail old.stops mid.stops c.place.ensures c.requires.bytes c.write_synced.ensures.stops)
    (c.in_ok-write_synced.ensures.written tells).1
    (first_written c.place.result (slot_at kept.second) c.args.gate c.args.record_bytes.now tail old.areas.kernel mid.areas.kernel c.place.ensures c.requires.bytes (c.in_ok-write_synced.ensures.written tells).0).stands
    (subst (λ (at : ℕ). Steps (AreaTorn 0 (at + c.args.gate) 1) mid.stops new.stops) c.place.ensures c.write_synced-2.ensures.stops)

pub returns-clause-stops_cell : goal.returns-clause-stops_cell
returns-clause-stops_cell g c =
    follow _ _ KeepsCell _ _ _ c.write_synced.ensures.stops c.write_synced-2.ensures.stops (λ r s left torn. torn.same) (λ q r s was left one two. two.same ∙ one.same)

-- what stands after both writes
done : (call : Call) (kept : Kept) (at gate : ℕ) (record_bytes old mid new : List ℕ) (after : IsAfter call kept old) → at ≡ slot_at kept.second → kept.gate ≡ Some gate → record_bytes ≡ behind_gate call → sized_call.fits call ≡ true
    → gate + length (open_record.write call) + 1 ≤ 1048576 → Written (at + gate + 1) record_bytes old mid → Written (at + gate) (1 ∷ []) mid new → IsAt kept.second kept.first_image kept.net (gate + length (open_record.write call)) (kept.spare - weight_of call (length (open_record.write call))) new
done call kept at gate record_bytes old mid new after same has is fits room first second =
    let wrote = first_written at (slot_at kept.second) gate record_bytes (behind_gate call) old mid same is first in
    append_done kept.second kept.first_image after.before kept.net gate kept.spare call (appended call kept gate old after fits room) old mid new (at_gate call kept gate old after has)
    wrote.torn wrote.stands (subst (λ (a : ℕ). Written (a + gate) (1 ∷ []) mid new) same second)

pub returns-clause-selects : goal.returns-clause-selects
returns-clause-selects g c =
    on_ok_weaker c.write_synced-2.result (λ second. λ tells.
    (done c.args.call.now c.args.kept.now c.place.result c.args.gate c.args.record_bytes.now (g.D.Disk.told c.args.disk.now).areas.kernel (g.D.Disk.told c.write_synced.new.disk).areas.kernel (g.D.Disk.told c.write_synced-2.new.disk).areas.kernel
    (c.requires.after tells) c.place.ensures c.requires.gate c.requires.bytes c.requires.fits c.requires.room (c.in_ok-write_synced.ensures.written tells).0 (second tells).0).chosen)
    c.write_synced-2.ensures.written

pub returns-clause-held : goal.returns-clause-held
returns-clause-held g c =
    on_ok_weaker c.write_synced-2.result (λ second. λ tells.
    (done c.args.call.now c.args.kept.now c.place.result c.args.gate c.args.record_bytes.now (g.D.Disk.told c.args.disk.now).areas.kernel (g.D.Disk.told c.write_synced.new.disk).areas.kernel (g.D.Disk.told c.write_synced-2.new.disk).areas.kernel
    (c.requires.after tells) c.place.ensures c.requires.gate c.requires.bytes c.requires.fits c.requires.room (c.in_ok-write_synced.ensures.written tells).0 (second tells).0).holds)
    c.write_synced-2.ensures.written

pub returns-clause-written : goal.returns-clause-written
returns-clause-written g c =
    on_ok_weaker c.write_synced-2.result (λ second. λ tells.
    let old = (g.D.Disk.told c.args.disk.now).areas.kernel in
    let mid = (g.D.Disk.told c.write_synced.new.disk).areas.kernel in
    let new = (g.D.Disk.told c.write_synced-2.new.disk).areas.kernel in
    let kept = c.args.kept.now in
    let after = c.requires.after tells in
    let at = at_gate c.args.call.now kept c.args.gate old after c.requires.gate in
    let within = gate_within kept.second old kept.first_image after.before c.args.gate kept.spare at.chosen at.holds in
    let first = first_written c.place.result (slot_at kept.second) c.args.gate c.args.record_bytes.now (behind_gate c.args.call.now) old mid c.place.ensures c.requires.bytes (c.in_ok-write_synced.ensures.written tells).0 in
    let one = one_write (slot_at kept.second + c.args.gate) 1 (behind_gate c.args.call.now) old mid new within.1 first (subst (λ (a : ℕ). Written (a + c.args.gate) (1 ∷ []) mid new) c.place.ensures (second tells).0) in
    subst (λ (bytes : List ℕ). Written (slot_at kept.second + c.args.gate) bytes old new) (sym (record_spelled c.args.call.now)) one)
    c.write_synced-2.ensures.written

pub write_synced-requires-clause-end : goal.write_synced-requires-clause-end
write_synced-requires-clause-end g c = omega (arith, c.place.ensures, slot_small c.args.kept.now.second, c.requires.room, ap length c.requires.bytes, record_size c.args.call.now)

pub returns-clause-sure : goal.returns-clause-sure
returns-clause-sure g c = on_ok_weaker c.write_synced-2.result (λ wrote. λ tells. (wrote tells).1) c.write_synced-2.ensures.written

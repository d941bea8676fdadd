use Rattle.std.proofs.Common.{◌≡◌, ◌+◌, ◌-◌, ◌≤◌, ◌∙◌, List, ℕ, length, drop, Some, Err, ap, sym, subst, arith}
use Rattle.std.specs.Prelude.{min}
use Rattle.std.proofs.lemmas.List.{take_at}
use Rattle.host_core.specs.DiskView.{Areas}
use Rattle.host_core.specs.Bytes.{Filled}
use Rattle.call_journal.specs.Replay.{replayed}
use Rattle.call_journal.specs.Weight.{journal_weight, spare_of}
use Rattle.call_journal.specs.Area.{held, slot_at, slot_of}
use Rattle.call_journal.proofs.lemmas.Slots.{journaled_held, gate_held, full_held, bad_journal, cut_journal}
use Rattle.disk_host.proofs.SlotReads.{all_there, slot_size, journal_is}
use Rattle.disk_host.proofs.Twice.{untouched_twice, later_twice}
use Rattle.disk_host.proofs.read.read_journal.Goals as goal

-- the read of the journal, at its place in the area
at_journal : (at place from : ℕ) (area before buf journal : List ℕ) (got : ℕ) → at ≡ place → before ≡ area → Filled (at + from) before buf journal got → Filled (place + from) area buf journal got
at_journal at place from area before buf journal got is same filled =
    subst (λ (l : List ℕ). Filled (place + from) l buf journal got) same (subst (λ (k : ℕ). Filled (k + from) before buf journal got) is filled)

pub returns-then-filled-there-clause-damaged : goal.returns-then-filled-there-clause-damaged
returns-then-filled-there-clause-damaged g c = λ tells is.
    let area = (g.D.Disk.told c.args.disk.now).areas.kernel in
    let from = 4 + c.args.stored.len in
    let there = c.min-there.result in
    let filled = at_journal c.place.result (slot_at c.args.second) from area (g.D.Disk.told c.size.new.self).areas.kernel c.deref_mut.result.now c.read_at.new.buf c.in_ok-filled.filled
    c.place.ensures (ap (λ (a : Areas). a.kernel) (c.size.ensures.untouched.areas tells)) (c.in_ok-filled.ensures.filled tells) in
    let many : there ≡ min (1048576 - from) (length area - (slot_at c.args.second + from)) = omega (arith, c.min-there.ensures, c.saturating_sub.ensures, c.in_ok-size.ensures.size tells, c.place.ensures) in
    let long : length c.deref_mut.result.now ≡ there = omega (arith, c.deref_mut.ensures.len, c.in-Ok.ensures.len) in
    absurd (omega (arith, c.if-filled-there.true, all_there c.args.second from there c.in_ok-filled.filled area c.deref_mut.result.now c.read_at.new.buf (omega (arith, c.requires.small)) (c.requires.image tells).inside many long filled))

pub returns-in-Err-Bad-clause-damaged : goal.returns-in-Err-Bad-clause-damaged
returns-in-Err-Bad-clause-damaged g c = λ tells is.
    let area = (g.D.Disk.told c.args.disk.now).areas.kernel in
    let n = c.args.stored.len in
    let from = 4 + n in
    let there = c.min-there.result in
    let slot = slot_of c.args.second area in
    let first = c.args.stored.first_image in
    let image = c.args.stored.net in
    let has = c.requires.image tells in
    let filled = at_journal c.place.result (slot_at c.args.second) from area (g.D.Disk.told c.size.new.self).areas.kernel c.deref_mut.result.now c.read_at.new.buf c.in_ok-filled.filled
    c.place.ensures (ap (λ (a : Areas). a.kernel) (c.size.ensures.untouched.areas tells)) (c.in_ok-filled.ensures.filled tells) in
    let many : there ≡ min (1048576 - from) (length area - (slot_at c.args.second + from)) = omega (arith, c.min-there.ensures, c.saturating_sub.ensures, c.in_ok-size.ensures.size tells, c.place.ensures) in
    let long : length c.deref_mut.result.now ≡ there = omega (arith, c.deref_mut.ensures.len, c.in-Ok.ensures.len) in
    let le : from ≤ 1048576 = omega (arith, c.requires.small) in
    let size : length slot ≡ from + there = slot_size c.args.second from there c.in_ok-filled.filled area c.deref_mut.result.now c.read_at.new.buf le has.inside many long filled in
    let whole : c.deref.result.now ≡ drop from slot = c.deref.ensures.value ∙ take_at c.read_at.new.buf _ _ (omega (arith, c.deref_mut.ensures.len)) ∙ journal_is c.args.second from there c.in_ok-filled.filled area c.deref_mut.result.now c.read_at.new.buf le has.inside many long filled in
    bad_journal slot n first image has (ap (replayed image) (sym whole) ∙ c.in-Err-Bad.ensures.bad (ap (λ e. Err e) c.in-Err-Bad.field-0-is))

pub returns-then-end-there-clause-held : goal.returns-then-end-there-clause-held
returns-then-end-there-clause-held g c = λ tells.
    let area = (g.D.Disk.told c.args.disk.now).areas.kernel in
    let n = c.args.stored.len in
    let from = 4 + n in
    let there = c.min-there.result in
    let slot = slot_of c.args.second area in
    let first = c.args.stored.first_image in
    let image = c.args.stored.net in
    let has = c.requires.image tells in
    let filled = at_journal c.place.result (slot_at c.args.second) from area (g.D.Disk.told c.size.new.self).areas.kernel c.deref_mut.result.now c.read_at.new.buf c.in_ok-filled.filled
    c.place.ensures (ap (λ (a : Areas). a.kernel) (c.size.ensures.untouched.areas tells)) (c.in_ok-filled.ensures.filled tells) in
    let many : there ≡ min (1048576 - from) (length area - (slot_at c.args.second + from)) = omega (arith, c.min-there.ensures, c.saturating_sub.ensures, c.in_ok-size.ensures.size tells, c.place.ensures) in
    let long : length c.deref_mut.result.now ≡ there = omega (arith, c.deref_mut.ensures.len, c.in-Ok.ensures.len) in
    let le : from ≤ 1048576 = omega (arith, c.requires.small) in
    let size : length slot ≡ from + there = slot_size c.args.second from there c.in_ok-filled.filled area c.deref_mut.result.now c.read_at.new.buf le has.inside many long filled in
    let whole : c.deref.result.now ≡ drop from slot = c.deref.ensures.value ∙ take_at c.read_at.new.buf _ _ (omega (arith, c.deref_mut.ensures.len)) ∙ journal_is c.args.second from there c.in_ok-filled.filled area c.deref_mut.result.now c.read_at.new.buf le has.inside many long filled in
    let all : replayed image (drop from slot) ≡ Some (c.replay.new.net, c.in-Ok-replay.ended.0) = ap (replayed image) (sym whole) ∙ c.in-Ok-replay.ensures.replayed in
    let spare : c.in-Ok-replay.ended.1 ≡ spare_of (journal_weight (drop from slot)) = c.in-Ok-replay.ensures.weighed ∙ ap (λ (l : List ℕ). spare_of (journal_weight l)) whole in
    journaled_held slot n first image has ∙ gate_held first from c.in-Ok-replay.ended.0 slot image c.replay.new.net all (omega (arith, c.if-end-there.true, size))
    ∙ ap (λ (w : ℕ). Some (held first c.replay.new.net (Some (from + c.in-Ok-replay.ended.0)) w)) (sym spare)

pub returns-then-there-room-clause-damaged : goal.returns-then-there-room-clause-damaged
returns-then-there-room-clause-damaged g c = λ tells is.
    let area = (g.D.Disk.told c.args.disk.now).areas.kernel in
    let n = c.args.stored.len in
    let from = 4 + n in
    let there = c.min-there.result in
    let slot = slot_of c.args.second area in
    let first = c.args.stored.first_image in
    let image = c.args.stored.net in
    let has = c.requires.image tells in
    let filled = at_journal c.place.result (slot_at c.args.second) from area (g.D.Disk.told c.size.new.self).areas.kernel c.deref_mut.result.now c.read_at.new.buf c.in_ok-filled.filled
    c.place.ensures (ap (λ (a : Areas). a.kernel) (c.size.ensures.untouched.areas tells)) (c.in_ok-filled.ensures.filled tells) in
    let many : there ≡ min (1048576 - from) (length area - (slot_at c.args.second + from)) = omega (arith, c.min-there.ensures, c.saturating_sub.ensures, c.in_ok-size.ensures.size tells, c.place.ensures) in
    let long : length c.deref_mut.result.now ≡ there = omega (arith, c.deref_mut.ensures.len, c.in-Ok.ensures.len) in
    let le : from ≤ 1048576 = omega (arith, c.requires.small) in
    let size : length slot ≡ from + there = slot_size c.args.second from there c.in_ok-filled.filled area c.deref_mut.result.now c.read_at.new.buf le has.inside many long filled in
    let whole : c.deref.result.now ≡ drop from slot = c.deref.ensures.value ∙ take_at c.read_at.new.buf _ _ (omega (arith, c.deref_mut.ensures.len)) ∙ journal_is c.args.second from there c.in_ok-filled.filled area c.deref_mut.result.now c.read_at.new.buf le has.inside many long filled in
    let all : replayed image (drop from slot) ≡ Some (c.replay.new.net, c.in-Ok-replay.ended.0) = ap (replayed image) (sym whole) ∙ c.in-Ok-replay.ensures.replayed in
    cut_journal slot n c.in-Ok-replay.ended.0 first image c.replay.new.net has all (omega (arith, c.if-end-there.false, size)) (omega (arith, c.if-there-room.true, size))

pub returns-clause-held : goal.returns-clause-held
returns-clause-held g c = λ tells.
    let area = (g.D.Disk.told c.args.disk.now).areas.kernel in
    let n = c.args.stored.len in
    let from = 4 + n in
    let there = c.min-there.result in
    let slot = slot_of c.args.second area in
    let first = c.args.stored.first_image in
    let image = c.args.stored.net in
    let has = c.requires.image tells in
    let filled = at_journal c.place.result (slot_at c.args.second) from area (g.D.Disk.told c.size.new.self).areas.kernel c.deref_mut.result.now c.read_at.new.buf c.in_ok-filled.filled
    c.place.ensures (ap (λ (a : Areas). a.kernel) (c.size.ensures.untouched.areas tells)) (c.in_ok-filled.ensures.filled tells) in
    let many : there ≡ min (1048576 - from) (length area - (slot_at c.args.second + from)) = omega (arith, c.min-there.ensures, c.saturating_sub.ensures, c.in_ok-size.ensures.size tells, c.place.ensures) in
    let long : length c.deref_mut.result.now ≡ there = omega (arith, c.deref_mut.ensures.len, c.in-Ok.ensures.len) in
    let le : from ≤ 1048576 = omega (arith, c.requires.small) in
    let size : length slot ≡ from + there = slot_size c.args.second from there c.in_ok-filled.filled area c.deref_mut.result.now c.read_at.new.buf le has.inside many long filled in
    let whole : c.deref.result.now ≡ drop from slot = c.deref.ensures.value ∙ take_at c.read_at.new.buf _ _ (omega (arith, c.deref_mut.ensures.len)) ∙ journal_is c.args.second from there c.in_ok-filled.filled area c.deref_mut.result.now c.read_at.new.buf le has.inside many long filled in
    let all : replayed image (drop from slot) ≡ Some (c.replay.new.net, c.in-Ok-replay.ended.0) = ap (replayed image) (sym whole) ∙ c.in-Ok-replay.ensures.replayed in
    journaled_held slot n first image has ∙ full_held first from c.in-Ok-replay.ended.0 slot image c.replay.new.net all (omega (arith, c.if-end-there.false, size)) (omega (arith, c.if-there-room.false, size, many, le))

-- ---- what is touched

pub returns-in_err-filled-clause-untouched : goal.returns-in_err-filled-clause-untouched
returns-in_err-filled-clause-untouched g c = untouched_twice g.D.Disk.tells (g.D.Disk.told c.args.disk.now) (g.D.Disk.told c.size.new.self) (g.D.Disk.told c.read_at.new.self) c.size.ensures.untouched c.read_at.ensures.untouched

pub returns-then-filled-there-clause-untouched : goal.returns-then-filled-there-clause-untouched
returns-then-filled-there-clause-untouched g c = untouched_twice g.D.Disk.tells (g.D.Disk.told c.args.disk.now) (g.D.Disk.told c.size.new.self) (g.D.Disk.told c.read_at.new.self) c.size.ensures.untouched c.read_at.ensures.untouched

pub returns-in-Err-Bad-clause-untouched : goal.returns-in-Err-Bad-clause-untouched
returns-in-Err-Bad-clause-untouched g c = untouched_twice g.D.Disk.tells (g.D.Disk.told c.args.disk.now) (g.D.Disk.told c.size.new.self) (g.D.Disk.told c.read_at.new.self) c.size.ensures.untouched c.read_at.ensures.untouched

pub returns-in-Err-OutOfMemory-clause-untouched : goal.returns-in-Err-OutOfMemory-clause-untouched
returns-in-Err-OutOfMemory-clause-untouched g c = untouched_twice g.D.Disk.tells (g.D.Disk.told c.args.disk.now) (g.D.Disk.told c.size.new.self) (g.D.Disk.told c.read_at.new.self) c.size.ensures.untouched c.read_at.ensures.untouched

pub returns-then-end-there-clause-untouched : goal.returns-then-end-there-clause-untouched
returns-then-end-there-clause-untouched g c = untouched_twice g.D.Disk.tells (g.D.Disk.told c.args.disk.now) (g.D.Disk.told c.size.new.self) (g.D.Disk.told c.read_at.new.self) c.size.ensures.untouched c.read_at.ensures.untouched

pub returns-then-there-room-clause-untouched : goal.returns-then-there-room-clause-untouched
returns-then-there-room-clause-untouched g c = untouched_twice g.D.Disk.tells (g.D.Disk.told c.args.disk.now) (g.D.Disk.told c.size.new.self) (g.D.Disk.told c.read_at.new.self) c.size.ensures.untouched c.read_at.ensures.untouched

pub returns-clause-untouched : goal.returns-clause-untouched
returns-clause-untouched g c = untouched_twice g.D.Disk.tells (g.D.Disk.told c.args.disk.now) (g.D.Disk.told c.size.new.self) (g.D.Disk.told c.read_at.new.self) c.size.ensures.untouched c.read_at.ensures.untouched

-- ---- the faults

pub returns-then-filled-there-clause-cause : goal.returns-then-filled-there-clause-cause
returns-then-filled-there-clause-cause g c = record { later = later_twice _ _ _ c.size.ensures.cause.later c.read_at.ensures.cause.later; failed = λ is. absurd (cc) }

pub returns-in-Err-Bad-clause-cause : goal.returns-in-Err-Bad-clause-cause
returns-in-Err-Bad-clause-cause g c = record { later = later_twice _ _ _ c.size.ensures.cause.later c.read_at.ensures.cause.later; failed = λ is. absurd (cc) }

pub returns-in-Err-OutOfMemory-clause-cause : goal.returns-in-Err-OutOfMemory-clause-cause
returns-in-Err-OutOfMemory-clause-cause g c = record { later = later_twice _ _ _ c.size.ensures.cause.later c.read_at.ensures.cause.later; failed = λ is. absurd (cc) }

pub returns-then-end-there-clause-cause : goal.returns-then-end-there-clause-cause
returns-then-end-there-clause-cause g c = record { later = later_twice _ _ _ c.size.ensures.cause.later c.read_at.ensures.cause.later; failed = λ is. absurd (cc) }

pub returns-then-there-room-clause-cause : goal.returns-then-there-room-clause-cause
returns-then-there-room-clause-cause g c = record { later = later_twice _ _ _ c.size.ensures.cause.later c.read_at.ensures.cause.later; failed = λ is. absurd (cc) }

pub returns-clause-cause : goal.returns-clause-cause
returns-clause-cause g c = record { later = later_twice _ _ _ c.size.ensures.cause.later c.read_at.ensures.cause.later; failed = λ is. absurd (cc) }

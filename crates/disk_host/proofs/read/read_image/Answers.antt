use Rattle.std.proofs.Common.{◌≡◌, ◌+◌, ◌^◌, ◌%◌, ◌<◌, ◌≤◌, ◌∙◌, leb, Bool, List, [], ◌∷◌, ℕ, length, Some, Err, refl, ap, sym, subst, arith}
use Rattle.std.proofs.lemmas.List.{take_at}
use Rattle.byteorder.specs.Endian.{big_number}
use Rattle.net_image.specs.Image.{net_of}
use Rattle.host_core.specs.DiskView.{Areas}
use Rattle.host_core.specs.Stops.{Stays}
use Rattle.host_core.proofs.lemmas.Moments.{follow}
use Rattle.host_core.specs.Bytes.{Filled}
use Rattle.call_journal.specs.Area.{HasImage, is_first, slot_at, slot_of}
use Rattle.disk_host.proofs.SlotReads.{too_short, too_long, cut_short, no_net, has_image}
use Rattle.disk_host.proofs.Twice.{untouched_twice, later_twice}
use Rattle.disk_host.proofs.read.read_image.Goals as goal
use Rattle.disk_host.proofs.read.read_image.Goals.{then-filled-lt4-via-then-filled-lt4, then-filled-lt4-via-else-filled-lt4+then-len-gt-LIMIT}

-- the read of the length, at the place of the slot
at_slot : (at place : ℕ) (area head : List ℕ) (many : ℕ) → at ≡ place → Filled at area (0 ∷ 0 ∷ 0 ∷ 0 ∷ []) head many → Filled place area (0 ∷ 0 ∷ 0 ∷ 0 ∷ []) head many
at_slot at place area head many is filled = subst (λ (k : ℕ). Filled k area (0 ∷ 0 ∷ 0 ∷ 0 ∷ []) head many) is filled

-- and of the image behind it
behind_length : (at place : ℕ) (area before buf image : List ℕ) (got : ℕ) → at ≡ place → before ≡ area → Filled (at + 4) before buf image got → Filled (place + 4) area buf image got
behind_length at place area before buf image got is same filled =
    subst (λ (l : List ℕ). Filled (place + 4) l buf image got) same (subst (λ (k : ℕ). Filled (k + 4) before buf image got) is filled)

pub returns-then-filled-lt4-clause-damaged : goal.returns-then-filled-lt4-clause-damaged
returns-then-filled-lt4-clause-damaged g c = λ tells is.
    let area = (g.D.Disk.told c.args.disk.now).areas.kernel in
    let head = c.read_at.new.buf in
    let filled = at_slot c.place-at.result (slot_at c.args.second) area head c.in_ok-filled.filled c.place-at.ensures (c.in_ok-filled.ensures.filled tells) in
    elim c.then-filled-lt4.branch [
      | then-filled-lt4-via-then-filled-lt4 w ↦ too_short c.args.second area head c.in_ok-filled.filled filled w.if-filled-lt4.true
      | then-filled-lt4-via-else-filled-lt4+then-len-gt-LIMIT w ↦
          too_long c.args.second area head c.in_ok-filled.filled filled (subst (λ (k : ℕ). 1048572 < k % 2 ^ 31) c.read_u32-number.ensures (omega (arith, w.if-len-gt-LIMIT.true)))
    ]

pub returns-then-filled-len-clause-damaged : goal.returns-then-filled-len-clause-damaged
returns-then-filled-len-clause-damaged g c = λ tells is.
    let area = (g.D.Disk.told c.args.disk.now).areas.kernel in
    let head = c.read_at.new.buf in
    let filled = at_slot c.place-at.result (slot_at c.args.second) area head c.in_ok-filled.filled c.place-at.ensures (c.in_ok-filled.ensures.filled tells) in
    let then = behind_length c.place-at.result (slot_at c.args.second) area (g.D.Disk.told c.read_at.new.self).areas.kernel c.deref_mut.result.now c.read_at-2.new.buf c.in_ok-filled-2.filled
    c.place-at.ensures (ap (λ (a : Areas). a.kernel) (c.read_at.ensures.untouched.areas tells)) (c.in_ok-filled-2.ensures.filled tells) in
    let n = big_number 4 head % 2 ^ 31 in
    let small : n ≤ 1048572 = subst (λ (k : ℕ). k % 2 ^ 31 ≤ 1048572) c.read_u32-number.ensures (omega (arith, c.if-len-gt-LIMIT.false)) in
    let long : length c.deref_mut.result.now ≡ n = subst (λ (k : ℕ). length c.deref_mut.result.now ≡ k % 2 ^ 31) c.read_u32-number.ensures (omega (arith, c.deref_mut.ensures.len, c.in-Ok.ensures.len)) in
    let short : c.in_ok-filled-2.filled < n = subst (λ (k : ℕ). c.in_ok-filled-2.filled < k % 2 ^ 31) c.read_u32-number.ensures (omega (arith, c.if-filled-len.true)) in
    cut_short c.args.second area head c.in_ok-filled.filled filled n refl small c.deref_mut.result.now c.read_at-2.new.buf c.in_ok-filled-2.filled long then short

pub returns-in-Ok-decode-clause-image : goal.returns-in-Ok-decode-clause-image
returns-in-Ok-decode-clause-image g c = λ tells.
    let area = (g.D.Disk.told c.args.disk.now).areas.kernel in
    let head = c.read_at.new.buf in
    let filled = at_slot c.place-at.result (slot_at c.args.second) area head c.in_ok-filled.filled c.place-at.ensures (c.in_ok-filled.ensures.filled tells) in
    let then = behind_length c.place-at.result (slot_at c.args.second) area (g.D.Disk.told c.read_at.new.self).areas.kernel c.deref_mut.result.now c.read_at-2.new.buf c.in_ok-filled-2.filled
    c.place-at.ensures (ap (λ (a : Areas). a.kernel) (c.read_at.ensures.untouched.areas tells)) (c.in_ok-filled-2.ensures.filled tells) in
    let n = big_number 4 head % 2 ^ 31 in
    let small : n ≤ 1048572 = subst (λ (k : ℕ). k % 2 ^ 31 ≤ 1048572) c.read_u32-number.ensures (omega (arith, c.if-len-gt-LIMIT.false)) in
    let long : length c.deref_mut.result.now ≡ n = subst (λ (k : ℕ). length c.deref_mut.result.now ≡ k % 2 ^ 31) c.read_u32-number.ensures (omega (arith, c.deref_mut.ensures.len, c.in-Ok.ensures.len)) in
    let enough : n ≤ c.in_ok-filled-2.filled = subst (λ (k : ℕ). k % 2 ^ 31 ≤ c.in_ok-filled-2.filled) c.read_u32-number.ensures (omega (arith, c.if-filled-len.false)) in
    let first : c.is_first-first_image.result ≡ is_first c.read_at-2.new.buf = c.is_first-first_image.ensures ∙ ap is_first (c.deref.ensures.value ∙ take_at c.read_at-2.new.buf _ _ (omega (arith, c.deref_mut.ensures.len))) in
    let found : net_of c.read_at-2.new.buf ≡ Some c.in-Ok-decode.net = ap net_of (sym (c.deref-2.ensures.value ∙ take_at c.read_at-2.new.buf _ _ (omega (arith, c.deref_mut.ensures.len)))) ∙ c.in-Ok-decode.ensures.net in
    let has = has_image c.args.second area head c.in_ok-filled.filled filled n refl small c.deref_mut.result.now c.read_at-2.new.buf c.in_ok-filled-2.filled long then (omega (arith, c.if-filled-lt4.false)) enough c.in-Ok-decode.net found in
    subst (λ (k : ℕ). HasImage (slot_of c.args.second area) (k % 2 ^ 31) (leb (2 ^ 31) k) c.is_first-first_image.result c.in-Ok-decode.net) (sym c.read_u32-number.ensures)
    (subst (λ (b : Bool). HasImage (slot_of c.args.second area) n (leb (2 ^ 31) (big_number 4 head)) b c.in-Ok-decode.net) (sym first) has)

pub returns-in-Ok-decode-clause-untouched : goal.returns-in-Ok-decode-clause-untouched
returns-in-Ok-decode-clause-untouched g c = record {
  areas = λ tells. c.read_at-2.ensures.untouched.areas tells ∙ c.read_at.ensures.untouched.areas tells;
  stops = follow Stays Stays Stays _ _ _ c.read_at.ensures.untouched.stops c.read_at-2.ensures.untouched.stops (λ r s left same. same) (λ q r s begin left a b. b ∙ a);
}

pub returns-in-Err-Damaged-clause-damaged : goal.returns-in-Err-Damaged-clause-damaged
returns-in-Err-Damaged-clause-damaged g c = λ tells is.
    let area = (g.D.Disk.told c.args.disk.now).areas.kernel in
    let head = c.read_at.new.buf in
    let filled = at_slot c.place-at.result (slot_at c.args.second) area head c.in_ok-filled.filled c.place-at.ensures (c.in_ok-filled.ensures.filled tells) in
    let then = behind_length c.place-at.result (slot_at c.args.second) area (g.D.Disk.told c.read_at.new.self).areas.kernel c.deref_mut.result.now c.read_at-2.new.buf c.in_ok-filled-2.filled
    c.place-at.ensures (ap (λ (a : Areas). a.kernel) (c.read_at.ensures.untouched.areas tells)) (c.in_ok-filled-2.ensures.filled tells) in
    let n = big_number 4 head % 2 ^ 31 in
    let small : n ≤ 1048572 = subst (λ (k : ℕ). k % 2 ^ 31 ≤ 1048572) c.read_u32-number.ensures (omega (arith, c.if-len-gt-LIMIT.false)) in
    let long : length c.deref_mut.result.now ≡ n = subst (λ (k : ℕ). length c.deref_mut.result.now ≡ k % 2 ^ 31) c.read_u32-number.ensures (omega (arith, c.deref_mut.ensures.len, c.in-Ok.ensures.len)) in
    let enough : n ≤ c.in_ok-filled-2.filled = subst (λ (k : ℕ). k % 2 ^ 31 ≤ c.in_ok-filled-2.filled) c.read_u32-number.ensures (omega (arith, c.if-filled-len.false)) in
    no_net c.args.second area head c.in_ok-filled.filled filled n refl small c.deref_mut.result.now c.read_at-2.new.buf c.in_ok-filled-2.filled long then enough
    (ap net_of (sym (c.deref-2.ensures.value ∙ take_at c.read_at-2.new.buf _ _ (omega (arith, c.deref_mut.ensures.len)))) ∙ c.in-Err-Damaged.ensures.damaged (ap (λ e. Err e) c.in-Err-Damaged.field-0-is))

-- ---- what is touched, and the faults

pub returns-in_err-filled-2-clause-untouched : goal.returns-in_err-filled-2-clause-untouched
returns-in_err-filled-2-clause-untouched g c = untouched_twice g.D.Disk.tells (g.D.Disk.told c.args.disk.now) (g.D.Disk.told c.read_at.new.self) (g.D.Disk.told c.read_at-2.new.self) c.read_at.ensures.untouched c.read_at-2.ensures.untouched

pub returns-then-filled-len-clause-untouched : goal.returns-then-filled-len-clause-untouched
returns-then-filled-len-clause-untouched g c = untouched_twice g.D.Disk.tells (g.D.Disk.told c.args.disk.now) (g.D.Disk.told c.read_at.new.self) (g.D.Disk.told c.read_at-2.new.self) c.read_at.ensures.untouched c.read_at-2.ensures.untouched

pub returns-in-Err-Damaged-clause-untouched : goal.returns-in-Err-Damaged-clause-untouched
returns-in-Err-Damaged-clause-untouched g c = untouched_twice g.D.Disk.tells (g.D.Disk.told c.args.disk.now) (g.D.Disk.told c.read_at.new.self) (g.D.Disk.told c.read_at-2.new.self) c.read_at.ensures.untouched c.read_at-2.ensures.untouched

pub returns-clause-untouched : goal.returns-clause-untouched
returns-clause-untouched g c = untouched_twice g.D.Disk.tells (g.D.Disk.told c.args.disk.now) (g.D.Disk.told c.read_at.new.self) (g.D.Disk.told c.read_at-2.new.self) c.read_at.ensures.untouched c.read_at-2.ensures.untouched

pub returns-then-filled-len-clause-cause : goal.returns-then-filled-len-clause-cause
returns-then-filled-len-clause-cause g c = record { later = later_twice _ _ _ c.read_at.ensures.cause.later c.read_at-2.ensures.cause.later; failed = λ is. absurd (cc) }

pub returns-in-Ok-decode-clause-cause : goal.returns-in-Ok-decode-clause-cause
returns-in-Ok-decode-clause-cause g c = record { later = later_twice _ _ _ c.read_at.ensures.cause.later c.read_at-2.ensures.cause.later; failed = λ is. absurd (cc) }

pub returns-in-Err-Damaged-clause-cause : goal.returns-in-Err-Damaged-clause-cause
returns-in-Err-Damaged-clause-cause g c = record { later = later_twice _ _ _ c.read_at.ensures.cause.later c.read_at-2.ensures.cause.later; failed = λ is. absurd (cc) }

pub returns-clause-cause : goal.returns-clause-cause
returns-clause-cause g c = record { later = later_twice _ _ _ c.read_at.ensures.cause.later c.read_at-2.ensures.cause.later; failed = λ is. absurd (cc) }

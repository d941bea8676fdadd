-- What one more event does to the record of a disk.
use Rattle.std.proofs.Common.{◌≡◌, ◌⊎◌, ◌≤◌, ◌+◌, inl, inr, ⊎_elim, ℕ, Bool, true, false, zero, suc, List, [], ◌∷◌, ◌++◌, length, reverse, refl, sym, ap, ◌∙◌, subst, arith}
use Rattle.std.specs.Prelude.{Result, Ok, Err, IsTrue, OnOk, OnErr}
use Rattle.std.proofs.lemmas.List.{reverse-append}
use Rattle.std.proofs.lemmas.Result.{on_ok_weaker}
use Rattle.host_core.specs.Bytes.{Torn}
use Rattle.host_core.specs.DiskView.{Areas, AreaTorn, area_of, other}
use Rattle.host_core.specs.Stops.{Steps, After, Stays, Keeps}
use Rattle.host_core.proofs.lemmas.Moments.{stays, weaken}
use Rattle.host_memory.specs.Fused.{IsEvent}
use Rattle.host_memory.proofs.lemmas.Torn.{torn_same}
use Rattle.case_outside.specs.declared.disk.DiskEvent.{DiskEvent}
use Rattle.case_outside.specs.declared.disk.DiskEvent.TheVariants.{Wrote, Synced, FailedSync}
use Rattle.case_outside.specs.DiskRecord.{undone, put_area, Left, LeftSince, stops_of, reads, IsRecorded, IsAsBefore, IsSyncTried}

wrote : (area at len : ℕ) (before : _) (events : List DiskEvent) (old new : Areas) → undone (Wrote area at len before) new ≡ old → AreaTorn area at len old new
    → Steps (AreaTorn area at len) (stops_of old events) (stops_of new (Wrote area at len before ∷ events))
wrote area at len before events old new was step = record {
  later = omega arith;
  now = leads;
  since = λ t s le left. ⊎_elim (λ now. inr (leads s now)) (λ then. inl (subst (λ (o : Areas). LeftSince t o events s) was then.1)) left;
  keeps = λ t s le left. inr (le, subst (λ (o : Areas). LeftSince t o events s) (sym was) left);
}
  where
    leads : (s : Areas) → Left new (Wrote area at len before ∷ events) s → After (stops_of old events) (AreaTorn area at len) s
    leads s (inl is) = (old, reads old events, subst (λ (n : Areas). AreaTorn area at len old n) (sym is) step)
    leads s (inr (r, left, later)) = (r, subst (λ (o : Areas). Left o events r) was left, later)

synced : (area : ℕ) (events : List DiskEvent) (now : Areas) → Steps Stays (stops_of now events) (stops_of now (Synced area ∷ events))
synced area events now = record {
  later = omega arith;
  now = λ s left. (s, left.0, refl);
  since = λ t s le left. ⊎_elim (λ now. inr (s, now.0, refl)) (λ then. inl then.1) left;
  keeps = λ t s le left. inr (le, left);
}

tried : (events : List DiskEvent) (now : Areas) → Steps Stays (stops_of now events) (stops_of now (FailedSync ∷ events))
tried events now = record {
  later = omega arith;
  now = λ s left. (s, left, refl);
  since = λ t s le left. ⊎_elim (λ now. inr (s, now, refl)) (λ then. inl then.1) left;
  keeps = λ t s le left. inr (le, left);
}

newest : (before after : List DiskEvent) (event : DiskEvent) → after ≡ before ++ event ∷ [] → reverse after ≡ event ∷ reverse before
newest before after event is = ap reverse is ∙ reverse-append before (event ∷ [])

put_back : (area : ℕ) (bytes : List ℕ) (old new : Areas) → bytes ≡ area_of area old → other area new ≡ other area old → put_area area bytes new ≡ old
put_back zero bytes old new is same = λ i. record { kernel = is i; cell = same i }
put_back (suc n) bytes old new is same = λ i. record { kernel = same i; cell = is i }

unmoved : (area : ℕ) (old new : Areas) → area_of area new ≡ area_of area old → other area new ≡ other area old → new ≡ old
unmoved zero old new is same = λ i. record { kernel = is i; cell = same i }
unmoved (suc n) old new is same = λ i. record { kernel = same i; cell = is i }

-- a write, recorded or not, is a step that may tear its range
pub write_pushed : (area at len : ℕ) (before after : List DiskEvent) (old new : Areas)
    → IsRecorded area at len (area_of area old) before after ⊎ IsAsBefore (area_of area old) (area_of area new) before after
    → other area new ≡ other area old → Torn at len (area_of area old) (area_of area new)
    → Steps (AreaTorn area at len) (stops_of old (reverse before)) (stops_of new (reverse after))
write_pushed area at len before after old new (inl rec) same torn =
    subst (λ (l : List DiskEvent). Steps (AreaTorn area at len) (stops_of old (reverse before)) (stops_of new l)) (sym (newest before after (Wrote area at len rec.before) rec.pushed))
    (wrote area at len rec.before (reverse before) old new (put_back area rec.before.items old new rec.items same) (record { torn = torn; same = same }))
write_pushed area at len before after old new (inr kept) same torn =
    subst (λ (l : List DiskEvent). Steps (AreaTorn area at len) (stops_of old (reverse before)) (stops_of new (reverse l))) (sym kept.events)
    (subst (λ (n : Areas). Steps (AreaTorn area at len) (stops_of old (reverse before)) (stops_of n (reverse before))) (sym (unmoved area old new kept.bytes same))
    (weaken Stays (AreaTorn area at len) (stops_of old (reverse before)) (stops_of old (reverse before)) (stays (stops_of old (reverse before)))
    (λ r s left is. record { torn = subst (λ (n : Areas). Torn at len (area_of area r) (area_of area n)) (sym is) (torn_same at len (area_of area r)); same = ap (λ (n : Areas). other area n) is })))

pub kernel_pushed : (area at len : ℕ) (before after : List DiskEvent) (old new : Areas) → area ≡ 0
    → IsRecorded area at len old.kernel before after ⊎ IsAsBefore old.kernel new.kernel before after → new.cell ≡ old.cell → Torn at len old.kernel new.kernel
    → Steps (AreaTorn area at len) (stops_of old (reverse before)) (stops_of new (reverse after))
kernel_pushed zero at len before after old new is record_is same torn = write_pushed zero at len before after old new record_is same torn
kernel_pushed (suc n) at len before after old new is record_is same torn = absurd (omega (arith, is))

pub cell_pushed : (area at len : ℕ) (before after : List DiskEvent) (old new : Areas) → (area ≡ 0 → ⊥)
    → IsRecorded area at len old.cell before after ⊎ IsAsBefore old.cell new.cell before after → new.kernel ≡ old.kernel → Torn at len old.cell new.cell
    → Steps (AreaTorn area at len) (stops_of old (reverse before)) (stops_of new (reverse after))
cell_pushed zero at len before after old new is record_is same torn = absurd (is refl)
cell_pushed (suc n) at len before after old new is record_is same torn = write_pushed (suc n) at len before after old new record_is same torn

-- a sync, recorded or not, leaves no more than before
pub sync_pushed : (area : ℕ) (done : Bool) (before after : List DiskEvent) (now : Areas) → IsSyncTried area done before after
    → Steps Stays (stops_of now (reverse before)) (stops_of now (reverse after))
sync_pushed area true before after now is =
    subst (λ (l : List DiskEvent). Steps Stays (stops_of now (reverse before)) (stops_of now l)) (sym (newest before after (Synced area) is)) (synced area (reverse before) now)
sync_pushed area false before after now (inl is) = subst (λ (l : List DiskEvent). Steps Stays (stops_of now (reverse before)) (stops_of now (reverse l))) (sym is) (stays (stops_of now (reverse before)))
sync_pushed area false before after now (inr is) =
    subst (λ (l : List DiskEvent). Steps Stays (stops_of now (reverse before)) (stops_of now l)) (sym (newest before after FailedSync is)) (tried (reverse before) now)

-- one that failed leaves no less either
pub sync_kept : (area : ℕ) (before after : List DiskEvent) (now : Areas) → IsSyncTried area false before after
    → Keeps (stops_of now (reverse before)) (stops_of now (reverse after))
sync_kept area before after now (inl is) s left = subst (λ (l : List DiskEvent). Left now (reverse l) s) (sym is) left
sync_kept area before after now (inr is) s left = subst (λ (l : List DiskEvent). Left now l s) (sym (newest before after FailedSync is)) left

pub sync_sure : (area : ℕ) (before after : List DiskEvent) (now : Areas) → after ≡ before ++ Synced area ∷ []
    → (s : Areas) → Left now (reverse after) s → area_of area s ≡ area_of area now
sync_sure area before after now is s left = (subst (λ (l : List DiskEvent). Left now l s) (newest before after (Synced area) is) left).1

not_done : IsTrue false → ⊥
not_done is = cc

one_event : (before after : List DiskEvent) (event : DiskEvent) → after ≡ before ++ event ∷ [] → length (reverse after) ≡ length (reverse before) + 1
one_event before after event is =
    let all : length (reverse after) ≡ length (event ∷ reverse before) = ap length (newest before after event is) in
    omega (arith, all)

no_event : (before after : List DiskEvent) → after ≡ before → length (reverse after) ≡ length (reverse before)
no_event before after is = ap (λ (l : List DiskEvent). length (reverse l)) is

-- a write is one event, also where it failed, unless memory was refused
pub write_event : {T E : Type 0} (result : Result T E) (done : Bool) (area at len : ℕ) (was held : List ℕ) (before after : List DiskEvent) (old new : Areas)
    → OnOk result (IsTrue done) → (IsTrue done → IsRecorded area at len was before after) → IsRecorded area at len was before after ⊎ IsAsBefore was held before after
    → IsEvent result (stops_of old (reverse before)) (stops_of new (reverse after))
write_event result done area at len was held before after old new ok recorded either = record {
  one = on_ok_weaker result (λ (is : IsTrue done). one_event before after _ (recorded is).pushed) ok;
  at_most = most either;
}
  where
    most : IsRecorded area at len was before after ⊎ IsAsBefore was held before after → length (reverse after) ≤ length (reverse before) + 1
    most (inl rec) = let is = one_event before after _ rec.pushed in omega (arith, is)
    most (inr kept) = let is = no_event before after kept.events in omega (arith, is)

-- and so is a sync
pub sync_event : {T E : Type 0} (result : Result T E) (area : ℕ) (done : Bool) (before after : List DiskEvent) (now : Areas)
    → OnOk result (IsTrue done) → IsSyncTried area done before after
    → IsEvent result (stops_of now (reverse before)) (stops_of now (reverse after))
sync_event result area true before after now ok tried =
    let is = one_event before after (Synced area) tried in
    record { one = on_ok_weaker result (λ (done : IsTrue true). is) ok; at_most = omega (arith, is) }
sync_event result area false before after now ok tried = record { one = on_ok_weaker result (λ (done : IsTrue false). absurd (not_done done)) ok; at_most = most tried }
  where
    most : IsSyncTried area false before after → length (reverse after) ≤ length (reverse before) + 1
    most (inl is) = let same = no_event before after is in omega (arith, same)
    most (inr is) = let more = one_event before after FailedSync is in omega (arith, more)

not_both : {T E : Type 0} (result : Result T E) (error : E) (value : T) → result ≡ Err error → result ≡ Ok value → ⊥
not_both result error value failed ok = cc

-- what a stop may leave stays as it was where the sync is answered as failed
pub sync_keeps : {T E : Type 0} (value : T) (result : Result T E) (area : ℕ) (done : Bool) (before after : List DiskEvent) (now : Areas)
    → (IsTrue done → result ≡ Ok value) → IsSyncTried area done before after
    → OnErr result (Keeps (stops_of now (reverse before)) (stops_of now (reverse after)))
sync_keeps value (Ok _) area done before after now ok tried = tt
sync_keeps value (Err error) area true before after now ok tried = absurd (not_both (Err error) error value refl (ok refl))
sync_keeps value (Err error) area false before after now ok tried = sync_kept area before after now tried

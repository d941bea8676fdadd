-- What a disk in memory may leave, by the record of what was done to it.
use Rattle.std.specs.Prelude.{◌≡◌, ◌⊎◌, ◌≤◌, ◌<◌, ℕ, Bool, true, false, zero, suc, List, [], ◌∷◌, ◌++◌, length, refl, Vec, ⊤}
use Rattle.std.specs.Coded.{×_prop, Unit-prop, le_prop}
use Rattle.std.specs.declared.alloc.Global.{Global}
use Rattle.std.proofs.Common.{inl, inr, arith}
use Rattle.host_core.specs.Bytes.{Torn}
use Rattle.host_core.specs.DiskView.{Areas, AreaTorn, area_of}
use Rattle.host_core.specs.Stops.{Stops, IsLawful}
use Rattle.host_memory.specs.Touches.{Torn-prop}
use Rattle.case_outside.specs.declared.disk.DiskEvent.{DiskEvent}
use Rattle.case_outside.specs.declared.disk.DiskEvent.TheVariants.{Wrote, Synced, FailedSync}

-- the areas, of which one has other bytes
abbrev pub put_area : ℕ → List ℕ → Areas → Areas
put_area zero bytes areas = record areas { kernel = bytes }
put_area (suc n) bytes areas = record areas { cell = bytes }

-- the areas before the event
abbrev pub undone : DiskEvent → Areas → Areas
undone (Wrote area at len before) now = put_area area before.items now
undone (Synced area) now = now
undone FailedSync now = now

-- Each write and each sync that succeeded is of area 0 or 1, and each write led from what was there before it to what was there after it, torn at most.
abbrev pub IsConsistent : Areas → List DiskEvent → Type 0
IsConsistent now [] = ⊤
IsConsistent now (Wrote area at len before ∷ events) = (area < 2) × (Torn at len before.items (area_of area now) × IsConsistent (undone (Wrote area at len before) now) events)
IsConsistent now (Synced area ∷ events) = (area < 2) × IsConsistent now events
IsConsistent now (FailedSync ∷ events) = IsConsistent now events

-- it has one proof at most, as a type asks of what it keeps
pub IsConsistent-prop : (now : Areas) (events : List DiskEvent) → IsProp (IsConsistent now events)
IsConsistent-prop now [] = Unit-prop
IsConsistent-prop now (Wrote area at len before ∷ events) =
    ×_prop le_prop (×_prop (Torn-prop at len before.items (area_of area now)) (IsConsistent-prop (undone (Wrote area at len before) now) events))
IsConsistent-prop now (Synced area ∷ events) = ×_prop le_prop (IsConsistent-prop now events)
IsConsistent-prop now (FailedSync ∷ events) = IsConsistent-prop now events

-- What a stop may leave after these events, the newest of them first: as it reads, or what was left before, torn by the
-- write; after a sync what was left before and has the area as it reads, and after one that failed what was left before.
abbrev pub Left : Areas → List DiskEvent → Areas → Type 0
Left now [] s = s ≡ now
Left now (Wrote area at len before ∷ events) s = (s ≡ now) ⊎ ((r : Areas) × Left (undone (Wrote area at len before) now) events r × AreaTorn area at len r s)
Left now (Synced area ∷ events) s = Left now events s × (area_of area s ≡ area_of area now)
Left now (FailedSync ∷ events) s = Left now events s

-- what a stop after so many events or more might have left
abbrev pub LeftSince : ℕ → Areas → List DiskEvent → Areas → Type 0
LeftSince t now [] s = Left now [] s
LeftSince t now (event ∷ events) s = Left now (event ∷ events) s ⊎ ((t ≤ length events) × LeftSince t (undone event now) events s)

-- a moment is the number of events before it
abbrev pub stops_of : Areas → List DiskEvent → Stops Areas
stops_of now events = record { moment = length events; may_leave = Left now events; left_since = λ t s. LeftSince t now events s }

pub reads : (now : Areas) (events : List DiskEvent) → Left now events now
reads now [] = refl
reads now (Wrote area at len before ∷ events) = inl refl
reads now (Synced area ∷ events) = (reads now events, refl)
reads now (FailedSync ∷ events) = reads now events

counts : (now : Areas) (events : List DiskEvent) (t : ℕ) (s : Areas) → t ≤ length events → Left now events s → LeftSince t now events s
counts now [] t s le left = left
counts now (event ∷ events) t s le left = inl left

only : (now : Areas) (events : List DiskEvent) (s : Areas) → LeftSince (length events) now events s → Left now events s
only now [] s left = left
only now (event ∷ events) s (inl left) = left
only now (event ∷ events) s (inr (le, left)) = absurd (omega arith)

pub lawful : (now : Areas) (events : List DiskEvent) → IsLawful (stops_of now events)
lawful now events = record { counts_now = counts now events; only_now = only now events }

-- ---- what calls do to the record

-- a write is put behind the events, with what was there before it
pub record IsRecorded (area at len : ℕ) (was : List ℕ) (old new : List DiskEvent) : Type 0 where
  pub before : Vec ℕ Global
  pub items : before.items ≡ was
  pub pushed : new ≡ old ++ Wrote area at len before ∷ []

-- the bytes and the record are as they were
pub record IsAsBefore (was now : List ℕ) (old new : List DiskEvent) : Type 0 where
  pub bytes : now ≡ was
  pub events : new ≡ old

-- a sync is put behind the events, as one that succeeded or as one that failed; of one that failed nothing may be recorded
abbrev pub IsSyncTried : ℕ → Bool → List DiskEvent → List DiskEvent → Type 0
IsSyncTried area true old new = new ≡ old ++ Synced area ∷ []
IsSyncTried area false old new = (new ≡ old) ⊎ (new ≡ old ++ FailedSync ∷ [])

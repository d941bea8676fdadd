-- What a disk tells of its single calls, each of which may do a part of what it was asked.
use Rattle.std.specs.Prelude.{◌≡◌, ◌≤◌, ℕ, min, List, ◌++◌, length, take, drop}
use Rattle.host_core.specs.Bytes.{Written}
use Rattle.host_core.specs.DiskView.{Areas, DiskView, IsLawfulDisk, area_of, other}
use Rattle.host_core.specs.Stops.{Stops, IsLawful}

pub record RawView : Type 1 where
  -- what reads give
  pub areas : Areas
  -- what stops leave of both areas together
  pub stops : Stops Areas

-- the same with a count of faults
abbrev pub counted : RawView → ℕ → DiskView
counted raw faults = record { areas = raw.areas; stops = raw.stops; faults = faults }

-- A read from a place on gives some bytes of the area, at most as many as there are and as there is room for; and none
-- only where there are none or there is no room.
pub record ReadsPart (at : ℕ) (area old new : List ℕ) (n : ℕ) : Type 0 where
  pub few : n ≤ min (length old) (length (drop at area))
  pub bytes : new ≡ take n (drop at area) ++ drop n old
  pub some : n ≡ 0 → min (length old) (length (drop at area)) ≡ 0

-- the first n bytes were written to one area
pub record WritesPart (a at n : ℕ) (bytes : List ℕ) (old new : Areas) : Type 0 where
  pub written : Written at (take n bytes) (area_of a old) (area_of a new)
  pub same : other a new ≡ other a old

-- no byte of the area is in doubt: each stop leaves these
abbrev pub Has : ℕ → List ℕ → RawView → Type 0
Has a bytes raw = (s : Areas) → raw.stops.may_leave s → area_of a s ≡ bytes

-- what each of them keeps to
pub record IsLawfulRaw (tells : Type 0) (raw : RawView) : Type 0 where
  pub stops : IsLawful raw.stops
  -- as it reads, it may be left
  pub reads : tells → raw.stops.may_leave raw.areas

-- with a count it is a disk
abbrev pub lawful_disk : (tells : Type 0) (raw : RawView) (faults : ℕ) → IsLawfulRaw tells raw → IsLawfulDisk tells (counted raw faults)
lawful_disk tells raw faults lawful = record { stops = lawful.stops; reads = lawful.reads }

-- What a disk tells.
use Rattle.std.specs.Prelude.{◌≡◌, ℕ, zero, suc, List}
use Rattle.host_core.specs.Bytes.{Torn}
use Rattle.host_core.specs.Stops.{Stops, Steps, Stays, IsLawful}

-- the bytes of both areas
pub record Areas : Type 0 where
  pub kernel : List ℕ
  pub cell : List ℕ

-- the area of this number, 0 or 1
abbrev pub area_of : ℕ → Areas → List ℕ
area_of zero areas = areas.kernel
area_of (suc n) areas = areas.cell

-- the area that isn't this one
abbrev pub other : ℕ → Areas → List ℕ
other zero areas = areas.cell
other (suc n) areas = areas.kernel

pub record DiskView : Type 1 where
  -- what reads give
  pub areas : Areas
  -- what stops leave of both areas together
  pub stops : Stops Areas
  pub faults : ℕ

-- a write to one area, whole or torn
pub record AreaTorn (a at n : ℕ) (old new : Areas) : Type 0 where
  pub torn : Torn at n (area_of a old) (area_of a new)
  pub same : other a new ≡ other a old

-- no byte of the area is in doubt: each stop leaves these
abbrev pub HasArea : ℕ → List ℕ → DiskView → Type 0
HasArea a bytes disk = (s : Areas) → disk.stops.may_leave s → area_of a s ≡ bytes

-- What every disk keeps to. One that tells nothing of content may say that no stop leaves anything.
pub record IsLawfulDisk (tells : Type 0) (disk : DiskView) : Type 0 where
  pub stops : IsLawful disk.stops
  -- as it reads, it may be left
  pub reads : tells → disk.stops.may_leave disk.areas

-- nothing is touched, and no stop may leave more than before
pub record Untouched (tells : Type 0) (old new : DiskView) : Type 0 where
  pub areas : tells → new.areas ≡ old.areas
  pub stops : Steps Stays old.stops new.stops

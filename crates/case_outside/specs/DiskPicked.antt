-- A disk in memory after a stop.
use Rattle.std.specs.Prelude.{ℕ, map, take, drop, reverse}
use Rattle.host_core.specs.DiskView.{Areas}
use Rattle.host_core.specs.Stops.{Stops}
use Rattle.host_memory.specs.Touches.{undone, bytes_stopped}
use Rattle.case_outside.specs.DiskRecord.{stops_of}
use Rattle.case_outside.specs.DiskStopped.{touch_of}
use Rattle.case_outside.specs.declared.disk.MemoryDisk.{MemoryDisk}

-- the areas after a stop behind so many events
abbrev pub areas_stopped : ℕ → ℕ → MemoryDisk → Areas
areas_stopped after pick m = record {
  kernel = bytes_stopped (touch_of 0) after pick m.kernel.items m.events.items;
  cell = bytes_stopped (touch_of 1) after pick m.cell.items m.events.items;
}

-- the areas as they read behind so many events
abbrev pub areas_then : ℕ → MemoryDisk → Areas
areas_then after m = record {
  kernel = undone m.kernel.items (map (touch_of 0) (reverse (drop after m.events.items)));
  cell = undone m.cell.items (map (touch_of 1) (reverse (drop after m.events.items)));
}

-- what the disk told of stops at that moment
abbrev pub stops_then : ℕ → MemoryDisk → Stops Areas
stops_then after m = stops_of (areas_then after m) (reverse (take after m.events.items))

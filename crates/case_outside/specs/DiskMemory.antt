-- What a disk in memory tells.
use Rattle.std.specs.Prelude.{reverse}
use Rattle.host_core.specs.DiskView.{Areas, DiskView, IsLawfulDisk}
use Rattle.case_outside.specs.DiskRecord.{stops_of, lawful, reads}
use Rattle.host_memory.specs.Fused.{HasNoFuse}
use Rattle.case_outside.specs.declared.disk.MemoryDisk.{MemoryDisk}

abbrev pub areas_of : MemoryDisk → Areas
areas_of m = record { kernel = m.kernel.items; cell = m.cell.items }

abbrev pub disk_told : MemoryDisk → DiskView
disk_told m = record { areas = areas_of m; stops = stops_of (areas_of m) (reverse m.events.items); faults = m.faults }

pub lawful_disk : (m : MemoryDisk) → IsLawfulDisk (Unit {0}) (disk_told m)
lawful_disk m = record { stops = lawful (areas_of m) (reverse m.events.items); reads = λ tells. reads (areas_of m) (reverse m.events.items) }

-- no call of the disk is to fail
abbrev pub IsUnfused : MemoryDisk → Type 0
IsUnfused m = HasNoFuse m.fuses

-- What is picked of what a stop leaves of a disk in memory.
use Rattle.std.specs.Prelude.{ℕ, ◌==◌, if◌then◌else◌}
use Rattle.host_memory.specs.Touches.{Touch, Writes, Syncs, Spares}
use Rattle.case_outside.specs.declared.disk.DiskEvent.{DiskEvent}
use Rattle.case_outside.specs.declared.disk.DiskEvent.TheVariants.{Wrote, Synced, FailedSync}

-- the event as an area sees it
abbrev pub touch_of : ℕ → DiskEvent → Touch
touch_of a (Wrote area at len before) = if area == a then Writes at len before.items else Spares
touch_of a (Synced area) = if area == a then Syncs else Spares
touch_of a FailedSync = Spares

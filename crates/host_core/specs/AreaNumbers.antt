-- The numbers of a disk's areas.
use Rattle.std.specs.Prelude.{ℕ}
use Rattle.host_core.specs.declared.area.Area.{Area}
use Rattle.host_core.specs.declared.area.Area.TheVariants.{Kernel, Checkpoint}

abbrev pub area_number : Area → ℕ
area_number Kernel = 0
area_number Checkpoint = 1

-- The numbers that are drawn for the devices of a workload.
use Rattle.std.specs.Prelude.{ℕ, zero, suc, ◌+◌, ◌-◌, ◌*◌, ◌%◌, List, map}
use Rattle.std.specs.List.{range_with_len}
use Rattle.scenario_model.specs.declared.device.Device.{Device}
use Rattle.scenario_model.specs.declared.device.TheConstants.{DRAW_MODULUS, DRAW_FACTOR, DRAW_STEP, VLAN_IDS, METRICS}

-- the draw behind this one
abbrev pub next_draw : ℕ → ℕ
next_draw x = (DRAW_FACTOR * x + DRAW_STEP) % DRAW_MODULUS

-- the draw of this number, from 1; before the first of them stands what the seed gives
abbrev pub draw : ℕ → ℕ → ℕ
draw seed zero = seed % DRAW_MODULUS
draw seed (suc k) = next_draw (draw seed k)

-- The device of this number, from 1. Two draws are its own, the first of them for the VLAN id and the second for the metric.
abbrev pub device : ℕ → ℕ → Device
device seed i = record { number = i; id = draw seed (2 * i - 1) % VLAN_IDS; metric = draw seed (2 * i) % METRICS }

-- so many devices, in order
abbrev pub devices : ℕ → ℕ → List Device
devices seed n = map (device seed) (range_with_len 1 n)

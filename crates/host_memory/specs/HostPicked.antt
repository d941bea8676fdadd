-- A host in memory after a stop.
use Rattle.std.specs.Prelude.{ℕ, map, take, drop, reverse}
use Rattle.host_core.specs.HostView.{State}
use Rattle.host_core.specs.Stops.{Stops}
use Rattle.host_memory.specs.Touches.{undone, bytes_stopped}
use Rattle.host_memory.specs.HostRecord.{stops_of}
use Rattle.host_memory.specs.HostStopped.{touch_of, net_before}
use Rattle.host_memory.specs.declared.host.MemoryHost.{MemoryHost}

-- the network and the checkpoint area after a stop behind so many events
abbrev pub state_stopped : ℕ → ℕ → MemoryHost → State
state_stopped after pick m = record {
  net = net_before m.net (reverse (drop after m.events.items));
  cell = bytes_stopped (touch_of 0) after pick m.cell.items m.events.items;
}

-- the network and the checkpoint area as they read behind so many events
abbrev pub state_then : ℕ → MemoryHost → State
state_then after m = record {
  net = net_before m.net (reverse (drop after m.events.items));
  cell = undone m.cell.items (map (touch_of 0) (reverse (drop after m.events.items)));
}

-- what the host told of stops at that moment
abbrev pub stops_then : ℕ → MemoryHost → Stops State
stops_then after m = stops_of (state_then after m) (reverse (take after m.events.items))

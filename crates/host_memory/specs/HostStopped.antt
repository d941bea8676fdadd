-- What is picked of what a stop leaves of a host in memory.
use Rattle.std.specs.Prelude.{ℕ, List, [], ◌∷◌, Option}
use Rattle.net_model.specs.NetData.{NetData}
use Rattle.host_memory.specs.Touches.{Touch, Writes, Syncs, Spares}
use Rattle.host_memory.specs.declared.record.HostEvent.{HostEvent}
use Rattle.host_memory.specs.declared.record.HostEvent.TheVariants.{Changed, Wrote, Synced, FailedSync}

-- the event as the checkpoint area sees it
abbrev pub touch_of : ℕ → HostEvent → Touch
touch_of a (Changed before) = Spares
touch_of a (Wrote at len before) = Writes at len before.items
touch_of a Synced = Syncs
touch_of a FailedSync = Spares

-- the network before these events, the newest of them first
abbrev pub net_before : Option NetData → List HostEvent → Option NetData
net_before now [] = now
net_before now (Changed before ∷ events) = net_before before events
net_before now (Wrote at len before ∷ events) = net_before now events
net_before now (Synced ∷ events) = net_before now events
net_before now (FailedSync ∷ events) = net_before now events

-- What a making of the first network does to a host in memory.
use Rattle.std.specs.Prelude.{◌≡◌, List, Some, None, map, reverse}
use Rattle.net_model.specs.NetData.{NetData}
use Rattle.host_core.specs.HostView.{State, Storing, MaybeMade}
use Rattle.host_core.specs.Stops.{Steps}
use Rattle.host_memory.specs.declared.record.HostEvent.{HostEvent}
use Rattle.host_memory.specs.HostRecord.{Left, stops_of}
use Rattle.host_memory.specs.HostStopped.{touch_of}
use Rattle.host_memory.specs.Touches.{IsTouched}

-- There was no network, and the first one was stored behind a closed checkpoint: what a stop leaves at each moment of it and
-- behind it.
pub record Makes (first : NetData) (old new : State) (before after : List HostEvent) : Type 0 where
  pub none : old.net ≡ None
  pub net : new.net ≡ Some first
  pub stops : Steps (MaybeMade first) (stops_of old (reverse before)) (stops_of new (reverse after))
  pub storing : Storing first old new
  pub sure : (s : State) → Left new (reverse after) s → s.cell ≡ new.cell
  pub consistent : IsTouched old.cell (map (touch_of 0) (reverse before)) → IsTouched new.cell (map (touch_of 0) (reverse after))

-- the host and its record are as they were
pub record IsUnmade (old new : State) (before after : List HostEvent) : Type 0 where
  pub net : new.net ≡ old.net
  pub cell : new.cell ≡ old.cell
  pub events : after ≡ before

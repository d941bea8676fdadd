-- What storing the network after a kernel call comes to, by what the writes came to.
use Rattle.std.proofs.Common.{◌≡◌, ◌≤◌, inl, inr, Some, Ok, Err, refl, ap, arith}
use Rattle.net_model.specs.declared.call.Call.{Call}
use Rattle.host_core.specs.DiskView.{Areas, DiskView, HasArea}
use Rattle.host_core.specs.Faults.{Rose}
use Rattle.host_core.specs.Stops.{Steps, Stays}
use Rattle.host_core.proofs.lemmas.Moments.{stays, weaken}
use Rattle.call_journal.specs.Area.{kernel_net}
use Rattle.disk_host.specs.Slots.{MaybeStored, KeepsCell}
use Rattle.disk_host.specs.Kept.{IsKept}
use Rattle.disk_host.specs.Writes.{Writes}
use Rattle.disk_host.specs.Stored.{Stores}
use Rattle.disk_host.specs.declared.kept.Kept.{Kept}
use Rattle.disk_host.specs.declared.changing.Missed.TheVariants.{Failed, OutOfMemory}

-- memory was refused before the first write
pub unwritten : (tells : Type 0) (call : Call) (was : Kept) (disk : DiskView) → Stores tells call was disk disk (Err OutOfMemory)
unwritten tells call was disk = record {
  kept = λ t. tt;
  net = tt;
  sure = tt;
  writes = tt;
  maybe = λ t. record { cell = refl; net = inl refl };
  missed = inr refl;
  same = λ is. (λ t. refl, stays disk.stops);
  stops = λ t. weaken Stays (MaybeStored (Some was.net)) disk.stops disk.stops (stays disk.stops)
      (λ r s left same. record { cell = ap (λ (a : Areas). a.cell) same; net = inl (ap (λ (a : Areas). kernel_net a.kernel) same) });
  stops_cell = weaken Stays KeepsCell disk.stops disk.stops (stays disk.stops) (λ r s left same. ap (λ (a : Areas). a.cell) same);
  cause = record { later = omega arith; failed = λ is. absurd (cc) };
}

module _ (tells : Type 0) (call : Call) (was : Kept) (old new : DiskView) (maybe : tells → MaybeStored (Some was.net) old.areas new.areas)
    (stops : tells → Steps (MaybeStored (Some was.net)) old.stops new.stops) (stops_cell : Steps KeepsCell old.stops new.stops) (later : old.faults ≤ new.faults) where
  -- a write failed
  pub unstored : Rose old.faults new.faults → Stores tells call was old new (Err Failed)
  unstored rose = record {
    kept = λ t. tt;
    net = tt;
    sure = tt;
    writes = tt;
    maybe = maybe;
    missed = inl refl;
    same = λ is. absurd (cc);
    stops = stops;
    stops_cell = stops_cell;
    cause = record { later = later; failed = λ is. rose };
  }

  -- all was written
  pub stored : (after : Kept) → (tells → IsKept after new.areas.kernel) → after.net ≡ was.net → (tells → HasArea 0 new.areas.kernel new)
      → (tells → Writes call old.areas.kernel new.areas.kernel) → Stores tells call was old new (Ok after)
  stored after kept net sure writes = record {
    kept = kept;
    net = net;
    sure = sure;
    writes = writes;
    maybe = maybe;
    missed = tt;
    same = λ is. absurd (cc);
    stops = stops;
    stops_cell = stops_cell;
    cause = record { later = later; failed = λ is. absurd (cc) };
  }

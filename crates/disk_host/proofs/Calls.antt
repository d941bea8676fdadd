-- What a stop inside a kernel call leaves.
use Rattle.std.proofs.Common.{◌≡◌, inl, inr, ⊎_elim, sym, ap, ◌∙◌, subst, Option, Some, Ok}
use Rattle.net_model.specs.NetData.{NetData}
use Rattle.net_model.specs.declared.call.Call.{Call}
use Rattle.kernel_model.specs.Kernel.{step}
use Rattle.host_core.specs.DiskView.{Areas, DiskView, HasArea}
use Rattle.host_core.specs.HostView.{Accepts}
use Rattle.host_core.specs.Stops.{Stops, Steps, Stays}
use Rattle.host_core.proofs.lemmas.Moments.{follow}
use Rattle.call_journal.specs.Area.{kernel_net}
use Rattle.disk_host.specs.Slots.{MaybeStored, AreasCalled, KeepsCell}

module _ (call : Call) (from after : NetData) (accepts : step call from ≡ Ok after) where
  pub stored_called : (r s : Areas) → kernel_net r.kernel ≡ Some from → MaybeStored (Some after) r s → AreasCalled call r s
  stored_called r s was stored = record {
    cell = stored.cell;
    net = ⊎_elim (λ same. inl same)
        (λ new. inr (subst (λ (n : Option NetData). Accepts call n (kernel_net s.kernel)) (sym was) (record { next = after; stepped = accepts; becomes = new }))) stored.net;
  }

  pub changing : (old mid : DiskView) (new : Stops Areas) → HasArea 0 old.areas.kernel old → kernel_net old.areas.kernel ≡ Some from
      → Steps Stays old.stops mid.stops → Steps (MaybeStored (Some after)) mid.stops new → Steps (AreasCalled call) old.stops new
  changing old mid new sure was read two =
      follow Stays (MaybeStored (Some after)) (AreasCalled call) old.stops mid.stops new read two
      (λ r s left same. record { cell = ap (λ (a : Areas). a.cell) same; net = inl (ap (λ (a : Areas). kernel_net a.kernel) same) })
      (λ q r s begin left same stored. subst (λ (p : Areas). AreasCalled call p s) same
      (stored_called r s (ap (λ (a : Areas). kernel_net a.kernel) same ∙ ap kernel_net (sure q begin) ∙ was) stored))

pub cell_kept : (old mid new : Stops Areas) → Steps Stays old mid → Steps KeepsCell mid new → Steps KeepsCell old new
cell_kept old mid new one two =
    follow Stays KeepsCell KeepsCell old mid new one two
    (λ r s left same. ap (λ (a : Areas). a.cell) same)
    (λ q r s begin left same kept. kept ∙ ap (λ (a : Areas). a.cell) same)

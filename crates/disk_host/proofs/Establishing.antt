-- What the making of a first network on a disk comes to, by what its steps came to.
use Rattle.std.proofs.Common.{◌≡◌, ◌≢◌, ◌≤◌, ◌∙◌, inl, Option, Some, None, Result, Ok, Err, OnOk, IsSome, false, true, get_or, refl, sym, ap, subst, arith}
use Rattle.net_model.specs.NetData.{NetData}
use Rattle.host_core.specs.DiskView.{Areas, DiskView, Untouched, HasArea}
use Rattle.host_core.specs.Faults.{Rose}
use Rattle.host_core.specs.Stops.{Steps, Stays}
use Rattle.host_core.specs.declared.MakeFault.{MakeFault}
use Rattle.host_core.specs.declared.MakeFault.TheVariants.{Exists, Failed}
use Rattle.host_core.proofs.lemmas.Counts.{rose_after}
use Rattle.host_core.proofs.lemmas.Moments.{weaken, follow}
use Rattle.call_journal.specs.Area.{net_held, kernel_net}
use Rattle.disk_host.specs.Slots.{state_of, IsShut, AreasMade}
use Rattle.disk_host.specs.Kept.{IsKept}
use Rattle.disk_host.specs.Writes.{IsMadeOf}
use Rattle.disk_host.specs.declared.kept.Kept.{Kept}
use Rattle.disk_host.specs.Established.{Establishes}

-- nothing was written
pub unmade : (tells : Type 0) (first : NetData) (old new : DiskView) → Untouched tells old new → old.faults ≤ new.faults
    → (fault : MakeFault) → (tells → fault ≡ Exists → IsSome (kernel_net old.areas.kernel)) → (fault ≡ Failed → Rose old.faults new.faults)
    → Establishes tells first old new (Err fault)
unmade tells first old new read later fault exists failed = record {
  exists = λ t is. exists t (cc);
  met = λ t. tt;
  net = tt;
  slot = tt;
  cell = tt;
  shut = tt;
  stays = λ t some. (read.stops, read.areas t);
  same = λ t is. (read.stops, read.areas t);
  maybe = λ t. inl (ap state_of (read.areas t));
  stops = λ t. weaken Stays (AreasMade first) old.stops new.stops read.stops (λ r s left same. inl (ap state_of same));
  cause = record { later = later; failed = λ is. failed (cc) };
}

-- three facts of one answer together
pub on_ok_three : {T E : Type 0} (P Q R : Type 0) (answer : Result T E) → OnOk answer P → OnOk answer Q → OnOk answer R → OnOk answer (P × Q × R)
on_ok_three P Q R (Ok x) p q r = (p, q, r)
on_ok_three P Q R (Err e) p q r = tt

-- a network that was read is there
pub has_net : (old synced : Areas) (kept : Kept) → synced ≡ old → IsKept kept synced.kernel → IsSome (kernel_net old.kernel)
has_net old synced kept same is =
    subst (λ (n : Option NetData). IsSome n) (sym (sym (ap (λ (a : Areas). kernel_net a.kernel) same) ∙ ap net_held is.held)) refl

no_net : (net : Option NetData) → net ≡ None → IsSome net → ⊥
no_net None none some = let e : false ≡ true = some in absurd (cc)
no_net (Some n) none some = let e : Some n ≡ None = none in absurd (cc)

module _ (tells : Type 0) (first : NetData) (old mid new : DiskView) (read : Untouched tells old mid) (later : old.faults ≤ mid.faults) (none : tells → kernel_net old.areas.kernel ≡ None)
    (maybe : tells → AreasMade first mid.areas new.areas) (stops : tells → Steps (AreasMade first) mid.stops new.stops) (more : mid.faults ≤ new.faults) where
  maybe_made : tells → AreasMade first old.areas new.areas
  maybe_made t = subst (λ (a : Areas). AreasMade first a new.areas) (read.areas t) (maybe t)

  made_steps : tells → Steps (AreasMade first) old.stops new.stops
  made_steps t = follow Stays (AreasMade first) (AreasMade first) old.stops mid.stops new.stops read.stops (stops t)
      (λ r s left same. inl (ap state_of same))
      (λ q r s begin left same made. subst (λ (p : Areas). AreasMade first p s) same made)

  -- it was stored
  pub made : (tells → (kernel_net new.areas.kernel ≡ Some first) × HasArea 0 new.areas.kernel new) → (tells → IsMadeOf first new.areas.kernel)
      → (tells → (get_or new.areas.cell 0 1 ≢ 1) × HasArea 1 new.areas.cell new) → (tells → IsShut mid.areas.cell new.areas.cell)
      → Establishes tells first old new (Ok tt)
  made net slot cell shut = record {
    exists = λ t is. absurd (cc);
    met = none;
    net = net;
    slot = slot;
    cell = cell;
    shut = λ t. subst (λ (a : Areas). IsShut a.cell new.areas.cell) (read.areas t) (shut t);
    stays = λ t some. absurd (no_net (kernel_net old.areas.kernel) (none t) some);
    same = λ t is. absurd (cc);
    maybe = maybe_made;
    stops = made_steps;
    cause = record { later = omega (arith, later, more); failed = λ is. absurd (cc) };
  }

  -- a write failed
  pub unstored : Rose mid.faults new.faults → Establishes tells first old new (Err Failed)
  unstored rose = record {
    exists = λ t is. absurd (cc);
    met = λ t. tt;
    net = tt;
    slot = tt;
    cell = tt;
    shut = tt;
    stays = λ t some. absurd (no_net (kernel_net old.areas.kernel) (none t) some);
    same = λ t is. absurd (cc);
    maybe = maybe_made;
    stops = made_steps;
    cause = record { later = omega (arith, later, more); failed = λ is. rose_after old.faults mid.faults new.faults later rose };
  }

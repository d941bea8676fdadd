-- What a kernel call on the network of a disk comes to, by what its steps came to.
use Rattle.std.proofs.Common.{◌≡◌, ◌≢◌, ◌≤◌, ◌⊎◌, ◌∙◌, inl, inr, ℕ, List, Option, Some, None, Result, Ok, Err, refl, sym, ap, subst, arith}
use Rattle.net_model.specs.NetData.{NetData}
use Rattle.net_model.specs.declared.call.Call.{Call}
use Rattle.kernel_model.specs.Kernel.{step}
use Rattle.host_core.specs.DiskView.{Areas, DiskView, Untouched}
use Rattle.host_core.specs.Faults.{Rose}
use Rattle.host_core.specs.HostView.{Accepts, Refuses}
use Rattle.host_core.specs.Stops.{Stays}
use Rattle.host_core.proofs.lemmas.Counts.{rose_after}
use Rattle.host_core.proofs.lemmas.Moments.{weaken}
use Rattle.call_journal.specs.Area.{net_held, kernel_net}
use Rattle.disk_host.specs.Slots.{KeepsCell, AreasCalled}
use Rattle.disk_host.specs.Settled.{IsSettled}
use Rattle.disk_host.specs.Kept.{IsKept, IsKnown}
use Rattle.disk_host.specs.Writes.{Writes}
use Rattle.disk_host.specs.Stored.{Stores}
use Rattle.disk_host.specs.Changed.{Changes}
use Rattle.disk_host.specs.declared.kept.Kept.{Kept}
use Rattle.disk_host.specs.declared.changing.Missed.{Missed}
use Rattle.disk_host.specs.declared.changing.Missed.TheVariants.{Refused, Failed, Damaged, OutOfMemory}
use Rattle.disk_host.proofs.Calls.{stored_called, changing, cell_kept}
use Rattle.disk_host.proofs.Twice.{stays_twice}

-- a disk that nothing touched is as settled as it was
still_settled : (tells : Type 0) (old new : DiskView) → Untouched tells old new → IsSettled tells old → IsSettled tells new
still_settled tells old new read settled t = (
  λ s left. let from = read.stops.now s left in ap (λ (a : Areas). a.kernel) from.2 ∙ (settled t).0 from.0 from.1 ∙ sym (ap (λ (a : Areas). a.kernel) (read.areas t)),
  λ none. (settled t).1 (sym (ap (λ (a : Areas). kernel_net a.kernel) (read.areas t)) ∙ none),
)

-- nothing is kept
pub none_known : (kept : Option Kept) (area : List ℕ) (tells : Type 0) → kept ≡ None → tells → IsKnown kept area
none_known kept area tells none t = subst (λ (k : Option Kept). IsKnown k area) (sym none) tt

-- what is kept of a disk that nothing touched, with the same network
pub kept_still : (kept : Kept) (net : NetData) (old new : Areas) → new ≡ old → net ≡ kept.net → IsKept kept old.kernel → IsKept (record kept { net = net }) new.kernel
kept_still kept net old new same is was =
    subst (λ (a : Areas). IsKept (record kept { net = net }) a.kernel) (sym same) (subst (λ (n : NetData). IsKept (record kept { net = n }) old.kernel) (sym is) was)

-- the call wasn't made, and nothing was written
pub unmade : (tells : Type 0) (call : Call) (old new : DiskView) → Untouched tells old new → IsSettled tells old → old.faults ≤ new.faults
    → (kept : Option Kept) (missed : Missed) → (tells → IsKnown kept new.areas.kernel)
    → (tells → (k : ℕ) → missed ≡ Refused k → Refuses call (kernel_net old.areas.kernel) k) → (tells → missed ≡ Damaged → ⊥) → (missed ≡ Failed → Rose old.faults new.faults)
    → Changes tells call old new kept (Err missed)
unmade tells call old new read settled later kept missed known refused damaged failed = record {
  known = known;
  accepted = λ t. tt;
  refused = λ t k is. refused t k (cc);
  writes = tt;
  maybe = λ t. record { cell = ap (λ (a : Areas). a.cell) (read.areas t); net = inl (ap (λ (a : Areas). kernel_net a.kernel) (read.areas t)) };
  settled = λ so. still_settled tells old new read settled;
  same = λ so. (read.areas, read.stops);
  damaged = λ t is. damaged t (cc);
  stops = λ t. weaken Stays (AreasCalled call) old.stops new.stops read.stops
      (λ r s left same. record { cell = ap (λ (a : Areas). a.cell) same; net = inl (ap (λ (a : Areas). kernel_net a.kernel) same) });
  stops_cell = weaken Stays KeepsCell old.stops new.stops read.stops (λ r s left same. ap (λ (a : Areas). a.cell) same);
  cause = record { later = later; failed = λ is. failed (cc) };
}

-- the fault of a store
fault_of : (answer : Result Kept Missed) (missed : Missed) → answer ≡ Err missed → (answer ≡ Err Failed) ⊎ (answer ≡ Err OutOfMemory) → (missed ≡ Failed) ⊎ (missed ≡ OutOfMemory)
fault_of answer missed is (inl failed) = inl (cc)
fault_of answer missed is (inr refused) = inr (cc)

not_refused : (missed : Missed) (k : ℕ) → (missed ≡ Failed) ⊎ (missed ≡ OutOfMemory) → missed ≡ Refused k → ⊥
not_refused missed k (inl failed) is = absurd (cc)
not_refused missed k (inr refused) is = absurd (cc)

not_damaged : (missed : Missed) → (missed ≡ Failed) ⊎ (missed ≡ OutOfMemory) → missed ≡ Damaged → ⊥
not_damaged missed (inl failed) is = absurd (cc)
not_damaged missed (inr refused) is = absurd (cc)

module _ (tells : Type 0) (call : Call) (old mid new : DiskView) (read : Untouched tells old mid) (settled : IsSettled tells old) (later : old.faults ≤ mid.faults)
    (before : NetData) (now : Kept) (was : tells → kernel_net old.areas.kernel ≡ Some before) (stepped : step call before ≡ Ok now.net) where
  maybe_called : {answer : Result Kept Missed} → Stores tells call now mid new answer → tells → AreasCalled call old.areas new.areas
  maybe_called stores t =
      subst (λ (a : Areas). AreasCalled call a new.areas) (read.areas t)
      (stored_called call before now.net stepped mid.areas new.areas (ap (λ (a : Areas). kernel_net a.kernel) (read.areas t) ∙ was t) (stores.maybe t))

  -- the network after the call is stored
  pub made : (after : Kept) → Stores tells call now mid new (Ok after) → Changes tells call old new (Some after) (Ok tt)
  made after stores = record {
    known = stores.kept;
    accepted = λ t. subst (λ (n : Option NetData). Accepts call n (kernel_net new.areas.kernel)) (sym (was t))
        (record { next = now.net; stepped = stepped; becomes = ap net_held (stores.kept t).held ∙ ap (λ (n : NetData). Some n) stores.net });
    refused = λ t k is. absurd (cc);
    writes = λ t. subst (λ (a : Areas). Writes call a.kernel new.areas.kernel) (read.areas t) (stores.writes t);
    maybe = maybe_called stores;
    settled = λ so t. (stores.sure t, λ none. let e : Some after.net ≡ None = sym (ap net_held (stores.kept t).held) ∙ none in absurd cc);
    same = tt;
    damaged = λ t is. absurd (cc);
    stops = λ t. changing call before now.net stepped old mid new.stops (settled t).0 (was t) read.stops (stores.stops t);
    stops_cell = cell_kept old.stops mid.stops new.stops read.stops stores.stops_cell;
    cause = record { later = omega (arith, later, stores.cause.later); failed = λ is. absurd (cc) };
  }

  -- where no write failed, nothing is touched
  untouched : (missed : Missed) → (missed ≡ Failed) ⊎ (missed ≡ OutOfMemory) → Stores tells call now mid new (Err missed) → missed ≢ Failed → Untouched tells old new
  untouched missed (inl failed) stores so = absurd (so failed)
  untouched missed (inr refused) stores so =
      let same = stores.same (ap (λ (e : Missed). Err e) refused) in
      record { areas = λ t. same.0 t ∙ read.areas t; stops = stays_twice old.stops mid.stops new.stops read.stops same.1 }

  -- it isn't stored
  pub missed_by : (kept : Option Kept) → kept ≡ None → (missed : Missed) → Stores tells call now mid new (Err missed) → Changes tells call old new kept (Err missed)
  missed_by kept none missed stores =
      let fault = fault_of (Err missed) missed refl stores.missed in
      record {
        known = none_known kept new.areas.kernel tells none;
        accepted = λ t. tt;
        refused = λ t k is. absurd (not_refused missed k fault (cc));
        writes = tt;
        maybe = maybe_called stores;
        settled = λ so. still_settled tells old new (untouched missed fault stores (λ is. so (ap (λ (e : Missed). Err e) is))) settled;
        same = λ so. let same = untouched missed fault stores (λ is. so (ap (λ (e : Missed). Err e) is)) in (same.areas, same.stops);
        damaged = λ t is. not_damaged missed fault (cc);
        stops = λ t. changing call before now.net stepped old mid new.stops (settled t).0 (was t) read.stops (stores.stops t);
        stops_cell = cell_kept old.stops mid.stops new.stops read.stops stores.stops_cell;
        cause = record {
          later = omega (arith, later, stores.cause.later);
          failed = λ is. rose_after old.faults mid.faults new.faults later (stores.cause.failed (let e : missed ≡ Failed = cc in ap (λ (x : Missed). Err x) e));
        };
      }
